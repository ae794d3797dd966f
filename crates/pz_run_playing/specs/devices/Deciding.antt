-- What the code decides at a moment.
use Rattle.std.specs.Prelude.{◌≡◌, ◌<◌, ℕ}
use Rattle.pz_rules.specs.declared.moment.Moment.{Moment}
use Rattle.pz_rules.specs.declared.moment.Moment.TheVariants.{Actions}
use Rattle.pz_rules.specs.ChosenRuns as runs
use Rattle.pz_run_playing.specs.declared.deciding.Decision.{Decision}
use Rattle.pz_run_playing.specs.declared.deciding.Decision.TheVariants.{Stop, Take}
use Rattle.pz_run_playing.specs.Endings.{ending_of}

-- it is one of the rules
abbrev pub decision_of : Decision → runs.Decision
decision_of (Stop finale) = runs.stops_with (ending_of finale)
decision_of (Take offers number) = runs.takes offers number

-- an action is chosen
abbrev pub IfTake : Decision → (ℕ → ℕ → Type 0) → Type 0
IfTake (Stop finale) P = Unit {0}
IfTake (Take offers number) P = P offers number

-- it is one of the offers, and there may be one more action
pub record MayTake (moment : Moment) (steps chosen offers number : ℕ) : Type 0 where
  pub moment_is : moment ≡ Actions offers
  pub within : number < offers
  pub more : chosen < steps
