-- Configurations of which one has one process more.
use Rattle.std.specs.Prelude.{◌≡◌, ◌<◌, ℕ, [], ◌∷◌, ◌++◌, length, Result, Ok}
use Rattle.pz_rules.specs.pz_syntax.Classes.{ModelTree}
use Rattle.pz_rules.specs.pz_bind_rules.Nest.{processes}
use Rattle.pz_rules.specs.pz_offer.declared.trouble.Trouble.{Trouble}
use Rattle.pz_rules.specs.declared.action.Action.{Action}
use Rattle.pz_rules.specs.declared.action.Action.TheVariants.{Internal, Comm}
use Rattle.pz_rules.specs.Meanings.{and_then}
use Rattle.pz_rules.specs.Settings.{Setting, Process}
use Rattle.pz_rules.specs.Configurations.{Config, IsWhole}

-- At the same clock e has the processes of c, and behind them p. Of c there are as many as its model has.
pub record OneMore (setting : Setting) (c e : Config) (p : Process) : Type 0 where
  pub whole : IsWhole setting c
  pub clock : e.clock ≡ c.clock
  pub processes : e.processes ≡ c.processes ++ p ∷ []

-- the configuration with the process behind its own
abbrev pub behind : Config → Process → Config
behind c p = record c { processes = c.processes ++ p ∷ [] }

abbrev pub result_behind : Result Config Trouble → Process → Result Config Trouble
result_behind r p = and_then r (λ c. Ok (behind c p))

-- the number of a process that the model m has
abbrev pub IsOf : ModelTree → ℕ → Type 0
IsOf m i = i < length (processes m)

-- the number of the one behind them
abbrev pub number_of_more : ModelTree → ℕ
number_of_more m = length (processes m)

-- an action of processes of the model
abbrev pub IsActionOf : ModelTree → Action → Type 0
IsActionOf m (Internal at kind pos) = IsOf m at.process
IsActionOf m (Comm wire sender receiver message parcel) = IsOf m sender.process × IsOf m receiver.process
