-- What there is to choose from where a run has ended.
use Rattle.std.specs.Prelude.{◌≢◌, ℕ, ◌+◌, List, [], ◌∷◌, ◌++◌, codes}
use Rattle.std.specs.Fmt.{decimal}
use Rattle.pz_rules.specs.pz_syntax.Classes.{ModelTree}
use Rattle.pz_rules.specs.declared.action.Action.{Action}
use Rattle.pz_rules.specs.declared.moment.Moment.TheVariants.{Actions}
use Rattle.pz_rules.specs.Settings.{Setting}
use Rattle.pz_rules.specs.Configurations.{Config}
use Rattle.pz_rules.specs.Offers.{IsOffers}
use Rattle.pz_rules.specs.Moments.{IsMoment}
use Rattle.pz_rules.specs.Runs.{Ending, halted}
use Rattle.pz_watch_points.specs.pz_trace.Labels.{label}
use Rattle.pz_watch_points.specs.pz_trace.Lines.{newline}

-- where a run was stopped before an action, the offers in their order; else there are none
pub data AreLeft (setting : Setting) (end : Config) : Ending → List Action → Type 0 where
  offered : (n : ℕ) (actions : List Action) → IsMoment setting end (Actions n) → IsOffers setting end actions → AreLeft setting end halted actions
  no_offers : ((n : ℕ) → IsMoment setting end (Actions n) → ⊥) → AreLeft setting end halted []
  not_stopped : (ending : Ending) → ending ≢ halted → AreLeft setting end ending []

-- `offer k label`
abbrev pub offer_line : ModelTree → ℕ → Action → List ℕ
offer_line m k a = codes "offer " ++ (decimal k ++ (codes " " ++ (label m a ++ newline)))

-- a line for each, from number k on
abbrev pub offers_text : ModelTree → ℕ → List Action → List ℕ
offers_text m k [] = []
offers_text m k (a ∷ actions) = offer_line m k a ++ offers_text m (k + 1) actions
