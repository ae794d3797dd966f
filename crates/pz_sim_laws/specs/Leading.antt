-- What the offers of a configuration lead to.
use Rattle.std.specs.Prelude.{ℕ, Result}
use Rattle.pz_tree_standing.specs.pz_classes_rules.Soundness.{IsSound}
use Rattle.pz_tree_standing.specs.pz_offer.declared.trouble.Trouble.{Trouble}
use Rattle.pz_tree_standing.specs.pz_rules.declared.action.Action.{Action}
use Rattle.pz_tree_standing.specs.pz_rules.declared.moment.Moment.{Moment}
use Rattle.pz_tree_standing.specs.pz_rules.declared.moment.Moment.TheVariants.{Time}
use Rattle.pz_tree_standing.specs.pz_rules.Settings.{Setting}
use Rattle.pz_tree_standing.specs.pz_rules.Configurations.{Config, IsWhole}
use Rattle.pz_tree_standing.specs.pz_rules.Fitting.{IsFit}
use Rattle.pz_tree_standing.specs.pz_rules.Steps.{Next, PassesTo}
use Rattle.pz_tree_standing.specs.pz_rules.Moments.{IsMoment}
use Rattle.pz_tree_standing.specs.pz_rules.Runs.{IsChoice}

-- the offer of this number, among so many, leads to a configuration, or to a trouble
pub record LeadsTo (setting : Setting) (c : Config) (n k : ℕ) (result : Result Config Trouble) : Type 0 where
  pub action : Action
  pub chosen : IsChoice setting c n k action
  pub next : Next setting c action result

-- What is merely so is so, in a sound model: of each there is one at most, and one can be found.

abbrev pub MerelyMoment : Type 0
MerelyMoment = (setting : Setting) (c : Config) (m : Moment) → IsSound setting.model → ∥ IsMoment setting c m ∥₁ → IsMoment setting c m

abbrev pub MerelyChosen : Type 0
MerelyChosen = (setting : Setting) (c : Config) (n k : ℕ) (a : Action) → IsSound setting.model → ∥ IsChoice setting c n k a ∥₁ → IsChoice setting c n k a

-- where all that is left of processes fits their classes, if that is merely so too
abbrev pub MerelyLeads : Type 0
MerelyLeads = (setting : Setting) (c : Config) (n k : ℕ) (result : Result Config Trouble) → IsSound setting.model → ∥ IsFit setting c ∥₁
    → ∥ LeadsTo setting c n k result ∥₁ → LeadsTo setting c n k result

abbrev pub MerelyPasses : Type 0
MerelyPasses = (setting : Setting) (c next : Config) (d : ℕ) → IsSound setting.model → IsWhole setting c → IsMoment setting c (Time d)
    → ∥ PassesTo setting c d next ∥₁ → PassesTo setting c d next
