-- A model in which a process stands for the environment of a driven system, and what is the same in both.
use Rattle.std.specs.Prelude.{◌≡◌, ◌≤◌, ◌<◌, ℕ, List}
use Rattle.std.specs.List.{AllZip}
use Rattle.pz_env_tree.specs.pz_syntax.declared.tokens.Pos.{Pos}
use Rattle.pz_env_tree.specs.pz_syntax.Classes.{ModelTree}
use Rattle.pz_env_tree.specs.pz_copy.Parcels.{ParcelView}
use Rattle.pz_env_tree.specs.pz_offer.declared.end.End.{End}
use Rattle.pz_env_tree.specs.pz_rules.declared.limits.Edition.TheVariants.{Two}
use Rattle.pz_env_tree.specs.pz_rules.declared.limits.Limits.{Limits}
use Rattle.pz_env_tree.specs.pz_rules.declared.action.Kind.{Kind}
use Rattle.pz_env_tree.specs.pz_rules.declared.action.Action.{Action}
use Rattle.pz_env_tree.specs.pz_rules.declared.action.Action.TheVariants.{Internal, Comm}
use Rattle.pz_env_tree.specs.pz_rules.Settings.{Setting}
use Rattle.pz_env_tree.specs.pz_rules.Runs as runs
use Rattle.pz_env_tree.specs.pz_rules.Runs.{Event}
use Rattle.pz_env_tree.specs.pz_env_rules.Joining.{Driving}
use Rattle.pz_env_tree.specs.pz_env_rules.Driven.{environment_number}
use Rattle.pz_env_same.specs.SameRules.{SameRules, in_model}
use Rattle.pz_env_mimics.specs.Environments.{ArePlain, HasEnvironment}

-- The edition in which a plain call opens at once; a unit and a level of evaluation, for the number of a wait;
-- and the height of what is left of the environment. Units for the values of a line are no matter here: where
-- there are too few, that is a trouble in both.
pub record MayDrive (limits : Limits) : Type 0 where
  pub edition : limits.edition ≡ Two
  pub units : 1 ≤ limits.units
  pub depth : 1 ≤ limits.depth
  pub height : 3 ≤ limits.height

-- the model has the rules of the system, and its one process more is the environment
pub record Closes (g : Driving) (n : ModelTree) : Type 0 where
  pub rules : SameRules g.setting.model n
  pub environment : HasEnvironment g n
  pub lines : ArePlain g.lines
  pub limits : MayDrive g.setting.limits

abbrev pub closed : Driving → ModelTree → Setting
closed g n = in_model n g.setting

-- Ends are the same, but for the place in the environment: there is one part that acts, and no line tells
-- where it stands.
pub record SameEnd (g : Driving) (a b : End) : Type 0 where
  pub process : a.process ≡ b.process
  pub place : a.process < environment_number g → a.place ≡ b.place

pub data SameAction (g : Driving) : Action → Action → Type 0 where
  internal : (a b : End) (kind : Kind) (pos : Pos) → SameEnd g a b → SameAction g (Internal a kind pos) (Internal b kind pos)
  communication : (wire : ℕ) (sender other_sender receiver other_receiver : End) (message : List ℕ) (parcel : ParcelView)
      → SameEnd g sender other_sender → SameEnd g receiver other_receiver
      → SameAction g (Comm wire sender receiver message parcel) (Comm wire other_sender other_receiver message parcel)

pub data SameEvent (g : Driving) : Event → Event → Type 0 where
  acted : (clock count number : ℕ) (a b : Action) → SameAction g a b → SameEvent g (runs.acted clock count number a) (runs.acted clock count number b)
  passed : (clock time : ℕ) → SameEvent g (runs.passed clock time) (runs.passed clock time)

-- the same events, one by one
abbrev pub SameEvents : Driving → List Event → List Event → Type 0
SameEvents g = AllZip (SameEvent g)
