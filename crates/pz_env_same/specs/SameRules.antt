-- Models with the same rules: one has all that the other has, and one process more behind it.
use Rattle.std.specs.Prelude.{◌≡◌, ◌<◌, ◌↔◌, ℕ, List, [], ◌∷◌, ◌++◌, length, Some, slice_get}
use Rattle.pz_rules.specs.pz_syntax.declared.tokens.Pos.{Pos}
use Rattle.pz_rules.specs.pz_syntax.declared.names.Id.{Id}
use Rattle.pz_rules.specs.pz_syntax.Classes.{ModelTree}
use Rattle.pz_rules.specs.pz_classes_rules.Members.{fields}
use Rattle.pz_rules.specs.pz_classes_rules.MethodBodies.{method_body, process_method_body}
use Rattle.pz_rules.specs.pz_classes_rules.Starts.{init}
use Rattle.pz_bind_levels.specs.Places.{Address}
use Rattle.pz_rules.specs.pz_bind_rules.Names.{path}
use Rattle.pz_rules.specs.pz_bind_rules.Nest.{processes, class_at}
use Rattle.pz_rules.specs.pz_bind_rules.Values.{values_at}
use Rattle.pz_rules.specs.pz_state.States.{StateView}
use Rattle.pz_rules.specs.declared.limits.Edition.{Edition}
use Rattle.pz_rules.specs.Settings.{Setting, Context, Home}
use Rattle.pz_rules.specs.Opening.{enter}
use Rattle.pz_rules.specs.CallLaws.{plain_call}
use Rattle.pz_rules.specs.Ports.{IsWire}

-- What evaluation takes of a model is the same in both: the fields of a data class, and the bodies of its
-- methods. Class numbers that a model does not have are no exception.
pub record SameData (m n : ModelTree) : Type 0 where
  pub fields : (c : ℕ) → fields m c ≡ fields n c
  pub bodies : (c : ℕ) (name : List ℕ) (inputs : ℕ) → method_body m c name inputs ≡ method_body n c name inputs

abbrev pub home_in : ModelTree → Edition → ℕ → Home
home_in m edition class = record { model = m; edition = edition; class = class }

-- What the statements of processes of this class take of a model is the same in both: the bodies of their
-- methods, and what a plain call becomes.
pub record SameClass (m n : ModelTree) (class : ℕ) : Type 0 where
  pub bodies : (name : List ℕ) (inputs outputs : ℕ) → process_method_body m class name inputs outputs ≡ process_method_body n class name inputs outputs
  pub calls : (edition : Edition) (pos : Pos) (method : Id) (s : StateView)
      → enter (home_in m edition class) (plain_call pos method) s ≡ enter (home_in n edition class) (plain_call pos method) s

-- What stands at this place is of the same class in both, is named the same, and starts and goes on the same.
pub record SameProcess (m n : ModelTree) (place : Address) : Type 0 where
  pub class : class_at m place ≡ class_at n place
  pub path : path m place ≡ path n place
  pub values : values_at m place ≡ values_at n place
  pub init : init m (class_at m place) ≡ init n (class_at m place)
  pub statements : SameClass m n (class_at m place)

-- The model n has the processes of m, at the same numbers and places and with the same wires, and one more,
-- at a place of its own, behind them.
pub record SameRules (m n : ModelTree) : Type 0 where
  pub data_classes : SameData m n
  pub more : Address
  pub behind : processes n ≡ processes m ++ more ∷ []
  pub each : (i : ℕ) (place : Address) → slice_get (processes m) i ≡ Some place → SameProcess m n place
  pub wires : (i port wire : ℕ) → i < length (processes m) → IsWire m i port wire ↔ IsWire n i port wire

-- the setting with another model, and a process as its statements see it in another model
abbrev pub in_model : ModelTree → Setting → Setting
in_model n setting = record setting { model = n }

abbrev pub seen_in : ModelTree → Context → Context
seen_in n a = record a { setting = in_model n a.setting }

-- A process, as its statements see it, sees the same in the model n.
pub record SeesTheSame (n : ModelTree) (a : Context) : Type 0 where
  pub data_classes : SameData a.setting.model n
  pub statements : SameClass a.setting.model n a.class
