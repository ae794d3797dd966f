-- What a sound model says of the bodies of its methods, in positive words.
use Rattle.std.specs.Prelude.{◌≡◌, ℕ, Some, Contains}
use Rattle.pz_classes_code.specs.pz_syntax.Classes.{DeclTree, ModelTree}
use Rattle.pz_classes_code.specs.StepView.{Tree}
use Rattle.pz_classes_rules.specs.declared.method_id.Counts.{Counts}
use Rattle.pz_classes_rules.specs.Numbers.{declaration}
use Rattle.pz_classes_rules.specs.Ancestors.{ancestors}
use Rattle.pz_classes_rules.specs.Methods.{Signature}
use Rattle.pz_classes_rules.specs.Bodies.{BodyTree, bodies}
use Rattle.pz_classes_rules.specs.Starts.{init}
use Rattle.pz_classes_rules.specs.MethodBodies.{Method, own_methods, body_with}
use Rattle.pz_classes_rules.specs.FitBodies.{BodyFits, StatementFits}
use Rattle.pz_classes_rules.specs.Soundness.{IsSound}

-- some class declares a method with this body, which fits the class and each that descends from it
pub record FitsItsClass (m : ModelTree) (b : BodyTree) : Type 0 where
  pub class : ℕ
  pub counts : Counts
  pub fits : (c : ℕ) → Contains (ancestors m c) class → BodyFits m c counts b

pub record BodiesFit (m : ModelTree) : Type 0 where
  -- what a class itself declares fits the class and each that descends from it
  pub own_fit : (c a : ℕ) (d : DeclTree) (x : Method) → Contains (ancestors m c) a → declaration m a ≡ Some d
      → Contains (own_methods m a d) x → BodyFits m c x.signature.counts x.body
  -- so does each method that a class has, declared there or inherited
  pub methods_fit : (c : ℕ) (s : Signature) (b : BodyTree) → body_with m c s ≡ Some b → BodyFits m c s.counts b
  pub each_fits : (b : BodyTree) → Contains (bodies m) b → FitsItsClass m b
  -- the call with which a process starts has no locals around it
  pub starts_fit : (c : ℕ) (start : Tree) → init m c ≡ Some start → StatementFits m c 0 start

-- in a sound model all that a body names is there
abbrev pub SoundBodiesFit : Type 0
SoundBodiesFit = (m : ModelTree) → IsSound m → BodiesFit m
