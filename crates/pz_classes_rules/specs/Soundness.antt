-- What a sound model is.
use Rattle.pz_classes_code.specs.pz_syntax.Classes.{ModelTree}
use Rattle.pz_check_violations.specs.declared.violation.Violation.{Violation}
use Rattle.pz_classes_rules.specs.Violations.{Violates}
use Rattle.pz_classes_rules.specs.WordRules.{BreaksWord}
use Rattle.pz_classes_rules.specs.RepeatRules.{BreaksC4}
use Rattle.pz_classes_rules.specs.InstanceRules.{BreaksC14, BreaksC15}
use Rattle.pz_classes_rules.specs.ChannelRules.{BreaksC16, BreaksC17}
use Rattle.pz_classes_rules.specs.SizeRules.{BreaksC19, BreaksC20}

-- the rules C4 to C22, which are asked once C1 to C3 hold
pub data Breaks (m : ModelTree) : Violation → Type 0 where
  a_word : (v : Violation) → BreaksWord m v → Breaks m v
  a_repeat : (v : Violation) → BreaksC4 m v → Breaks m v
  given : (v : Violation) → BreaksC14 m v → Breaks m v
  holding : (v : Violation) → BreaksC15 m v → Breaks m v
  an_end : (v : Violation) → BreaksC16 m v → Breaks m v
  two_ends : (v : Violation) → BreaksC17 m v → Breaks m v
  size : (v : Violation) → BreaksC19 m v → Breaks m v
  the_system : (v : Violation) → BreaksC20 m v → Breaks m v

-- no rule is violated
pub record IsSound (m : ModelTree) : Type 0 where
  pub classes : (v : Violation) → Violates m v → ⊥
  pub rules : (v : Violation) → Breaks m v → ⊥
