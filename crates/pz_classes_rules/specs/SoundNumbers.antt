-- What 32 bits number in a sound model whose text has few marks.
use Rattle.std.specs.Prelude.{◌≡◌, ◌<◌, ◌^◌, ℕ, suc, length, Some}
use Rattle.pz_classes_code.specs.pz_syntax.Classes.{DeclTree, ModelTree}
use Rattle.pz_classes_code.specs.pz_syntax.ModelText.{HasFewMarks}
use Rattle.pz_classes_rules.specs.Numbers.{declaration}
use Rattle.pz_classes_rules.specs.Members.{ports}
use Rattle.pz_classes_rules.specs.Instances.{instances}
use Rattle.pz_classes_rules.specs.Soundness.{IsSound}

-- its classes, the ports of each class with those that it inherits, and the instances that stand in
-- a class or system
pub record NumbersFit (m : ModelTree) : Type 0 where
  pub classes : suc (length m.decls) < 2 ^ 32
  pub ports : (c : ℕ) → c < suc (length m.decls) → length (ports m c) < 2 ^ 32
  pub instances : (c : ℕ) (d : DeclTree) → declaration m c ≡ Some d → length (instances d) < 2 ^ 32

abbrev pub SoundNumbersFit : Type 0
SoundNumbersFit = (m : ModelTree) → HasFewMarks m → IsSound m → NumbersFit m
