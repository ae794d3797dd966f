-- Laws of models that have grown.
use Rattle.std.specs.Prelude.{◌≡◌, ℕ}
use Rattle.pz_bind_rules.specs.pz_syntax.Classes.{ModelTree}
use Rattle.pz_bind_rules.specs.pz_classes_rules.Ancestors.{ancestors}
use Rattle.pz_bind_rules.specs.pz_classes_rules.Soundness.{IsSound}
use Rattle.pz_env_grown.specs.Growth.{Grown}

-- Where the model is sound, each class has the ancestors that it had.
abbrev pub GrownModelsKeepAncestors : Type 0
GrownModelsKeepAncestors = (m n : ModelTree) → IsSound m → Grown m n → (c : ℕ) → ancestors m c ≡ ancestors n c
