-- How deep methods open in one another.
use Rattle.std.specs.Prelude.{◌≡◌, ℕ, zero, suc, Some, Contains}
use Rattle.pz_bind_rules.specs.pz_syntax.declared.names.Id.{Id}
use Rattle.pz_bind_rules.specs.pz_syntax.Classes.{ModelTree}
use Rattle.pz_bind_rules.specs.pz_classes_rules.Methods.{method_id}
use Rattle.pz_classes_openings.specs.Openings.{begun_at, called}

-- In class c no more than so many methods open in one another from method k on, itself counted.
abbrev pub Shallow : ModelTree → ℕ → ℕ → ℕ → Type 0
Shallow m c zero k = ⊥
Shallow m c (suc depth) k = (x : Id) (l : ℕ) → Contains (begun_at m k) x → called m c x ≡ Some (method_id l) → Shallow m c depth l
