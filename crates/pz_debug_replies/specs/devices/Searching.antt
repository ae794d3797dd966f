-- Processes by their paths.
use Rattle.std.specs.Prelude.{◌≡◌, ◌<◌, ℕ, List, length}
use Rattle.pz_classes_code.specs.pz_syntax.Classes.{ModelTree}
use Rattle.pz_rules.specs.pz_bind_rules.Nest.{processes}
use Rattle.pz_trace.specs.Labels.{path_of}

-- process i is the first with this path
pub record IsFirst (m : ModelTree) (word : List ℕ) (i : ℕ) : Type 0 where
  pub there : i < length (processes m)
  pub is_path : path_of m i ≡ word
  pub first : (j : ℕ) → j < i → path_of m j ≡ word → ⊥

-- none has it
abbrev pub IsOfNone : ModelTree → List ℕ → Type 0
IsOfNone m word = (j : ℕ) → j < length (processes m) → path_of m j ≡ word → ⊥
