-- Parts that are dropped, and how many steps that takes.
use Rattle.std.specs.Prelude.{◌≡◌, ◌+◌, ℕ, List, drop, Option}
use Rattle.pz_nodes_shapes.specs.Rose.{Rose, Roses, Map, root, roots, size, sizes, has, has_any, Stands, StandAll}
use Rattle.pz_nodes_shapes.specs.Change.{Change, no_key}

-- whatever stands under the key is gone, in one step a node
abbrev pub DropRule : {X : Type 0} → Map X → Map X → ℕ → ℕ → ℕ → Type 0
DropRule {X} m n key old new =
    (s : Rose X)
    → Stands m s
    → root s ≡ key
    → Change m n (has s) no_key × (new ≡ old + size s)

abbrev pub DropAllRule : {X : Type 0} → Map X → Map X → List (Option ℕ) → ℕ → ℕ → Type 0
DropAllRule {X} m n kids old new =
    (ss : Roses X)
    → StandAll m ss
    → roots ss ≡ kids
    → Change m n (has_any ss) no_key × (new ≡ old + sizes ss)

-- the children before this number are gone: once the others are too, all are
abbrev pub DropsOn : {X : Type 0} → Map X → Map X → List (Option ℕ) → ℕ → ℕ → ℕ → Type 0
DropsOn {X} m0 m kids i old now =
    (n : Map X) (new : ℕ)
    → DropAllRule m n (drop i kids) now new
    → DropAllRule m0 n kids old new
