-- An order in which each class comes after its parent, and all that descend from a class come
-- before the next that does not.
use Rattle.std.specs.Prelude.{◌≡◌, ◌<◌, ◌≤◌, ◌-◌, ℕ, List, [], ◌∷◌, length, map, drop, Option, Some, None, Contains}
use Rattle.std.specs.List.{IsDistinct}
use Rattle.std.proofs.Common.{eqb}
use Rattle.pz_classes_lineage.specs.declared.visit.Visit.{Visit}

abbrev pub innermost : {A : Type 0} → List A → Option A
innermost [] = None
innermost (x ∷ xs) = Some x

-- the outermost n of these, of which the first is the innermost
abbrev pub outermost : {A : Type 0} → ℕ → List A → List A
outermost n xs = drop (length xs - n) xs

-- While these classes are open, the innermost first, the walk goes on so: it leaves all but the
-- outermost, as many as the depth of the visit says, and opens a class whose parent is the
-- innermost of those, or that has no parent where none is left.
abbrev pub Visits : (ℕ → Option ℕ) → List ℕ → List Visit → Type 0
Visits up line [] = Unit {0}
Visits up line (v ∷ vs) = (v.depth ≤ length line) × (up v.class ≡ innermost (outermost v.depth line)) × Visits up (v.class ∷ outermost v.depth line) vs

abbrev pub visited : List Visit → List ℕ
visited = map (λ v. v.class)

-- a walk that comes to each of these classes once
pub record IsPreorder (up : ℕ → Option ℕ) (count : ℕ) (visits : List Visit) : Type 0 where
  pub nested : Visits up [] visits
  pub whole : (c : ℕ) → c < count → Contains (visited visits) c
  pub within : (c : ℕ) → Contains (visited visits) c → c < count
  pub once : IsDistinct eqb (visited visits)
