-- Parts that were planted side by side, and a node that is put over them.
use Rattle.std.specs.Prelude.{◌≡◌, ◌≢◌, ◌+◌, ℕ, suc, List, ◌++◌, drop, Option, Some, None}
use Rattle.pz_nodes_shapes.specs.Rose.{Map, roots, width, sizes, has_any, StandAll}
use Rattle.pz_nodes_shapes.specs.Change.{Change, no_key}
use Rattle.pz_rules.specs.declared.term.Term as code
use Rattle.pz_rules.specs.Terms.{Term, Terms, no_terms, and, count}
use Rattle.pz_rules.specs.View.{terms_view}
use Rattle.pz_tree_standing.specs.Heads as heads
use Rattle.pz_tree_standing.specs.Standing.{HeadFits}
use Rattle.pz_tree_standing.specs.Whole.{HasParts}
use Rattle.pz_tree_nodes.specs.declared.kept.Kept.{Kept}
use Rattle.pz_tree_nodes.specs.declared.node.Head.{Head}
use Rattle.pz_tree_nodes.specs.declared.node.What.{What}
use Rattle.pz_tree_nodes.specs.Keeping.{IsKept, AreKept, joined}
use Rattle.pz_tree_nodes.specs.View.{Plants, head_view, terms_in}
use Rattle.pz_tree_nodes.specs.Tended.{AreTended}
use Rattle.pz_tree_nodes.specs.Planting.{EndsInTime, EndInTime, nodes_of, nodes_of_all, Planted}

-- under the keys stand, apart from each other, what stands for the terms
pub record ArePlanted (m n : Map What) (c : ℕ) (ts : Terms) (keys : List (Option ℕ)) : Type 0 where
  pub plants : Plants
  pub under : roots plants ≡ keys
  pub stand : StandAll n plants
  pub change : Change m n no_key (has_any plants)
  pub tended : (f : ℕ) → AreTended f c plants
  pub means : ts ≡ terms_in c plants
  pub size : sizes plants ≡ nodes_of_all ts

-- with what is kept, and the steps that were taken
pub record PartPlanted (m n : Map What) (c : ℕ) (t : Term) (key : Option ℕ) (k : Kept) (old new : ℕ) : Type 0 where
  pub planted : Planted m n c t key
  pub kept : IsKept c t k
  pub ticks : new ≡ old + nodes_of t

pub record TwoPlanted (m n : Map What) (c : ℕ) (t u : Term) (keys : List (Option ℕ)) (k l : Kept) (old new : ℕ) : Type 0 where
  pub planted : ArePlanted m n c (and t (and u no_terms)) keys
  pub first : IsKept c t k
  pub second : IsKept c u l
  pub ticks : new ≡ old + nodes_of_all (and t (and u no_terms))

pub record AllPlanted (m n : Map What) (c : ℕ) (ts : Terms) (keys : List (Option ℕ)) (k : Kept) (old new : ℕ) : Type 0 where
  pub planted : ArePlanted m n c ts keys
  pub kept : AreKept c ts k
  pub ticks : new ≡ old + nodes_of_all ts

-- if moments are numbers of 128 bits
abbrev pub PartRule : Map What → Map What → ℕ → Term → Option ℕ → Kept → ℕ → ℕ → Type 0
PartRule m n c t key k old new = EndsInTime c t → PartPlanted m n c t key k old new

abbrev pub TwoRule : Map What → Map What → ℕ → Term → Term → List (Option ℕ) → Kept → Kept → ℕ → ℕ → Type 0
TwoRule m n c t u keys k l old new = EndsInTime c t → EndsInTime c u → TwoPlanted m n c t u keys k l old new

abbrev pub AllRule : Map What → Map What → ℕ → Terms → List (Option ℕ) → Kept → ℕ → ℕ → Type 0
AllRule m n c ts keys k old new = EndInTime c ts → AllPlanted m n c ts keys k old new

-- the parts before this number are planted: once the others are too, all are
abbrev pub PlantsOn : Map What → Map What → ℕ → List code.Term → ℕ → List (Option ℕ) → Kept → ℕ → ℕ → Type 0
PlantsOn m0 m c parts i keys kept old now =
    (n : Map What) (others : List (Option ℕ)) (k : Kept) (new : ℕ)
    → AllRule m n c (terms_view (drop i parts)) others k now new
    → AllRule m0 n c (terms_view parts) (keys ++ others) (joined kept k) old new

-- a node over parts that stand for these terms stands for this one, where the clocks of all show c
pub record Forms (c : ℕ) (h : heads.Head) (ts : Terms) (t : Term) : Type 0 where
  pub clocks : (i : ℕ) → heads.inner_clock h i c ≡ c
  pub fits : HeadFits h c
  pub parts : (ss : heads.Shapes) → width ss ≡ count ts → HasParts h ss
  pub forms : heads.formed h c ts ≡ t
  pub size : nodes_of t ≡ suc (nodes_of_all ts)

-- something was put under a key that had nothing
pub record IsPut {T : Type 0} (m n : ℕ → Option T) (k : ℕ) (x : T) : Type 0 where
  pub vacant : m k ≡ None
  pub there : n k ≡ Some x
  pub others : (j : ℕ) → j ≢ k → n j ≡ m j

-- whatever stands under these keys for parts of a term: now the term stands over it
abbrev pub Puts : Map What → Map What → Head → List (Option ℕ) → Kept → ℕ → ℕ → Option ℕ → Kept → Type 0
Puts n p h keys kept mid new key k =
    (m : Map What) (c : ℕ) (ts : Terms) (t : Term) (old : ℕ)
    → ArePlanted m n c ts keys → mid ≡ old + nodes_of_all ts
    → Forms c (head_view h) ts t → IsKept c t kept
    → PartPlanted m p c t key k old new
