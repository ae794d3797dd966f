-- The active parts of a term that send or receive, listed from the nodes that stand for the term.
use Rattle.std.specs.Prelude.{◌≡◌, ◌≤◌, ℕ, List, [], ◌∷◌, Option, Some}
use Rattle.pz_nodes_shapes.specs.Rose.{Map}
use Rattle.pz_rules.specs.Laws.{part_of}
use Rattle.pz_rules.specs.Settings.{Context}
use Rattle.pz_rules.specs.Terms.{Term, height}
use Rattle.pz_rules.specs.devices.Walk.{Noted, active_parts, noted, sent_by, received_by}
use Rattle.pz_tree_nodes.specs.declared.node.What.{What}
use Rattle.pz_tree_nodes.specs.declared.found.Part.{Part}
use Rattle.pz_tree_nodes.specs.declared.found.Offering.{Offering}
use Rattle.pz_tree_nodes.specs.declared.found.Offering.TheVariants.{Sends, Receives}
use Rattle.pz_tree_nodes.specs.Choosing.{IsPart}
use Rattle.pz_tree_nodes.specs.Standing.{RightUnder}

-- the part of which this is noted, by what each part has that stands in a frame
pub record IsOf {X : Type 0} (a : Context) (m : Map What) (h : ℕ → Term → Option X) (f : ℕ) (t : Term) (x : Part) (n : Noted X) : Type 0 where
  pub place : x.place ≡ n.place
  pub part : IsPart a m f t x
  pub has : h x.frame.0 (part_of t x.place) ≡ Some n.what

-- as many, and so of each and the one at its place
abbrev pub Each : {X Y : Type 0} → (X → Y → Type 0) → List X → List Y → Type 0
Each R [] [] = Unit {0}
Each R (x ∷ xs) (y ∷ ys) = R x y × Each R xs ys
Each R xs ys = ⊥

abbrev pub AreOf : {X : Type 0} → Context → Map What → (ℕ → Term → Option X) → ℕ → Term → List Part → List (Noted X) → Type 0
AreOf a m h f t xs ns = Each (IsOf a m h f t) xs ns

-- exactly the active parts that send, by place, or those that receive
abbrev pub AreOffering : Offering → Context → Map What → ℕ → Term → List Part → Type 0
AreOffering Sends a m f t xs = AreOf a m (sent_by a) f t xs (noted (sent_by a) (active_parts a f t))
AreOffering Receives a m f t xs = AreOf a m (λ g. received_by) f t xs (noted (λ g. received_by) (active_parts a f t))

-- whatever right nodes stand under the root, for a term that is no higher than there are levels
abbrev pub ListRule : Offering → Map What → Option ℕ → ℕ → ℕ → ℕ → List Part → Type 0
ListRule offering m root f c levels xs = (a : Context) (t : Term) → RightUnder a m f root c t → height t ≤ levels
    → AreOffering offering a m f t xs
