-- Rows of shapes, worked out.
use Rattle.std.proofs.Common.{◌≡◌, ℕ, [], ◌∷◌, Some, None, refl, arith}
use Rattle.pz_nodes.specs.Arena.{Arena, find}
use Rattle.pz_nodes_shapes.specs.declared.node.Node.{Node}
use Rattle.pz_nodes_shapes.specs.Rose.{Rose, node, none, gone, more, kid_of, with_kid, kids, roots, size, present, width, Stands}
use Rattle.pz_nodes_shapes.specs.Reading.{read, depth}

-- under key 0 a node with two children, under 2 and 1, and one between them that is gone
abbrev arena : Arena (Node ℕ)
arena = record {
  slots = Some (record { what = 10; kids = Some 2 ∷ None ∷ Some 1 ∷ [] }) ∷ Some (record { what = 11; kids = [] }) ∷ Some (record { what = 12; kids = [] }) ∷ None ∷ [];
  spare = 5;
}

abbrev shape : Rose ℕ
shape = node 0 10 (more (node 2 12 none) (gone (more (node 1 11 none) none)))

it_stands : Stands (find arena) shape
it_stands = (refl, refl, ((λ k p q. grind arith), (refl, refl, tt), ((λ k p q. absurd cc), (refl, refl, tt), tt)))

it_is_read : read 2 (find arena) 0 ≡ Some shape
it_is_read = refl

-- with less fuel its children are not seen
nothing_read : read 0 (find arena) 0 ≡ None
nothing_read = refl

no_such_key : read 2 (find arena) 3 ≡ None
no_such_key = refl

three_nodes : size shape ≡ 3
three_nodes = refl

two_levels : depth shape ≡ 2
two_levels = refl

two_there : present (kids shape) ≡ 2
two_there = refl

three_places : width (kids shape) ≡ 3
three_places = refl

last_child : kid_of (find arena 0) 2 ≡ Some 1
last_child = refl

gone_child : kid_of (find arena 0) 1 ≡ None
gone_child = refl

-- the first child goes too
one_left : roots (with_kid (kids shape) 0 None) ≡ None ∷ None ∷ Some 1 ∷ []
one_left = refl
