-- Nodes that are dropped are no more than twice as many as the parts that they stand for.
use Rattle.std.proofs.Common.{◌≡◌, ℕ, suc, ◌+◌, ◌*◌, ◌≤◌, refl, arith}
use Rattle.pz_nodes_shapes.specs.Rose.{node, none, gone, more, width, size, sizes}
use Rattle.pz_rules.specs.Terms.{term_at}
use Rattle.pz_tree_nodes.specs.Planting.{nodes_of, nodes_of_all}
use Rattle.pz_tree_nodes.specs.pz_tree_standing.Heads.{Head, leaf, wait, sequence, parallel, select, guarded, frame, abort, idle, handling, shifted, Shape, Shapes, inner_clock, formed}
use Rattle.pz_tree_nodes.specs.pz_tree_standing.Standing.{term_of, terms_of}
use Rattle.pz_tree_nodes.specs.pz_tree_standing.Whole.{IsNoShift, HasParts, Whole, AreWhole}
use Rattle.pz_tree_nodes.specs.View.{Plant, Plants, shape_of, shapes_of, term_in}

-- a node that is no shift node has one to spare, for a shift node over it
abbrev spare : Head → ℕ
spare (shifted s) = 0
spare h = 1

no_shift_spares : (h : Head) → IsNoShift h → spare h ≡ 1
no_shift_spares (leaf s) p = refl
no_shift_spares (wait due at) p = refl
no_shift_spares (sequence rest) p = refl
no_shift_spares parallel p = refl
no_shift_spares select p = refl
no_shift_spares (guarded e at s) p = refl
no_shift_spares (frame number inputs results) p = refl
no_shift_spares abort p = refl
no_shift_spares (idle again s) p = refl
no_shift_spares (handling again s) p = refl
no_shift_spares (shifted s) p = absurd p

abbrev Bound : ℕ → Shape → Type 0
Bound c (node k x ss) = spare x.head + size (node k x ss) ≤ 2 * nodes_of (term_of c (node k x ss))

abbrev Bounds : Head → ℕ → ℕ → Shapes → Type 0
Bounds h c i none = Unit {0}
Bounds h c i (gone ss) = Bounds h c (suc i) ss
Bounds h c i (more s ss) = Bound (inner_clock h i c) s × Bounds h c (suc i) ss

bounded : (c : ℕ) (s : Shape) → Bound c s → size s ≤ 2 * nodes_of (term_of c s)
bounded c (node k x ss) b = omega (arith, b)

none_there : (ss : Shapes) → width ss ≡ 0 → sizes ss ≡ 0
none_there none p = refl
none_there (gone ss) p = absurd (omega (arith, p))
none_there (more s ss) p = absurd (omega (arith, p))

one_there : (h : Head) (c i : ℕ) (ss : Shapes) → width ss ≡ 1 → Bounds h c i ss → sizes ss ≤ 2 * nodes_of (term_at (terms_of h c i ss) 0)
one_there h c i none p b = absurd (omega (arith, p))
one_there h c i (gone ss) p b = omega (arith, none_there ss (let e : width ss ≡ 0 = omega (arith, p) in e))
one_there h c i (more s ss) p b = omega (arith, bounded (inner_clock h i c) s b.0, none_there ss (let e : width ss ≡ 0 = omega (arith, p) in e))

two_there : (h : Head) (c i : ℕ) (ss : Shapes) → width ss ≡ 2 → Bounds h c i ss → sizes ss ≤ 2 * nodes_of (term_at (terms_of h c i ss) 0) + 2 * nodes_of (term_at (terms_of h c i ss) 1)
two_there h c i none p b = absurd (omega (arith, p))
two_there h c i (gone ss) p b = omega (arith, one_there h c (suc i) ss (let e : width ss ≡ 1 = omega (arith, p) in e) b)
two_there h c i (more s ss) p b = omega (arith, bounded (inner_clock h i c) s b.0, one_there h c (suc i) ss (let e : width ss ≡ 1 = omega (arith, p) in e) b.1)

all_there : (h : Head) (c i : ℕ) (ss : Shapes) → Bounds h c i ss → sizes ss ≤ 2 * nodes_of_all (terms_of h c i ss)
all_there h c i none b = omega arith
all_there h c i (gone ss) b = omega (arith, all_there h c (suc i) ss b)
all_there h c i (more s ss) b = omega (arith, bounded (inner_clock h i c) s b.0, all_there h c (suc i) ss b.1)

form_there : (h : Head) (c : ℕ) (ss : Shapes) → HasParts h ss → Bounds h c 0 ss → spare h + suc (sizes ss) ≤ 2 * nodes_of (formed h c (terms_of h c 0 ss))
form_there (leaf s) c ss p b = omega (arith, none_there ss p)
form_there (wait due at) c ss p b = omega (arith, none_there ss p)
form_there (sequence rest) c ss p b = omega (arith, one_there (sequence rest) c 0 ss p b)
form_there parallel c ss p b = omega (arith, all_there parallel c 0 ss b)
form_there select c ss p b = omega (arith, all_there select c 0 ss b)
form_there (guarded e at s) c ss p b = omega (arith, one_there (guarded e at s) c 0 ss p b)
form_there (frame number inputs results) c ss p b = omega (arith, one_there (frame number inputs results) c 0 ss p b)
form_there abort c ss p b = omega (arith, two_there abort c 0 ss p b)
form_there (idle again s) c ss p b = omega (arith, two_there (idle again s) c 0 ss p b)
form_there (handling again s) c ss p b = omega (arith, two_there (handling again s) c 0 ss p b)
form_there (shifted s) c none p b = absurd p
form_there (shifted s) c (gone ss) p b = absurd p
form_there (shifted s) c (more (node k y ts) none) p b = omega (arith, b.0, no_shift_spares y.head p)
form_there (shifted s) c (more (node k y ts) (gone ss)) p b = absurd p
form_there (shifted s) c (more (node k y ts) (more t ss)) p b = absurd p

mutual
  whole_bound : (c : ℕ) (s : Shape) → Whole s → Bound c s
  whole_bound c (node k x ss) w = form_there x.head c ss w.0 (whole_bounds x.head c 0 ss w.1)

  whole_bounds : (h : Head) (c i : ℕ) (ss : Shapes) → AreWhole ss → Bounds h c i ss
  whole_bounds h c i none w = tt
  whole_bounds h c i (gone ss) w = whole_bounds h c (suc i) ss w
  whole_bounds h c i (more s ss) w = (whole_bound (inner_clock h i c) s w.0, whole_bounds h c (suc i) ss w.1)

mutual
  size_seen : (p : Plant) → size (shape_of p) ≡ size p
  size_seen (node k x ps) = Rattle.std.proofs.Common.ap suc (sizes_seen ps)

  sizes_seen : (ps : Plants) → sizes (shapes_of ps) ≡ sizes ps
  sizes_seen none = refl
  sizes_seen (gone ps) = sizes_seen ps
  sizes_seen (more p ps) = λ i. size_seen p i + sizes_seen ps i

pub few_nodes : (c : ℕ) (p : Plant) → Whole (shape_of p) → size p ≤ 2 * nodes_of (term_in c p)
few_nodes c p w = omega (arith, size_seen p, bounded c (shape_of p) (whole_bound c (shape_of p) w))

pub few_below : (h : Head) (c i : ℕ) (ps : Plants) → AreWhole (shapes_of ps) → sizes ps ≤ 2 * nodes_of_all (terms_of h c i (shapes_of ps))
few_below h c i ps w = omega (arith, sizes_seen ps, all_there h c i (shapes_of ps) (whole_bounds h c i (shapes_of ps) w))
