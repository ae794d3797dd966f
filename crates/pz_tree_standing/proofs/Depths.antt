-- Nodes are no more than twice as deep as their term is high.
use Rattle.std.proofs.Common.{◌≡◌, ℕ, suc, ◌+◌, ◌*◌, ◌≤◌, max, refl, arith}
use Rattle.pz_nodes_shapes.specs.Rose.{node, none, gone, more, width}
use Rattle.pz_nodes_shapes.specs.Reading.{depth, depths}
use Rattle.pz_rules.specs.Terms.{height, greatest_height, term_at}
use Rattle.pz_tree_standing.specs.Heads.{Head, leaf, wait, sequence, parallel, select, guarded, frame, abort, idle, handling, shifted, Shape, Shapes, inner_clock, formed}
use Rattle.pz_tree_standing.specs.Standing.{term_of, terms_of}
use Rattle.pz_tree_standing.specs.Whole.{IsNoShift, HasParts, Whole, AreWhole}

-- a node that is no shift node has one to spare, for a shift node over it
abbrev spare : Head → ℕ
spare (shifted s) = 0
spare h = 1

no_shift_spares : (h : Head) → IsNoShift h → spare h ≡ 1
no_shift_spares (leaf s) p = refl
no_shift_spares (wait due at) p = refl
no_shift_spares (sequence rest) p = refl
no_shift_spares parallel p = refl
no_shift_spares select p = refl
no_shift_spares (guarded e at s) p = refl
no_shift_spares (frame number inputs results) p = refl
no_shift_spares abort p = refl
no_shift_spares (idle again s) p = refl
no_shift_spares (handling again s) p = refl
no_shift_spares (shifted s) p = absurd p

none_deep : (ss : Shapes) → width ss ≡ 0 → depths ss ≡ 0
none_deep none p = refl
none_deep (gone ss) p = absurd (omega (arith, p))
none_deep (more s ss) p = absurd (omega (arith, p))

-- twice the height of its term, with what it has to spare
abbrev Bound : ℕ → Shape → Type 0
Bound c (node k x ss) = spare x.head + suc (depths ss) ≤ height (term_of c (node k x ss)) + height (term_of c (node k x ss))

abbrev Bounds : Head → ℕ → ℕ → Shapes → Type 0
Bounds h c i none = Unit {0}
Bounds h c i (gone ss) = Bounds h c (suc i) ss
Bounds h c i (more s ss) = Bound (inner_clock h i c) s × Bounds h c (suc i) ss

bounded : (c : ℕ) (s : Shape) → Bound c s → depth s ≤ height (term_of c s) + height (term_of c s)
bounded c (node k x ss) b = omega (arith, b)

one_deep : (h : Head) (c i : ℕ) (ss : Shapes) → width ss ≡ 1 → Bounds h c i ss → depths ss ≤ height (term_at (terms_of h c i ss) 0) + height (term_at (terms_of h c i ss) 0)
one_deep h c i none p b = absurd (omega (arith, p))
one_deep h c i (gone ss) p b = omega (arith, none_deep ss (let e : width ss ≡ 0 = omega (arith, p) in e))
one_deep h c i (more s ss) p b = omega (arith, bounded (inner_clock h i c) s b.0, none_deep ss (let e : width ss ≡ 0 = omega (arith, p) in e))

two_deep : (h : Head) (c i : ℕ) (ss : Shapes) → width ss ≡ 2 → Bounds h c i ss
    → depths ss ≤ max (height (term_at (terms_of h c i ss) 0)) (height (term_at (terms_of h c i ss) 1)) + max (height (term_at (terms_of h c i ss) 0)) (height (term_at (terms_of h c i ss) 1))
two_deep h c i none p b = absurd (omega (arith, p))
two_deep h c i (gone ss) p b = omega (arith, one_deep h c (suc i) ss (let e : width ss ≡ 1 = omega (arith, p) in e) b)
two_deep h c i (more s ss) p b = omega (arith, bounded (inner_clock h i c) s b.0, one_deep h c (suc i) ss (let e : width ss ≡ 1 = omega (arith, p) in e) b.1)

all_deep : (h : Head) (c i : ℕ) (ss : Shapes) → Bounds h c i ss → depths ss ≤ greatest_height (terms_of h c i ss) + greatest_height (terms_of h c i ss)
all_deep h c i none b = omega arith
all_deep h c i (gone ss) b = omega (arith, all_deep h c (suc i) ss b)
all_deep h c i (more s ss) b = omega (arith, bounded (inner_clock h i c) s b.0, all_deep h c (suc i) ss b.1)

form_deep : (h : Head) (c : ℕ) (ss : Shapes) → HasParts h ss → Bounds h c 0 ss → spare h + suc (depths ss) ≤ height (formed h c (terms_of h c 0 ss)) + height (formed h c (terms_of h c 0 ss))
form_deep (leaf s) c ss p b = omega (arith, none_deep ss p)
form_deep (wait due at) c ss p b = omega (arith, none_deep ss p)
form_deep (sequence rest) c ss p b = omega (arith, one_deep (sequence rest) c 0 ss p b)
form_deep parallel c ss p b = omega (arith, all_deep parallel c 0 ss b)
form_deep select c ss p b = omega (arith, all_deep select c 0 ss b)
form_deep (guarded e at s) c ss p b = omega (arith, one_deep (guarded e at s) c 0 ss p b)
form_deep (frame number inputs results) c ss p b = omega (arith, one_deep (frame number inputs results) c 0 ss p b)
form_deep abort c ss p b = omega (arith, two_deep abort c 0 ss p b)
form_deep (idle again s) c ss p b = omega (arith, two_deep (idle again s) c 0 ss p b)
form_deep (handling again s) c ss p b = omega (arith, two_deep (handling again s) c 0 ss p b)
form_deep (shifted s) c none p b = absurd p
form_deep (shifted s) c (gone ss) p b = absurd p
form_deep (shifted s) c (more (node k y ts) none) p b = omega (arith, b.0, no_shift_spares y.head p)
form_deep (shifted s) c (more (node k y ts) (gone ss)) p b = absurd p
form_deep (shifted s) c (more (node k y ts) (more t ss)) p b = absurd p

mutual
  deep : (c : ℕ) (s : Shape) → Whole s → Bound c s
  deep c (node k x ss) whole = form_deep x.head c ss whole.0 (all_bounded x.head c 0 ss whole.1)

  all_bounded : (h : Head) (c i : ℕ) (ss : Shapes) → AreWhole ss → Bounds h c i ss
  all_bounded h c i none whole = tt
  all_bounded h c i (gone ss) whole = all_bounded h c (suc i) ss whole
  all_bounded h c i (more s ss) whole = (deep (inner_clock h i c) s whole.0, all_bounded h c (suc i) ss whole.1)

pub no_deeper : (c : ℕ) (s : Shape) → Whole s → depth s ≤ 2 * height (term_of c s)
no_deeper c s whole = omega (arith, bounded c s (deep c s whole))
