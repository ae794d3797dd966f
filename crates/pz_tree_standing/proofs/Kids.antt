-- A child becomes another: what that does to the term, and to what is right.
use Rattle.std.proofs.Common.{◌≡◌, ℕ, zero, suc, ◌+◌, ◌-◌, true, Option, Some, None, refl, ap, sym, ◌∙◌, subst, arith}
use Rattle.pz_nodes_shapes.specs.Rose.{node, none, gone, more, with_kid, joined}
use Rattle.pz_rules.specs.Terms.{Term, Terms, no_terms, and}
use Rattle.pz_rules.specs.Terms as term
use Rattle.pz_rules.specs.Settings.{Context}
use Rattle.pz_rules.specs.Leaving.{replaced}
use Rattle.pz_tree_standing.specs.Heads.{Head, What, shifted, Shape, Shapes, inner_clock, formed}
use Rattle.pz_tree_standing.specs.Standing.{term_of, terms_of, term_of_option, Fits, FitAll, FitsOption}
use Rattle.pz_tree_standing.specs.Reached.{reaches}
use Rattle.pz_tree_standing.specs.Resting.{Rests, RestAll, RestsOption}
use Rattle.pz_tree_standing.specs.Right.{Right, RightAll, RightOption}

terms_joined : (h : Head) (c i : ℕ) (x : Option Shape) (ss : Shapes) → terms_of h c i (joined x ss) ≡ and (term_of_option (inner_clock h i c) x) (terms_of h c (suc i) ss)
terms_joined h c i None ss = refl
terms_joined h c i (Some s) ss = refl

pub with_kid_terms : (h : Head) (c i : ℕ) (ss : Shapes) (n : ℕ) (x : Option Shape) → terms_of h c i (with_kid ss n x) ≡ replaced (terms_of h c i ss) n (term_of_option (inner_clock h (i + n) c) x)
with_kid_terms h c i none n x = refl
with_kid_terms h c i (gone ss) zero x = let n : i ≡ i + 0 = omega arith in terms_joined h c i x ss ∙ ap (λ z. and (term_of_option (inner_clock h z c) x) (terms_of h c (suc i) ss)) n
with_kid_terms h c i (more s ss) zero x = let n : i ≡ i + 0 = omega arith in terms_joined h c i x ss ∙ ap (λ z. and (term_of_option (inner_clock h z c) x) (terms_of h c (suc i) ss)) n
with_kid_terms h c i (gone ss) (suc n) x = let e : suc i + n ≡ i + suc n = omega arith in
    ap (and term.done) (with_kid_terms h c (suc i) ss n x) ∙ ap (λ z. and term.done (replaced (terms_of h c (suc i) ss) n (term_of_option (inner_clock h z c) x))) e
with_kid_terms h c i (more s ss) (suc n) x = let e : suc i + n ≡ i + suc n = omega arith in
    ap (and (term_of (inner_clock h i c) s)) (with_kid_terms h c (suc i) ss n x) ∙ ap (λ z. and (term_of (inner_clock h i c) s) (replaced (terms_of h c (suc i) ss) n (term_of_option (inner_clock h z c) x))) e

-- what is so of each child, of which the first has number i
module _ (P : ℕ → Shape → Type 0) where
  abbrev Each : ℕ → Shapes → Type 0
  Each i none = Unit {0}
  Each i (gone ss) = Each (suc i) ss
  Each i (more s ss) = P i s × Each (suc i) ss

  abbrev IfThere : ℕ → Option Shape → Type 0
  IfThere i None = Unit {0}
  IfThere i (Some s) = P i s

  each_joined : (i : ℕ) (x : Option Shape) (ss : Shapes) → IfThere i x → Each (suc i) ss → Each i (joined x ss)
  each_joined i None ss p h = h
  each_joined i (Some s) ss p h = (p, h)

  with_kid_each : (i : ℕ) (ss : Shapes) (n : ℕ) (x : Option Shape) → Each i ss → IfThere (i + n) x → Each i (with_kid ss n x)
  with_kid_each i none n x h p = tt
  with_kid_each i (gone ss) zero x h p = let e : i + 0 ≡ i = omega arith in each_joined i x ss (subst (λ z. IfThere z x) e p) h
  with_kid_each i (more s ss) zero x h p = let e : i + 0 ≡ i = omega arith in each_joined i x ss (subst (λ z. IfThere z x) e p) h.1
  with_kid_each i (gone ss) (suc n) x h p = let e : i + suc n ≡ suc i + n = omega arith in with_kid_each (suc i) ss n x h (subst (λ z. IfThere z x) e p)
  with_kid_each i (more s ss) (suc n) x h p = let e : i + suc n ≡ suc i + n = omega arith in (h.0, with_kid_each (suc i) ss n x h.1 (subst (λ z. IfThere z x) e p))

-- what they fit
module _ (h : Head) (c : ℕ) where
  abbrev FitsAt : ℕ → Shape → Type 0
  FitsAt i s = Fits (inner_clock h i c) s

  fits_each : (i : ℕ) (ss : Shapes) → FitAll h c i ss → Each FitsAt i ss
  fits_each i none r = tt
  fits_each i (gone ss) r = fits_each (suc i) ss r
  fits_each i (more s ss) r = (r.0, fits_each (suc i) ss r.1)

  each_fits : (i : ℕ) (ss : Shapes) → Each FitsAt i ss → FitAll h c i ss
  each_fits i none r = tt
  each_fits i (gone ss) r = each_fits (suc i) ss r
  each_fits i (more s ss) r = (r.0, each_fits (suc i) ss r.1)

  one_fits : (i : ℕ) (x : Option Shape) → FitsOption (inner_clock h i c) x → IfThere FitsAt i x
  one_fits i None r = tt
  one_fits i (Some s) r = r

  pub child_fits : (i : ℕ) (ss : Shapes) (n : ℕ) (x : Option Shape) → FitAll h c i ss → FitsOption (inner_clock h (i + n) c) x → FitAll h c i (with_kid ss n x)
  child_fits i ss n x r p = each_fits i (with_kid ss n x) (with_kid_each FitsAt i ss n x (fits_each i ss r) (one_fits (i + n) x p))

-- how they rest
module _ (f : ℕ) (h : Head) (c : ℕ) where
  abbrev RestsAt : ℕ → Shape → Type 0
  RestsAt i s = Rests f (inner_clock h i c) s

  rests_each : (i : ℕ) (ss : Shapes) → RestAll f h c i ss → Each RestsAt i ss
  rests_each i none r = tt
  rests_each i (gone ss) r = rests_each (suc i) ss r
  rests_each i (more s ss) r = (r.0, rests_each (suc i) ss r.1)

  each_rests : (i : ℕ) (ss : Shapes) → Each RestsAt i ss → RestAll f h c i ss
  each_rests i none r = tt
  each_rests i (gone ss) r = each_rests (suc i) ss r
  each_rests i (more s ss) r = (r.0, each_rests (suc i) ss r.1)

  one_rests : (i : ℕ) (x : Option Shape) → RestsOption f (inner_clock h i c) x → IfThere RestsAt i x
  one_rests i None r = tt
  one_rests i (Some s) r = r

  pub child_rests : (i : ℕ) (ss : Shapes) (n : ℕ) (x : Option Shape) → RestAll f h c i ss → RestsOption f (inner_clock h (i + n) c) x → RestAll f h c i (with_kid ss n x)
  child_rests i ss n x r p = each_rests i (with_kid ss n x) (with_kid_each RestsAt i ss n x (rests_each i ss r) (one_rests (i + n) x p))

-- and how far they are right
module _ (a : Context) (f : ℕ) (h : Head) (c : ℕ) where
  abbrev RightAt : ℕ → Shape → Type 0
  RightAt i s = reaches h i ≡ true → Right a f (inner_clock h i c) s

  right_each : (i : ℕ) (ss : Shapes) → RightAll a f h c i ss → Each RightAt i ss
  right_each i none r = tt
  right_each i (gone ss) r = right_each (suc i) ss r
  right_each i (more s ss) r = (r.0, right_each (suc i) ss r.1)

  each_right : (i : ℕ) (ss : Shapes) → Each RightAt i ss → RightAll a f h c i ss
  each_right i none r = tt
  each_right i (gone ss) r = each_right (suc i) ss r
  each_right i (more s ss) r = (r.0, each_right (suc i) ss r.1)

  one_right : (i : ℕ) (x : Option Shape) → (reaches h i ≡ true → RightOption a f (inner_clock h i c) x) → IfThere RightAt i x
  one_right i None r = tt
  one_right i (Some s) r = r

  pub child_right : (i : ℕ) (ss : Shapes) (n : ℕ) (x : Option Shape) → RightAll a f h c i ss → (reaches h (i + n) ≡ true → RightOption a f (inner_clock h (i + n) c) x) → RightAll a f h c i (with_kid ss n x)
  child_right i ss n x r p = each_right i (with_kid ss n x) (with_kid_each RightAt i ss n x (right_each i ss r) (one_right (i + n) x p))

-- two shifts, one under the other, are one
pub shifts_add : (c b1 b2 j k : ℕ) (x y z : What) (s : Shape) → x.head ≡ shifted (record { behind = b1; since = None }) → y.head ≡ shifted (record { behind = b2; since = None })
    → z.head ≡ shifted (record { behind = b1 + b2; since = None }) → term_of c (node j x (more (node k y (more s none)) none)) ≡ term_of c (node j z (more s none))
shifts_add c b1 b2 j k x y z s p q r =
    ap (λ h. formed h c (terms_of h c 0 (more (node k y (more s none)) none))) p
    ∙ ap (λ h. formed h (c - b1) (terms_of h (c - b1) 0 (more s none))) q
    ∙ ap (λ n. term_of n s) (let e : (c - b1) - b2 ≡ c - (b1 + b2) = omega arith in e)
    ∙ sym (ap (λ h. formed h c (terms_of h c 0 (more s none))) r)
