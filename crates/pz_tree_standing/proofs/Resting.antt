-- What rests and is asked nothing is right as soon as it is active.
use Rattle.std.proofs.Common.{◌≡◌, ℕ, zero, suc, ◌+◌, true, false, refl, subst, arith}
use Rattle.pz_nodes_shapes.specs.Rose.{node, none, gone, more}
use Rattle.pz_nodes_shapes.proofs.Frames.{or_neither}
use Rattle.pz_rules.specs.Terms.{Terms, no_terms, and, term_at}
use Rattle.pz_rules.specs.Settings.{Context}
use Rattle.pz_tree_standing.specs.Asked.{asks, any_asks}
use Rattle.pz_tree_standing.specs.Heads.{Head, Shape, Shapes, inner_clock, inner_frame, formed}
use Rattle.pz_tree_standing.specs.Heads as head
use Rattle.pz_tree_standing.specs.Standing.{term_of, terms_of}
use Rattle.pz_tree_standing.specs.Reached.{reaches, GateRight}
use Rattle.pz_tree_standing.specs.Right.{Right, RightAll}
use Rattle.pz_tree_standing.specs.Resting.{Rests, RestAll}

some_unasked : (ts : Terms) (j : ℕ) → any_asks ts ≡ false → asks (term_at ts j) ≡ false
some_unasked no_terms j h = refl
some_unasked (and t ts) zero h = (or_neither (asks t) (any_asks ts) h).0
some_unasked (and t ts) (suc j) h = some_unasked ts j (or_neither (asks t) (any_asks ts) h).1

-- a child that is active is asked nothing, where the whole is not
pub kid_unasked : (h : Head) (c : ℕ) (ts : Terms) → asks (formed h c ts) ≡ false → (j : ℕ) → reaches h j ≡ true → asks (term_at ts j) ≡ false
kid_unasked (head.leaf s) c ts e j r = absurd cc
kid_unasked (head.wait due at) c ts e j r = absurd cc
kid_unasked (head.sequence rest) c ts e zero r = e
kid_unasked (head.sequence rest) c ts e (suc j) r = absurd cc
kid_unasked head.parallel c ts e j r = some_unasked ts j e
kid_unasked head.select c ts e j r = some_unasked ts j e
kid_unasked (head.guarded test at s) c ts e j r = absurd cc
kid_unasked (head.frame number inputs results) c ts e zero r = e
kid_unasked (head.frame number inputs results) c ts e (suc j) r = absurd cc
kid_unasked head.abort c ts e zero r = (or_neither (asks (term_at ts 0)) (asks (term_at ts 1)) e).0
kid_unasked head.abort c ts e (suc zero) r = (or_neither (asks (term_at ts 0)) (asks (term_at ts 1)) e).1
kid_unasked head.abort c ts e (suc (suc j)) r = absurd cc
kid_unasked (head.idle again s) c ts e zero r = (or_neither (asks (term_at ts 0)) (asks (term_at ts 1)) e).0
kid_unasked (head.idle again s) c ts e (suc zero) r = (or_neither (asks (term_at ts 0)) (asks (term_at ts 1)) e).1
kid_unasked (head.idle again s) c ts e (suc (suc j)) r = absurd cc
kid_unasked (head.handling again s) c ts e zero r = absurd cc
kid_unasked (head.handling again s) c ts e (suc zero) r = e
kid_unasked (head.handling again s) c ts e (suc (suc j)) r = absurd cc
kid_unasked (head.shifted s) c ts e zero r = e
kid_unasked (head.shifted s) c ts e (suc j) r = absurd cc

no_gate : (a : Context) (f : ℕ) (h : Head) (c : ℕ) (ts : Terms) → asks (formed h c ts) ≡ false → GateRight a f h
no_gate a f (head.leaf s) c ts e = tt
no_gate a f (head.wait due at) c ts e = tt
no_gate a f (head.sequence rest) c ts e = tt
no_gate a f head.parallel c ts e = tt
no_gate a f head.select c ts e = tt
no_gate a f (head.guarded test at s) c ts e = absurd cc
no_gate a f (head.frame number inputs results) c ts e = tt
no_gate a f head.abort c ts e = tt
no_gate a f (head.idle again s) c ts e = tt
no_gate a f (head.handling again s) c ts e = tt
no_gate a f (head.shifted s) c ts e = tt

mutual
  -- what rests and is asked nothing is right as soon as it is active, with no node touched
  pub rests_are_right : (a : Context) (f c : ℕ) (s : Shape) → asks (term_of c s) ≡ false → Rests f c s → Right a f c s
  rests_are_right a f c (node k x ss) e r = (
    r.0 e a,
    no_gate a f x.head c (terms_of x.head c 0 ss) e,
    all_rest a (inner_frame x.head f) x.head c 0 ss (λ j g. kid_unasked x.head c (terms_of x.head c 0 ss) e j (let n : 0 + j ≡ j = omega arith in subst (λ z. reaches x.head z ≡ true) n g)) r.1,
  )

  all_rest : (a : Context) (f : ℕ) (h : Head) (c i : ℕ) (ss : Shapes) → ((j : ℕ) → reaches h (i + j) ≡ true → asks (term_at (terms_of h c i ss) j) ≡ false) → RestAll f h c i ss → RightAll a f h c i ss
  all_rest a f h c i none e r = tt
  all_rest a f h c i (gone ss) e r = all_rest a f h c (suc i) ss (λ j g. e (suc j) (let n : suc i + j ≡ i + suc j = omega arith in subst (λ z. reaches h z ≡ true) n g)) r
  all_rest a f h c i (more s ss) e r = (
    (λ g. rests_are_right a f (inner_clock h i c) s (e 0 (let n : i ≡ i + 0 = omega arith in subst (λ z. reaches h z ≡ true) n g)) r.0),
    all_rest a f h c (suc i) ss (λ j g. e (suc j) (let n : suc i + j ≡ i + suc j = omega arith in subst (λ z. reaches h z ≡ true) n g)) r.1,
  )
