-- Time passes over the active children of a node: what the node stands for then.
use Rattle.std.proofs.Common.{◌≡◌, ◌<◌, ◌+◌, ◌-◌, ℕ, zero, suc, Bool, true, false, Option, Some, None, Result, Ok, Err, refl, ap, sym, ◌∙◌, arith}
use Rattle.pz_classes_code.specs.pz_syntax.Statements as statement
use Rattle.pz_clock.specs.Shifts.{ShiftView, is_running, ShiftFits, FitsSince}
use Rattle.pz_nodes_shapes.specs.Rose.{node, none, gone, more, width}
use Rattle.pz_tree_refreshing.specs.pz_offer.declared.trouble.Trouble.{Trouble}
use Rattle.pz_tree_refreshing.specs.pz_rules.Settings.{Context}
use Rattle.pz_tree_refreshing.specs.pz_rules.Terms.{Step, Term, done, Terms, no_terms, and, term_at}
use Rattle.pz_tree_refreshing.specs.pz_rules.Terms as term
use Rattle.pz_tree_refreshing.specs.pz_rules.devices.Found.{tested}
use Rattle.pz_tree_refreshing.specs.pz_rules.devices.Passing.{passed, passed_all, if_open}
use Rattle.pz_tree_refreshing.specs.pz_tree_standing.Heads.{Head, leaf, wait, sequence, parallel, select, guarded, frame, abort, idle, handling, shifted, Shapes, inner_clock, inner_frame, formed}
use Rattle.pz_tree_refreshing.specs.pz_tree_standing.Standing.{HeadFits}
use Rattle.pz_tree_refreshing.specs.pz_tree_standing.Reached.{reaches, is_true, GateRight}
use Rattle.pz_tree_refreshing.specs.pz_tree_standing.Whole.{OneInside, HasParts}
use Rattle.pz_tree_refreshing.specs.pz_tree_standing.Calm.{HasBegun}
use Rattle.pz_tree_refreshing.proofs.pz_tree_standing_proofs.Passing.{local_stands}
use Rattle.pz_tree_elapsing.specs.devices.Wakes.{if_reached, passed_reached}

-- ---------------------------------------------------------- what fits goes on to fit

fits_since : (behind : ℕ) (since : Option ℕ) (c d : ℕ) → FitsSince behind since c → FitsSince behind since (c + d)
fits_since behind None c d h = omega (arith, h)
fits_since behind (Some x) c d h = (h.0, omega (arith, h.1))

shift_onward : (s : ShiftView) (c d : ℕ) → ShiftFits s c → ShiftFits s (c + d)
shift_onward s c d h = fits_since s.behind s.since c d h

-- all but a delay that has begun
abbrev pub IsNoWait : Head → Type 0
IsNoWait (wait due at) = ⊥
IsNoWait h = Unit {0}

pub head_onward : (h : Head) (c d : ℕ) → IsNoWait h → HeadFits h c → HeadFits h (c + d)
head_onward (leaf s) c d p h = tt
head_onward (wait due at) c d p h = absurd p
head_onward (sequence rest) c d p h = tt
head_onward parallel c d p h = tt
head_onward select c d p h = tt
head_onward (guarded e at s) c d p h = shift_onward s c d h
head_onward (frame number inputs results) c d p h = tt
head_onward abort c d p h = tt
head_onward (idle again s) c d p h = (shift_onward s c d h.0, h.1)
head_onward (handling again s) c d p h = (shift_onward s c d h.0, h.1)
head_onward (shifted s) c d p h = (shift_onward s c d h.0, h.1)

-- ---------------------------------------------------------- each child is active, or its clock stands still

one_wide : (ss : Shapes) → OneInside ss → width ss ≡ 1
one_wide none p = absurd p
one_wide (gone ss) p = absurd p
one_wide (more s none) p = refl
one_wide (more (node k x ts) (gone ss)) p = absurd p
one_wide (more (node k x ts) (more t ss)) p = absurd p

pub stands_still : (h : Head) (c d : ℕ) (ss : Shapes) → HeadFits h c → HasParts h ss → (j : ℕ) → j < width ss → reaches h j ≡ false → inner_clock h j (c + d) ≡ inner_clock h j c
stands_still (leaf s) c d ss fits p j l r = absurd (omega (arith, p, l))
stands_still (wait due at) c d ss fits p j l r = absurd (omega (arith, p, l))
stands_still (sequence rest) c d ss fits p zero l r = absurd cc
stands_still (sequence rest) c d ss fits p (suc j) l r = absurd (omega (arith, p, l))
stands_still parallel c d ss fits p j l r = absurd cc
stands_still select c d ss fits p j l r = absurd cc
stands_still (guarded e at s) c d ss fits p zero l r = local_stands s c d r
stands_still (guarded e at s) c d ss fits p (suc j) l r = absurd (omega (arith, p, l))
stands_still (frame number inputs results) c d ss fits p zero l r = absurd cc
stands_still (frame number inputs results) c d ss fits p (suc j) l r = absurd (omega (arith, p, l))
stands_still abort c d ss fits p zero l r = absurd cc
stands_still abort c d ss fits p (suc zero) l r = absurd cc
stands_still abort c d ss fits p (suc (suc j)) l r = absurd (omega (arith, p, l))
stands_still (idle again s) c d ss fits p zero l r = absurd cc
stands_still (idle again s) c d ss fits p (suc zero) l r = absurd cc
stands_still (idle again s) c d ss fits p (suc (suc j)) l r = absurd (omega (arith, p, l))
stands_still (handling again s) c d ss fits p zero l r = local_stands s c d fits.1
stands_still (handling again s) c d ss fits p (suc zero) l r = absurd cc
stands_still (handling again s) c d ss fits p (suc (suc j)) l r = absurd (omega (arith, p, l))
stands_still (shifted s) c d ss fits p zero l r = absurd cc
stands_still (shifted s) c d ss fits p (suc j) l r = absurd (omega (arith, one_wide ss p, l))

-- ---------------------------------------------------------- the terms of the children

same_if : (b : Bool) (t : Term) → if_reached b t t ≡ t
same_if true t = refl
same_if false t = refl

module _ (a : Context) (d : ℕ) where
  passed_at : (f : ℕ) (h : Head) (i : ℕ) (ts : Terms) (j : ℕ) → term_at (passed_reached a d f h i ts) j ≡ if_reached (reaches h (i + j)) (passed a d f (term_at ts j)) (term_at ts j)
  passed_at f h i no_terms j = sym (same_if (reaches h (i + j)) done)
  passed_at f h i (and t ts) zero = let n : i ≡ i + 0 = omega arith in ap (λ z. if_reached (reaches h z) (passed a d f t) t) n
  passed_at f h i (and t ts) (suc j) = let n : suc i + j ≡ i + suc j = omega arith in passed_at f h (suc i) ts j ∙ ap (λ z. if_reached (reaches h z) (passed a d f (term_at ts j)) (term_at ts j)) n

  at_number : (f : ℕ) (h : Head) (ts : Terms) (j : ℕ) → term_at (passed_reached a d f h 0 ts) j ≡ if_reached (reaches h j) (passed a d f (term_at ts j)) (term_at ts j)
  at_number f h ts j = let n : 0 + j ≡ j = omega arith in passed_at f h 0 ts j ∙ ap (λ z. if_reached (reaches h z) (passed a d f (term_at ts j)) (term_at ts j)) n

  all_passed : (f : ℕ) (h : Head) (i : ℕ) (ts : Terms) → ((j : ℕ) → reaches h j ≡ true) → passed_reached a d f h i ts ≡ passed_all a d f ts
  all_passed f h i no_terms r = refl
  all_passed f h i (and t ts) r = λ n. and (if_reached (r i n) (passed a d f t) t) (all_passed f h (suc i) ts r n)

  gate_if : (r : Result Bool Trouble) (run : Bool) (x t : Term) → run ≡ is_true r → if_reached run x t ≡ if_open r x t
  gate_if (Ok true) run x t g = ap (λ b. if_reached b x t) g
  gate_if (Ok false) run x t g = ap (λ b. if_reached b x t) g
  gate_if (Err u) run x t g = ap (λ b. if_reached b x t) g

  pub leaf_stays : (f : ℕ) (s : Step) → HasBegun (leaf s) → term.leaf s ≡ passed a d f (term.leaf s)
  leaf_stays f (statement.skip at) b = refl
  leaf_stays f (statement.delay at e) b = absurd b
  leaf_stays f (statement.bracketed at ts) b = refl
  leaf_stays f (statement.block at es) b = refl
  leaf_stays f (statement.guarded at e t) b = refl
  leaf_stays f (statement.parallel at bs) b = refl
  leaf_stays f (statement.select at bs) b = refl
  leaf_stays f (statement.conditional at e ts other) b = refl
  leaf_stays f (statement.repeated at e ts) b = refl
  leaf_stays f (statement.abort at ts t) b = refl
  leaf_stays f (statement.interrupt at ts t) b = refl
  leaf_stays f (statement.send at port name args after) b = refl
  leaf_stays f (statement.receive at port name into condition after) b = refl
  leaf_stays f (statement.call at method args results) b = refl
  leaf_stays f (statement.assignment at x e) b = refl
  leaf_stays f (statement.value at e) b = refl

  -- the same node, by a clock that is so much later
  pub form_goes : (f : ℕ) (h : Head) (c : ℕ) (ts : Terms) → HasBegun h → GateRight a f h
      → formed h (c + d) (passed_reached a d (inner_frame h f) h 0 ts) ≡ passed a d f (formed h c ts)
  form_goes f (leaf s) c ts b g = leaf_stays f s b
  form_goes f (wait due at) c ts b g = ap (λ n. term.wait n at) (let e : due - (c + d) ≡ (due - c) - d = omega arith in e)
  form_goes f (sequence rest) c ts b g = ap (λ t. term.sequence t rest) (at_number f (sequence rest) ts 0)
  form_goes f parallel c ts b g = ap term.parallel (all_passed f parallel 0 ts (λ j. refl))
  form_goes f select c ts b g = ap term.select (all_passed f select 0 ts (λ j. refl))
  form_goes f (guarded e at s) c ts b g = ap (term.guarded e at)
      (at_number f (guarded e at s) ts 0 ∙ gate_if (tested a f at e) (is_running s) (passed a d f (term_at ts 0)) (term_at ts 0) g)
  form_goes f (frame number inputs results) c ts b g = ap (term.frame number inputs results) (at_number number (frame number inputs results) ts 0)
  form_goes f abort c ts b g = λ i. term.abort (at_number f abort ts 0 i) (at_number f abort ts 1 i)
  form_goes f (idle again s) c ts b g = λ i. term.idle (at_number f (idle again s) ts 0 i) (at_number f (idle again s) ts 1 i) again
  form_goes f (handling again s) c ts b g = λ i. term.handling (at_number f (handling again s) ts 0 i) (at_number f (handling again s) ts 1 i) again
  form_goes f (shifted s) c ts b g = at_number f (shifted s) ts 0
