-- What is due of a term is due soon, where delays are short.
use Rattle.std.proofs.Common.{◌≡◌, ◌<◌, ◌+◌, ◌^◌, ℕ, zero, suc, true, false, Option, Some, None, refl, ap, sym, ◌∙◌, subst, arith}
use Rattle.pz_rules.specs.pz_syntax.Statements as statement
use Rattle.pz_clock.specs.Shifts.{ShiftView, is_running, local_since, FitsSince}
use Rattle.pz_rules.specs.pz_offer.Summaries.{least, shifted}
use Rattle.pz_rules.specs.Settings.{Context}
use Rattle.pz_rules.specs.Terms.{Step, Term, done, leaf, wait, sequence, parallel, select, guarded, frame, abort, idle, handling, Terms, no_terms, and, term_at}
use Rattle.pz_rules.specs.Short.{IsShort, AreShort}
use Rattle.pz_tree_standing.specs.Asked.{asks, any_asks, statement_asks}
use Rattle.pz_tree_standing.specs.Summaries.{summary_of, summaries_of}
use Rattle.pz_tree_standing.specs.Heads.{Head, inner_clock, formed}
use Rattle.pz_tree_standing.specs.Heads as head
use Rattle.pz_tree_standing.specs.Standing.{HeadFits}
use Rattle.pz_tree_standing.specs.Reached.{reaches, behind_inside}
use Rattle.pz_tree_standing.specs.Soon.{HasRoom, IsSoon}
use Rattle.pz_tree_standing.proofs.Tallies.{summary_sequence, summary_parallel, summary_select, summary_frame, summary_abort, summary_idle, summary_handling, summary_shifted}
use Rattle.pz_tree_standing.proofs.Unasked.{or_neither}

pub least_soon : (c : ℕ) (x y : Option ℕ) → IsSoon c x → IsSoon c y → IsSoon c (least x y)
least_soon c None y h g = g
least_soon c (Some m) None h g = h
least_soon c (Some m) (Some n) h g = omega (arith, h, g)

-- ---------------------------------------------------------- of a term that is asked nothing

leaf_soon : (a : Context) (c f : ℕ) (s : Step) → statement_asks s ≡ false → IsSoon c (summary_of a c f (leaf s)).due
leaf_soon a c f (statement.skip at) e = tt
leaf_soon a c f (statement.delay at x) e = absurd cc
leaf_soon a c f (statement.bracketed at ts) e = tt
leaf_soon a c f (statement.block at es) e = tt
leaf_soon a c f (statement.guarded at x t) e = tt
leaf_soon a c f (statement.parallel at bs) e = tt
leaf_soon a c f (statement.select at bs) e = tt
leaf_soon a c f (statement.conditional at x ts other) e = tt
leaf_soon a c f (statement.repeated at x ts) e = tt
leaf_soon a c f (statement.abort at ts t) e = tt
leaf_soon a c f (statement.interrupt at ts t) e = tt
leaf_soon a c f (statement.send at port name args after) e = absurd cc
leaf_soon a c f (statement.receive at port name into condition after) e = tt
leaf_soon a c f (statement.call at method args results) e = tt
leaf_soon a c f (statement.assignment at x t) e = tt
leaf_soon a c f (statement.value at x) e = tt

mutual
  pub short_soon : (a : Context) (c f : ℕ) (t : Term) → asks t ≡ false → IsShort t → IsSoon c (summary_of a c f t).due
  short_soon a c f done e h = tt
  short_soon a c f (leaf s) e h = leaf_soon a c f s e
  short_soon a c f (wait left at) e h = omega (arith, h)
  short_soon a c f (sequence t rest) e h = subst (λ z. IsSoon c z.due) (sym (summary_sequence a c f t rest)) (short_soon a c f t e h)
  short_soon a c f (parallel ts) e h = subst (λ z. IsSoon c z.due) (sym (summary_parallel a c f ts)) (short_all a c f ts e h)
  short_soon a c f (select ts) e h = subst (λ z. IsSoon c z.due) (sym (summary_select a c f ts)) (short_all a c f ts e h)
  short_soon a c f (guarded test at t) e h = absurd cc
  short_soon a c f (frame number inputs results t) e h = subst (λ z. IsSoon c z.due) (sym (summary_frame a c f number inputs results t)) (short_soon a c number t e h)
  short_soon a c f (abort t u) e h = let p = or_neither (asks t) (asks u) e in
      subst (λ z. IsSoon c z.due) (sym (summary_abort a c f t u)) (least_soon c (summary_of a c f t).due (summary_of a c f u).due (short_soon a c f t p.0 h.0) (short_soon a c f u p.1 h.1))
  short_soon a c f (idle t u again) e h = let p = or_neither (asks t) (asks u) e in
      subst (λ z. IsSoon c z.due) (sym (summary_idle a c f t u again)) (least_soon c (summary_of a c f t).due (summary_of a c f u).due (short_soon a c f t p.0 h.0) (short_soon a c f u p.1 h.1))
  short_soon a c f (handling t u again) e h = subst (λ z. IsSoon c z.due) (sym (summary_handling a c f t u again)) (short_soon a c f u e h.1)

  short_all : (a : Context) (c f : ℕ) (ts : Terms) → any_asks ts ≡ false → AreShort ts → IsSoon c (summaries_of a c f ts).due
  short_all a c f no_terms e h = tt
  short_all a c f (and t ts) e h = let p = or_neither (asks t) (any_asks ts) e in
      least_soon c (summary_of a c f t).due (summaries_of a c f ts).due (short_soon a c f t p.0 h.0) (short_all a c f ts p.1 h.1)

-- ---------------------------------------------------------- clocks

-- the clock of an active child, and by how much it is behind
back_since : (c behind : ℕ) (since : Option ℕ) → FitsSince behind since c → is_running (record { behind = behind; since = since }) ≡ true → local_since behind since c + behind ≡ c
back_since c behind None h r = omega (arith, h)
back_since c behind (Some x) h r = absurd cc

back_running : (c : ℕ) (s : ShiftView) → FitsSince s.behind s.since c → is_running s ≡ true → local_since s.behind s.since c + s.behind ≡ c
back_running c s h r = back_since c s.behind s.since h r

none_behind : (c : ℕ) → c + 0 ≡ c
none_behind c = omega arith

pub clock_back : (h : Head) (c i : ℕ) → HeadFits h c → reaches h i ≡ true → inner_clock h i c + behind_inside h i ≡ c
clock_back (head.leaf s) c i fits r = absurd cc
clock_back (head.wait due at) c i fits r = absurd cc
clock_back (head.sequence rest) c i fits r = none_behind c
clock_back head.parallel c i fits r = none_behind c
clock_back head.select c i fits r = none_behind c
clock_back (head.guarded e at s) c zero fits r = back_running c s fits r
clock_back (head.guarded e at s) c (suc i) fits r = absurd cc
clock_back (head.frame number inputs results) c i fits r = none_behind c
clock_back head.abort c i fits r = none_behind c
clock_back (head.idle again s) c zero fits r = back_running c s fits.0 fits.1
clock_back (head.idle again s) c (suc i) fits r = none_behind c
clock_back (head.handling again s) c zero fits r = absurd cc
clock_back (head.handling again s) c (suc i) fits r = none_behind c
clock_back (head.shifted s) c i fits r = back_running c s fits.0 fits.1

pub room_inside : (h : Head) (c i : ℕ) → HeadFits h c → reaches h i ≡ true → HasRoom c → HasRoom (inner_clock h i c)
room_inside h c i fits r room = omega (arith, clock_back h c i fits r, room)

pub here_later : (a : Context) (c inner by f : ℕ) (t : Term) → inner + by ≡ c → shifted by (summary_of a inner f t) ≡ summary_of a c f t
here_later a c inner by f t e = sym (summary_shifted a inner by f t) ∙ ap (λ z. summary_of a z f t) e

-- ---------------------------------------------------------- short children

all_short : (ts : Terms) (j : ℕ) → AreShort ts → IsShort (term_at ts j)
all_short no_terms j h = tt
all_short (and t ts) zero h = h.0
all_short (and t ts) (suc j) h = all_short ts j h.1

pub short_kid : (h : Head) (c : ℕ) (ts : Terms) → IsShort (formed h c ts) → (j : ℕ) → reaches h j ≡ true → IsShort (term_at ts j)
short_kid (head.leaf s) c ts e j r = absurd cc
short_kid (head.wait due at) c ts e j r = absurd cc
short_kid (head.sequence rest) c ts e zero r = e
short_kid (head.sequence rest) c ts e (suc j) r = absurd cc
short_kid head.parallel c ts e j r = all_short ts j e
short_kid head.select c ts e j r = all_short ts j e
short_kid (head.guarded test at s) c ts e zero r = e
short_kid (head.guarded test at s) c ts e (suc j) r = absurd cc
short_kid (head.frame number inputs results) c ts e zero r = e
short_kid (head.frame number inputs results) c ts e (suc j) r = absurd cc
short_kid head.abort c ts e zero r = e.0
short_kid head.abort c ts e (suc zero) r = e.1
short_kid head.abort c ts e (suc (suc j)) r = absurd cc
short_kid (head.idle again s) c ts e zero r = e.0
short_kid (head.idle again s) c ts e (suc zero) r = e.1
short_kid (head.idle again s) c ts e (suc (suc j)) r = absurd cc
short_kid (head.handling again s) c ts e zero r = absurd cc
short_kid (head.handling again s) c ts e (suc zero) r = e.1
short_kid (head.handling again s) c ts e (suc (suc j)) r = absurd cc
short_kid (head.shifted s) c ts e zero r = e
short_kid (head.shifted s) c ts e (suc j) r = absurd cc

-- ---------------------------------------------------------- children that are asked nothing

all_unasked : (ts : Terms) (j : ℕ) → any_asks ts ≡ false → asks (term_at ts j) ≡ false
all_unasked no_terms j e = refl
all_unasked (and t ts) zero e = (or_neither (asks t) (any_asks ts) e).0
all_unasked (and t ts) (suc j) e = all_unasked ts j (or_neither (asks t) (any_asks ts) e).1

pub unasked_kid : (h : Head) (c : ℕ) (ts : Terms) → asks (formed h c ts) ≡ false → (j : ℕ) → reaches h j ≡ true → asks (term_at ts j) ≡ false
unasked_kid (head.leaf s) c ts e j r = absurd cc
unasked_kid (head.wait due at) c ts e j r = absurd cc
unasked_kid (head.sequence rest) c ts e zero r = e
unasked_kid (head.sequence rest) c ts e (suc j) r = absurd cc
unasked_kid head.parallel c ts e j r = all_unasked ts j e
unasked_kid head.select c ts e j r = all_unasked ts j e
unasked_kid (head.guarded test at s) c ts e j r = absurd cc
unasked_kid (head.frame number inputs results) c ts e zero r = e
unasked_kid (head.frame number inputs results) c ts e (suc j) r = absurd cc
unasked_kid head.abort c ts e zero r = (or_neither (asks (term_at ts 0)) (asks (term_at ts 1)) e).0
unasked_kid head.abort c ts e (suc zero) r = (or_neither (asks (term_at ts 0)) (asks (term_at ts 1)) e).1
unasked_kid head.abort c ts e (suc (suc j)) r = absurd cc
unasked_kid (head.idle again s) c ts e zero r = (or_neither (asks (term_at ts 0)) (asks (term_at ts 1)) e).0
unasked_kid (head.idle again s) c ts e (suc zero) r = (or_neither (asks (term_at ts 0)) (asks (term_at ts 1)) e).1
unasked_kid (head.idle again s) c ts e (suc (suc j)) r = absurd cc
unasked_kid (head.handling again s) c ts e zero r = absurd cc
unasked_kid (head.handling again s) c ts e (suc zero) r = e
unasked_kid (head.handling again s) c ts e (suc (suc j)) r = absurd cc
unasked_kid (head.shifted s) c ts e zero r = e
unasked_kid (head.shifted s) c ts e (suc j) r = absurd cc
