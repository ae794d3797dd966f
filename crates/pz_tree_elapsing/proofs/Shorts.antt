-- Delays are short, before and after.
use Rattle.std.proofs.Common.{◌≡◌, ◌<◌, ℕ, zero, suc, Bool, true, false, List, Result, Ok, Err, refl, sym, subst, arith}
use Rattle.pz_classes_code.specs.pz_syntax.Statements as statement
use Rattle.pz_nodes_shapes.specs.Rose.{node, none, gone, more, width}
use Rattle.pz_tree_refreshing.specs.pz_offer.declared.summary.Summary.{Summary}
use Rattle.pz_tree_refreshing.specs.pz_offer.declared.trouble.Trouble.{Trouble}
use Rattle.pz_tree_refreshing.specs.pz_offer.Summaries.{join}
use Rattle.pz_tree_refreshing.specs.pz_rules.Settings.{Context}
use Rattle.pz_tree_refreshing.specs.pz_rules.Terms.{Step, Term, done, leaf, wait, sequence, parallel, select, guarded, frame, abort, idle, handling, Terms, no_terms, and, term_at}
use Rattle.pz_tree_refreshing.specs.pz_rules.devices.Found.{tested}
use Rattle.pz_tree_refreshing.specs.pz_rules.devices.Walk.{ActivePart, under, behind, active_parts, active_children}
use Rattle.std.specs.Prelude.{map}
use Rattle.pz_tree_refreshing.specs.pz_tree_standing.Summaries.{summary_of, summaries_of, gated}
use Rattle.pz_tree_refreshing.specs.pz_tree_standing.Woken.{any_part, begins, statement_begins, starts}
use Rattle.pz_tree_refreshing.proofs.pz_tree_standing_proofs.Tallies.{summary_sequence, summary_parallel, summary_select, summary_guarded, summary_frame, summary_abort, summary_idle, summary_handling}
use Rattle.pz_tree_refreshing.proofs.pz_tree_standing_proofs.Unasked.{or_neither}
use Rattle.pz_tree_refreshing.proofs.pz_tree_standing_proofs.Woken.{neither_part, none_under}
use Rattle.pz_tree_refreshing.specs.pz_tree_standing.Heads.{Head, Shapes, formed}
use Rattle.pz_tree_refreshing.specs.pz_tree_standing.Heads as head
use Rattle.pz_tree_refreshing.specs.pz_tree_standing.Whole.{OneInside, HasParts}
use Rattle.pz_tree_refreshing.specs.pz_rules.Short.{IsShort, AreShort}
use Rattle.pz_tree_refreshing.specs.pz_tree_standing.Soon.{IsSoon}
use Rattle.pz_tree_refreshing.proofs.pz_tree_standing_proofs.Soon.{least_soon}
use Rattle.pz_tree_elapsing.proofs.Goings.{IsNoWait}

-- ---------------------------------------------------------- where no active delay has still to begin

leaf_soon : (a : Context) (c f : ℕ) (s : Step) → statement_begins s ≡ false → IsSoon c (summary_of a c f (leaf s)).due
leaf_soon a c f (statement.skip at) e = tt
leaf_soon a c f (statement.delay at x) e = absurd cc
leaf_soon a c f (statement.bracketed at ts) e = tt
leaf_soon a c f (statement.block at es) e = tt
leaf_soon a c f (statement.guarded at x t) e = tt
leaf_soon a c f (statement.parallel at bs) e = tt
leaf_soon a c f (statement.select at bs) e = tt
leaf_soon a c f (statement.conditional at x ts other) e = tt
leaf_soon a c f (statement.repeated at x ts) e = tt
leaf_soon a c f (statement.abort at ts t) e = tt
leaf_soon a c f (statement.interrupt at ts t) e = tt
leaf_soon a c f (statement.send at port name args after) e = tt
leaf_soon a c f (statement.receive at port name into condition after) e = tt
leaf_soon a c f (statement.call at method args results) e = tt
leaf_soon a c f (statement.assignment at x t) e = tt
leaf_soon a c f (statement.value at x) e = tt

gate_soon : (c : ℕ) (r : Result Bool Trouble) (ps : List ActivePart) (s : Summary) → any_part begins (behind r ps) ≡ false → (any_part begins ps ≡ false → IsSoon c s.due) → IsSoon c (gated r s).due
gate_soon c (Ok true) ps s e h = h e
gate_soon c (Ok false) ps s e h = tt
gate_soon c (Err t) ps s e h = tt

module _ (a : Context) (c : ℕ) where
  two_soon : (f : ℕ) (t u : Term) → IsSoon c (summary_of a c f t).due → IsSoon c (summary_of a c f u).due → (s : Summary) → s ≡ join (summary_of a c f t) (summary_of a c f u) → IsSoon c s.due
  two_soon f t u p q s e = subst (λ (z : Summary). IsSoon c z.due) (sym e) (least_soon c (summary_of a c f t).due (summary_of a c f u).due p q)

  mutual
    pub unstarted_soon : (f : ℕ) (t : Term) → starts a f t ≡ false → IsShort t → IsSoon c (summary_of a c f t).due
    unstarted_soon f done e h = tt
    unstarted_soon f (leaf s) e h = leaf_soon a c f s (or_neither (statement_begins s) false e).0
    unstarted_soon f (wait left at) e h = omega (arith, h)
    unstarted_soon f (sequence t rest) e h = subst (λ (z : Summary). IsSoon c z.due) (sym (summary_sequence a c f t rest)) (unstarted_soon f t (none_under begins 0 (active_parts a f t) e) h)
    unstarted_soon f (parallel ts) e h = subst (λ (z : Summary). IsSoon c z.due) (sym (summary_parallel a c f ts)) (all_soon f 0 ts e h)
    unstarted_soon f (select ts) e h = subst (λ (z : Summary). IsSoon c z.due) (sym (summary_select a c f ts)) (all_soon f 0 ts e h)
    unstarted_soon f (guarded test at t) e h = subst (λ (z : Summary). IsSoon c z.due) (sym (summary_guarded a c f test at t))
        (gate_soon c (tested a f at test) (map (under 0) (active_parts a f t)) (summary_of a c f t) e (λ g. unstarted_soon f t (none_under begins 0 (active_parts a f t) g) h))
    unstarted_soon f (frame number inputs results t) e h = subst (λ (z : Summary). IsSoon c z.due) (sym (summary_frame a c f number inputs results t)) (unstarted_soon number t (none_under begins 0 (active_parts a number t) e) h)
    unstarted_soon f (abort t u) e h = let p = neither_part begins (map (under 0) (active_parts a f t)) (map (under 1) (active_parts a f u)) e in
        two_soon f t u (unstarted_soon f t (none_under begins 0 (active_parts a f t) p.0) h.0) (unstarted_soon f u (none_under begins 1 (active_parts a f u) p.1) h.1) (summary_of a c f (abort t u)) (summary_abort a c f t u)
    unstarted_soon f (idle t u again) e h = let p = neither_part begins (map (under 0) (active_parts a f t)) (map (under 1) (active_parts a f u)) e in
        two_soon f t u (unstarted_soon f t (none_under begins 0 (active_parts a f t) p.0) h.0) (unstarted_soon f u (none_under begins 1 (active_parts a f u) p.1) h.1) (summary_of a c f (idle t u again)) (summary_idle a c f t u again)
    unstarted_soon f (handling t u again) e h = subst (λ (z : Summary). IsSoon c z.due) (sym (summary_handling a c f t u again)) (unstarted_soon f u (none_under begins 1 (active_parts a f u) e) h.1)

    all_soon : (f k : ℕ) (ts : Terms) → any_part begins (active_children a f k ts) ≡ false → AreShort ts → IsSoon c (summaries_of a c f ts).due
    all_soon f k no_terms e h = tt
    all_soon f k (and t ts) e h = let p = neither_part begins (map (under k) (active_parts a f t)) (active_children a f (suc k) ts) e in
        least_soon c (summary_of a c f t).due (summaries_of a c f ts).due (unstarted_soon f t (none_under begins k (active_parts a f t) p.0) h.0) (all_soon f (suc k) ts p.1 h.1)

-- ---------------------------------------------------------- children

all_short : (ts : Terms) (j : ℕ) → AreShort ts → IsShort (term_at ts j)
all_short no_terms j h = tt
all_short (and t ts) zero h = h.0
all_short (and t ts) (suc j) h = all_short ts j h.1

one_wide : (ss : Shapes) → OneInside ss → width ss ≡ 1
one_wide none p = absurd p
one_wide (gone ss) p = absurd p
one_wide (more s none) p = refl
one_wide (more (node k x ts) (gone ss)) p = absurd p
one_wide (more (node k x ts) (more t ss)) p = absurd p

-- each child, active or not
pub kid_short : (h : Head) (c : ℕ) (ts : Terms) (ss : Shapes) → HasParts h ss → IsShort (formed h c ts) → (j : ℕ) → j < width ss → IsShort (term_at ts j)
kid_short (head.leaf s) c ts ss p e j l = absurd (omega (arith, p, l))
kid_short (head.wait due at) c ts ss p e j l = absurd (omega (arith, p, l))
kid_short (head.sequence rest) c ts ss p e zero l = e
kid_short (head.sequence rest) c ts ss p e (suc j) l = absurd (omega (arith, p, l))
kid_short head.parallel c ts ss p e j l = all_short ts j e
kid_short head.select c ts ss p e j l = all_short ts j e
kid_short (head.guarded test at s) c ts ss p e zero l = e
kid_short (head.guarded test at s) c ts ss p e (suc j) l = absurd (omega (arith, p, l))
kid_short (head.frame number inputs results) c ts ss p e zero l = e
kid_short (head.frame number inputs results) c ts ss p e (suc j) l = absurd (omega (arith, p, l))
kid_short head.abort c ts ss p e zero l = e.0
kid_short head.abort c ts ss p e (suc zero) l = e.1
kid_short head.abort c ts ss p e (suc (suc j)) l = absurd (omega (arith, p, l))
kid_short (head.idle again s) c ts ss p e zero l = e.0
kid_short (head.idle again s) c ts ss p e (suc zero) l = e.1
kid_short (head.idle again s) c ts ss p e (suc (suc j)) l = absurd (omega (arith, p, l))
kid_short (head.handling again s) c ts ss p e zero l = e.0
kid_short (head.handling again s) c ts ss p e (suc zero) l = e.1
kid_short (head.handling again s) c ts ss p e (suc (suc j)) l = absurd (omega (arith, p, l))
kid_short (head.shifted s) c ts ss p e zero l = e
kid_short (head.shifted s) c ts ss p e (suc j) l = absurd (omega (arith, one_wide ss p, l))

-- a node over children that are short
pub formed_short : (h : Head) (c : ℕ) (ts : Terms) → IsNoWait h → AreShort ts → IsShort (formed h c ts)
formed_short (head.leaf s) c ts n h = tt
formed_short (head.wait due at) c ts n h = absurd n
formed_short (head.sequence rest) c ts n h = all_short ts 0 h
formed_short head.parallel c ts n h = h
formed_short head.select c ts n h = h
formed_short (head.guarded test at s) c ts n h = all_short ts 0 h
formed_short (head.frame number inputs results) c ts n h = all_short ts 0 h
formed_short head.abort c ts n h = (all_short ts 0 h, all_short ts 1 h)
formed_short (head.idle again s) c ts n h = (all_short ts 0 h, all_short ts 1 h)
formed_short (head.handling again s) c ts n h = (all_short ts 0 h, all_short ts 1 h)
formed_short (head.shifted s) c ts n h = all_short ts 0 h
