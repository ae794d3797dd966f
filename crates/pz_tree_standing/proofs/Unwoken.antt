-- What nothing wakes is calm, and stays right.
use Rattle.std.proofs.Common.{◌≡◌, ◌+◌, ℕ, zero, suc, Bool, true, false, ◌||◌, List, ◌++◌, map, Result, Ok, refl, ap, sym, ◌∙◌, subst, arith}
use Rattle.pz_rules.specs.pz_syntax.Statements as statement
use Rattle.pz_clock.specs.Shifts.{is_running}
use Rattle.pz_nodes_shapes.specs.Rose.{node, none, gone, more, payload}
use Rattle.pz_rules.specs.Terms.{Step, Term, Terms, no_terms, and, term_at}
use Rattle.pz_rules.specs.Settings.{Context}
use Rattle.pz_rules.specs.devices.Found.{tested}
use Rattle.pz_rules.specs.devices.Walk.{under, behind, active_parts, active_children}
use Rattle.pz_tree_standing.specs.Summaries.{summary_of}
use Rattle.pz_tree_standing.specs.Steady.{later, Steady}
use Rattle.pz_tree_standing.specs.Woken.{any_part, statement_begins, begins, starts, clocked, IsAfter}
use Rattle.pz_tree_standing.specs.SummaryLaws.{UnwokenIsSteady}
use Rattle.pz_tree_standing.proofs.Woken.{neither_part, none_under}
use Rattle.pz_tree_standing.specs.Heads.{Head, leaf, wait, sequence, parallel, select, guarded, frame, abort, idle, handling, shifted, Shape, Shapes, inner_clock, inner_frame, formed}
use Rattle.pz_tree_standing.specs.Standing.{term_of, terms_of, Fits}
use Rattle.pz_tree_standing.specs.Reached.{reaches, GateRight}
use Rattle.pz_tree_standing.specs.Right.{Right, RightAll}
use Rattle.pz_tree_standing.specs.Calm.{HasBegun, Calm, CalmAll}
use Rattle.pz_tree_standing.proofs.Still.{is_ok}

statement_has_begun : (s : Step) → statement_begins s || false ≡ false → HasBegun (leaf s)
statement_has_begun (statement.skip at) e = tt
statement_has_begun (statement.delay at x) e = absurd cc
statement_has_begun (statement.bracketed at ts) e = tt
statement_has_begun (statement.block at es) e = tt
statement_has_begun (statement.guarded at x t) e = tt
statement_has_begun (statement.parallel at bs) e = tt
statement_has_begun (statement.select at bs) e = tt
statement_has_begun (statement.conditional at x ts other) e = tt
statement_has_begun (statement.repeated at x ts) e = tt
statement_has_begun (statement.abort at ts t) e = tt
statement_has_begun (statement.interrupt at ts t) e = tt
statement_has_begun (statement.send at port name args after) e = tt
statement_has_begun (statement.receive at port name into condition after) e = tt
statement_has_begun (statement.call at method args results) e = tt
statement_has_begun (statement.assignment at x t) e = tt
statement_has_begun (statement.value at x) e = tt

module _ (a : Context) where
  has_begun : (f : ℕ) (h : Head) (c : ℕ) (ts : Terms) → starts a f (formed h c ts) ≡ false → HasBegun h
  has_begun f (leaf s) c ts e = statement_has_begun s e
  has_begun f (wait due at) c ts e = tt
  has_begun f (sequence rest) c ts e = tt
  has_begun f parallel c ts e = tt
  has_begun f select c ts e = tt
  has_begun f (guarded test at s) c ts e = tt
  has_begun f (frame number inputs results) c ts e = tt
  has_begun f abort c ts e = tt
  has_begun f (idle again s) c ts e = tt
  has_begun f (handling again s) c ts e = tt
  has_begun f (shifted s) c ts e = tt

  some_unstarted : (f k : ℕ) (ts : Terms) (j : ℕ) → any_part begins (active_children a f k ts) ≡ false → starts a f (term_at ts j) ≡ false
  some_unstarted f k no_terms j e = refl
  some_unstarted f k (and t ts) zero e = none_under begins k (active_parts a f t) (neither_part begins (map (under k) (active_parts a f t)) (active_children a f (suc k) ts) e).0
  some_unstarted f k (and t ts) (suc j) e = some_unstarted f (suc k) ts j (neither_part begins (map (under k) (active_parts a f t)) (active_children a f (suc k) ts) e).1

  first_unstarted : (f : ℕ) (t u : Term) → any_part begins (map (under 0) (active_parts a f t) ++ map (under 1) (active_parts a f u)) ≡ false → starts a f t ≡ false
  first_unstarted f t u e = none_under begins 0 (active_parts a f t) (neither_part begins (map (under 0) (active_parts a f t)) (map (under 1) (active_parts a f u)) e).0

  second_unstarted : (f : ℕ) (t u : Term) → any_part begins (map (under 0) (active_parts a f t) ++ map (under 1) (active_parts a f u)) ≡ false → starts a f u ≡ false
  second_unstarted f t u e = none_under begins 1 (active_parts a f u) (neither_part begins (map (under 0) (active_parts a f t)) (map (under 1) (active_parts a f u)) e).1

  -- no delay of a child that is active begins, where none of the whole does
  kid_unstarted : (f : ℕ) (h : Head) (c : ℕ) (ts : Terms) → GateRight a f h → starts a f (formed h c ts) ≡ false → (j : ℕ) → reaches h j ≡ true → starts a (inner_frame h f) (term_at ts j) ≡ false
  kid_unstarted f (leaf s) c ts g e j r = absurd cc
  kid_unstarted f (wait due at) c ts g e j r = absurd cc
  kid_unstarted f (sequence rest) c ts g e zero r = none_under begins 0 (active_parts a f (term_at ts 0)) e
  kid_unstarted f (sequence rest) c ts g e (suc j) r = absurd cc
  kid_unstarted f parallel c ts g e j r = some_unstarted f 0 ts j e
  kid_unstarted f select c ts g e j r = some_unstarted f 0 ts j e
  kid_unstarted f (guarded test at s) c ts g e zero r =
      none_under begins 0 (active_parts a f (term_at ts 0))
      (subst (λ x. any_part begins (behind x (map (under 0) (active_parts a f (term_at ts 0)))) ≡ false) (is_ok a 0 (tested a f at test) (is_running s) g r) e)
  kid_unstarted f (guarded test at s) c ts g e (suc j) r = absurd cc
  kid_unstarted f (frame number inputs results) c ts g e zero r = none_under begins 0 (active_parts a number (term_at ts 0)) e
  kid_unstarted f (frame number inputs results) c ts g e (suc j) r = absurd cc
  kid_unstarted f abort c ts g e zero r = first_unstarted f (term_at ts 0) (term_at ts 1) e
  kid_unstarted f abort c ts g e (suc zero) r = second_unstarted f (term_at ts 0) (term_at ts 1) e
  kid_unstarted f abort c ts g e (suc (suc j)) r = absurd cc
  kid_unstarted f (idle again s) c ts g e zero r = first_unstarted f (term_at ts 0) (term_at ts 1) e
  kid_unstarted f (idle again s) c ts g e (suc zero) r = second_unstarted f (term_at ts 0) (term_at ts 1) e
  kid_unstarted f (idle again s) c ts g e (suc (suc j)) r = absurd cc
  kid_unstarted f (handling again s) c ts g e zero r = absurd cc
  kid_unstarted f (handling again s) c ts g e (suc zero) r = none_under begins 1 (active_parts a f (term_at ts 1)) e
  kid_unstarted f (handling again s) c ts g e (suc (suc j)) r = absurd cc
  kid_unstarted f (shifted s) c ts g e zero r = e
  kid_unstarted f (shifted s) c ts g e (suc j) r = absurd cc

  mutual
    pub unstarted_is_calm : (f c : ℕ) (s : Shape) → Right a f c s → starts a f (term_of c s) ≡ false → Calm a f s
    unstarted_is_calm f c (node k x ss) r e = (
      has_begun f x.head c (terms_of x.head c 0 ss) e,
      r.1,
      all_calm (inner_frame x.head f) x.head c 0 ss
          (λ j g. kid_unstarted f x.head c (terms_of x.head c 0 ss) r.1 e j (let n : 0 + j ≡ j = omega arith in subst (λ z. reaches x.head z ≡ true) n g)) r.2,
    )

    all_calm : (f : ℕ) (h : Head) (c i : ℕ) (ss : Shapes) → ((j : ℕ) → reaches h (i + j) ≡ true → starts a f (term_at (terms_of h c i ss) j) ≡ false) → RightAll a f h c i ss → CalmAll a f h i ss
    all_calm f h c i none e r = tt
    all_calm f h c i (gone ss) e r = all_calm f h c (suc i) ss (λ j g. e (suc j) (let n : suc i + j ≡ i + suc j = omega arith in subst (λ z. reaches h z ≡ true) n g)) r
    all_calm f h c i (more s ss) e r = (
      (λ g. unstarted_is_calm f (inner_clock h i c) s (r.0 g) (e 0 (let n : i ≡ i + 0 = omega arith in subst (λ z. reaches h z ≡ true) n g))),
      all_calm f h c (suc i) ss (λ j g. e (suc j) (let n : suc i + j ≡ i + suc j = omega arith in subst (λ z. reaches h z ≡ true) n g)) r.1,
    )

  -- by what the topmost node keeps
  pub due_is_steady : UnwokenIsSteady → (d f c : ℕ) (s : Shape) → Right a f c s → starts a f (term_of c s) ≡ false → clocked a f (term_of c s) ≡ false → IsAfter (c + d) (payload s).kept.due → Steady a d f (term_of c s)
  due_is_steady unwoken d f c (node k x ss) r e g due = unwoken a d c f (term_of c (node k x ss)) e g (subst (λ z. IsAfter (c + d) z.due) r.0 due)
