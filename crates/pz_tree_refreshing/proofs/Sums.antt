-- What the active children of a node add up to is what its term has, for any sort of sum.
use Rattle.std.proofs.Common.{◌≡◌, ℕ, suc, ◌||◌, Bool, true, false, List, refl, ap, sym, ◌∙◌}
use Rattle.pz_classes_code.specs.declared.slot.Slot.{Slot}
use Rattle.pz_tree_nodes.specs.pz_offer.Summaries.{nothing, join}
use Rattle.pz_tree_nodes.proofs.pz_offer_proofs.Joins.{join_left, join_right}
use Rattle.pz_tree_nodes.specs.pz_rules.Settings.{Context}
use Rattle.pz_tree_nodes.specs.pz_rules.Terms.{Step, Steps, Term, done, sequence, frame, abort, idle, handling, parallel, select, Terms, no_terms, and, term_at}
use Rattle.pz_tree_nodes.specs.pz_rules.devices.Walk.{active_parts}
use Rattle.pz_tree_nodes.specs.pz_tree_standing.Summaries.{summary_of, summaries_of}
use Rattle.pz_tree_nodes.specs.pz_tree_standing.Woken.{begins, is_clocked, starts, clocked}
use Rattle.pz_tree_nodes.proofs.pz_tree_standing_proofs.Tallies.{summary_sequence, summary_parallel, summary_select, summary_frame, summary_abort, summary_idle, summary_handling}
use Rattle.pz_tree_nodes.specs.pz_tree_standing.Heads.{Head, inner_frame, formed}
use Rattle.pz_tree_nodes.specs.pz_tree_standing.Heads as head
use Rattle.pz_tree_nodes.specs.pz_tree_standing.Reached.{reaches}
use Rattle.pz_tree_nodes.specs.Keeping.{any_term}
use Rattle.pz_tree_nodes.proofs.Wakings.{or_none, in_under, in_two, in_children}
use Rattle.pz_tree_refreshing.specs.devices.Reached.{added, reached_sum}

-- it is asked nothing itself
abbrev pub IsPlain : Head → Type 0
IsPlain (head.leaf s) = ⊥
IsPlain (head.wait due at) = ⊥
IsPlain (head.guarded e at s) = ⊥
IsPlain h = Unit {0}

module _ {V : Type 0} (nil : V) (plus : V → V → V) (left : (v : V) → plus nil v ≡ v) (right : (v : V) → plus v nil ≡ v) where
  -- one more, before others
  pub plus_added : (b : Bool) (v w : V) → plus (added plus b v nil) w ≡ added plus b v w
  plus_added true v w = ap (λ z. plus z w) (right v)
  plus_added false v w = left w

  pub added_nil : (b : Bool) (v w : V) → v ≡ nil → added plus b v w ≡ w
  added_nil true v w e = ap (λ z. plus z w) e ∙ left w
  added_nil false v w e = refl

  module _ (h : Head) (g : Term → V) where
    past_first : ((i : ℕ) → reaches h (suc i) ≡ false) → (i : ℕ) (ts : Terms) → reached_sum nil plus h g (suc i) ts ≡ nil
    past_first e i no_terms = refl
    past_first e i (and t ts) = ap (λ b. added plus b (g t) (reached_sum nil plus h g (suc (suc i)) ts)) (e i) ∙ past_first e (suc i) ts

    past_second : ((i : ℕ) → reaches h (suc (suc i)) ≡ false) → (i : ℕ) (ts : Terms) → reached_sum nil plus h g (suc (suc i)) ts ≡ nil
    past_second e i no_terms = refl
    past_second e i (and t ts) = ap (λ b. added plus b (g t) (reached_sum nil plus h g (suc (suc (suc i))) ts)) (e i) ∙ past_second e (suc i) ts

    pub none_sum : ((i : ℕ) → reaches h i ≡ false) → (i : ℕ) (ts : Terms) → reached_sum nil plus h g i ts ≡ nil
    none_sum e i no_terms = refl
    none_sum e i (and t ts) = ap (λ b. added plus b (g t) (reached_sum nil plus h g (suc i) ts)) (e i) ∙ none_sum e (suc i) ts

    module _ (z : g done ≡ nil) where
      first_added : (b : Bool) → nil ≡ added plus b (g done) nil
      first_added b = sym (added_nil b (g done) nil z)

      -- of the first child alone, if it is active
      pub first_sum : ((i : ℕ) → reaches h (suc i) ≡ false) → (ts : Terms) → reached_sum nil plus h g 0 ts ≡ added plus (reaches h 0) (g (term_at ts 0)) nil
      first_sum e no_terms = first_added (reaches h 0)
      first_sum e (and t ts) = ap (added plus (reaches h 0) (g t)) (past_first e 0 ts)

      pub one_sum : reaches h 0 ≡ true → ((i : ℕ) → reaches h (suc i) ≡ false) → (ts : Terms) → reached_sum nil plus h g 0 ts ≡ g (term_at ts 0)
      one_sum r e ts = first_sum e ts ∙ ap (λ b. added plus b (g (term_at ts 0)) nil) r ∙ right (g (term_at ts 0))

      pub two_sum : reaches h 0 ≡ true → reaches h 1 ≡ true → ((i : ℕ) → reaches h (suc (suc i)) ≡ false) → (ts : Terms) → reached_sum nil plus h g 0 ts ≡ plus (g (term_at ts 0)) (g (term_at ts 1))
      two_sum r q e no_terms = sym (right nil) ∙ λ i. plus (sym z i) (sym z i)
      two_sum r q e (and t no_terms) = ap (λ b. added plus b (g t) nil) r ∙ ap (plus (g t)) (sym z)
      two_sum r q e (and t (and u us)) =
          ap (λ b. added plus b (g t) (reached_sum nil plus h g 1 (and u us))) r
          ∙ ap (plus (g t)) (ap (λ b. added plus b (g u) (reached_sum nil plus h g 2 us)) q ∙ ap (plus (g u)) (past_second e 0 us) ∙ right (g u))

      pub second_sum : reaches h 0 ≡ false → reaches h 1 ≡ true → ((i : ℕ) → reaches h (suc (suc i)) ≡ false) → (ts : Terms) → reached_sum nil plus h g 0 ts ≡ g (term_at ts 1)
      second_sum r q e no_terms = sym z
      second_sum r q e (and t no_terms) = ap (λ b. added plus b (g t) nil) r ∙ sym z
      second_sum r q e (and t (and u us)) =
          ap (λ b. added plus b (g t) (reached_sum nil plus h g 1 (and u us))) r
          ∙ ap (λ b. added plus b (g u) (reached_sum nil plus h g 2 us)) q ∙ ap (plus (g u)) (past_second e 0 us) ∙ right (g u)

    all_sum : ((i : ℕ) → reaches h i ≡ true) → (all : Terms → V) → all no_terms ≡ nil → ((t : Term) (ts : Terms) → all (and t ts) ≡ plus (g t) (all ts)) → (i : ℕ) (ts : Terms) → reached_sum nil plus h g i ts ≡ all ts
    all_sum r all e m i no_terms = sym e
    all_sum r all e m i (and t ts) = ap (λ b. added plus b (g t) (reached_sum nil plus h g (suc i) ts)) (r i) ∙ ap (plus (g t)) (all_sum r all e m (suc i) ts) ∙ sym (m t ts)

  -- what a term has, and parts side by side have, in frame f
  module _ (val : ℕ → Term → V) (all : ℕ → Terms → V)
      (all_none : (f : ℕ) → all f no_terms ≡ nil) (all_more : (f : ℕ) (t : Term) (ts : Terms) → all f (and t ts) ≡ plus (val f t) (all f ts))
      (of_done : (f : ℕ) → val f done ≡ nil)
      (of_sequence : (f : ℕ) (t : Term) (rest : Steps) → val f (sequence t rest) ≡ val f t)
      (of_parallel : (f : ℕ) (ts : Terms) → val f (parallel ts) ≡ all f ts)
      (of_select : (f : ℕ) (ts : Terms) → val f (select ts) ≡ all f ts)
      (of_frame : (f number inputs : ℕ) (results : List Slot) (t : Term) → val f (frame number inputs results t) ≡ val number t)
      (of_abort : (f : ℕ) (t u : Term) → val f (abort t u) ≡ plus (val f t) (val f u))
      (of_idle : (f : ℕ) (t u : Term) (again : Step) → val f (idle t u again) ≡ plus (val f t) (val f u))
      (of_handling : (f : ℕ) (t u : Term) (again : Step) → val f (handling t u again) ≡ val f u) where
    pub plain_sum : (h : Head) (f c : ℕ) (ts : Terms) → IsPlain h → val f (formed h c ts) ≡ reached_sum nil plus h (val (inner_frame h f)) 0 ts
    plain_sum (head.leaf s) f c ts p = absurd p
    plain_sum (head.wait due at) f c ts p = absurd p
    plain_sum (head.sequence rest) f c ts p = of_sequence f (term_at ts 0) rest ∙ sym (one_sum (head.sequence rest) (val f) (of_done f) refl (λ i. refl) ts)
    plain_sum head.parallel f c ts p = of_parallel f ts ∙ sym (all_sum head.parallel (val f) (λ i. refl) (all f) (all_none f) (all_more f) 0 ts)
    plain_sum head.select f c ts p = of_select f ts ∙ sym (all_sum head.select (val f) (λ i. refl) (all f) (all_none f) (all_more f) 0 ts)
    plain_sum (head.guarded e at s) f c ts p = absurd p
    plain_sum (head.frame number inputs results) f c ts p = of_frame f number inputs results (term_at ts 0) ∙ sym (one_sum (head.frame number inputs results) (val number) (of_done number) refl (λ i. refl) ts)
    plain_sum head.abort f c ts p = of_abort f (term_at ts 0) (term_at ts 1) ∙ sym (two_sum head.abort (val f) (of_done f) refl refl (λ i. refl) ts)
    plain_sum (head.idle again s) f c ts p = of_idle f (term_at ts 0) (term_at ts 1) again ∙ sym (two_sum (head.idle again s) (val f) (of_done f) refl refl (λ i. refl) ts)
    plain_sum (head.handling again s) f c ts p = of_handling f (term_at ts 0) (term_at ts 1) again ∙ sym (second_sum (head.handling again s) (val f) (of_done f) refl refl (λ i. refl) ts)
    plain_sum (head.shifted s) f c ts p = sym (one_sum (head.shifted s) (val f) (of_done f) refl (λ i. refl) ts)

or_left : (b : Bool) → false || b ≡ b
or_left b = refl

module _ (a : Context) (h : Head) (f c : ℕ) (ts : Terms) (p : IsPlain h) where
  pub plain_summary : summary_of a c f (formed h c ts) ≡ reached_sum nothing join h (summary_of a c (inner_frame h f)) 0 ts
  plain_summary = plain_sum nothing join join_left join_right (summary_of a c) (summaries_of a c) (λ g. refl) (λ g t us. refl) (λ g. refl)
      (summary_sequence a c) (summary_parallel a c) (summary_select a c) (summary_frame a c) (summary_abort a c) (summary_idle a c) (summary_handling a c) h f c ts p

  pub plain_starts : starts a f (formed h c ts) ≡ reached_sum false ◌||◌ h (starts a (inner_frame h f)) 0 ts
  plain_starts = plain_sum false ◌||◌ or_left or_none (starts a) (λ g. any_term (starts a g)) (λ g. refl) (λ g t us. refl) (λ g. refl)
      (λ g t rest. in_under begins 0 (active_parts a g t)) (λ g us. in_children begins a g 0 us) (λ g us. in_children begins a g 0 us)
      (λ g number inputs results t. in_under begins 0 (active_parts a number t))
      (λ g t u. in_two begins (active_parts a g t) (active_parts a g u)) (λ g t u again. in_two begins (active_parts a g t) (active_parts a g u))
      (λ g t u again. in_under begins 1 (active_parts a g u)) h f c ts p

  pub plain_clocked : clocked a f (formed h c ts) ≡ reached_sum false ◌||◌ h (clocked a (inner_frame h f)) 0 ts
  plain_clocked = plain_sum false ◌||◌ or_left or_none (clocked a) (λ g. any_term (clocked a g)) (λ g. refl) (λ g t us. refl) (λ g. refl)
      (λ g t rest. in_under is_clocked 0 (active_parts a g t)) (λ g us. in_children is_clocked a g 0 us) (λ g us. in_children is_clocked a g 0 us)
      (λ g number inputs results t. in_under is_clocked 0 (active_parts a number t))
      (λ g t u. in_two is_clocked (active_parts a g t) (active_parts a g u)) (λ g t u again. in_two is_clocked (active_parts a g t) (active_parts a g u))
      (λ g t u again. in_under is_clocked 1 (active_parts a g u)) h f c ts p
