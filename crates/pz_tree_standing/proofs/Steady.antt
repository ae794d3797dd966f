-- As time passes, a term that is steady keeps its summary.
use Rattle.std.proofs.Common.{◌≡◌, ℕ, zero, suc, ◌+◌, ◌-◌, ◌<◌, ◌≤◌, Bool, true, false, Some, None, Result, Ok, Err, refl, ap, sym, ◌∙◌, arith}
use Rattle.pz_rules.specs.pz_syntax.declared.tokens.Pos.{Pos}
use Rattle.pz_rules.specs.pz_syntax.Expressions.{Part, left_out, written}
use Rattle.pz_rules.specs.pz_syntax.Statements as statement
use Rattle.pz_rules.specs.pz_value.declared.value.ClassId.{ClassId}
use Rattle.pz_rules.specs.pz_classes_code.declared.slot.Slot.{Slot}
use Rattle.pz_rules.specs.pz_offer.declared.trouble.Trouble.{Trouble}
use Rattle.pz_rules.specs.pz_offer.Summaries.{join}
use Rattle.pz_rules.specs.pz_eval_rules.Clocks.{names_clock, part_names_clock, DataIsTimeless}
use Rattle.pz_rules.specs.pz_eval_rules.devices.Laws.{UnclockedIsComputedTheSame, UnclockedListIsComputedTheSame}
use Rattle.pz_rules.specs.pz_eval_rules.devices.Outcomes.{outcome_of, listed_of, state_after}
use Rattle.pz_rules.specs.Terms.{Code, Step, Term, done, leaf, wait, sequence, parallel, select, guarded, frame, abort, idle, handling, Terms, no_terms, and}
use Rattle.pz_rules.specs.Settings.{Context}
use Rattle.pz_rules.specs.Meanings.{and_then, truth}
use Rattle.pz_rules.specs.Evaluations.{allowance, value_or_trouble, values_or_trouble}
use Rattle.pz_rules.specs.Delays.{Passes}
use Rattle.pz_rules.specs.devices.Computed.{OnePassingIsComputed}
use Rattle.pz_rules.specs.devices.Found.{tested, found_part, left_part}
use Rattle.pz_rules.specs.devices.Passing.{passed, passed_all, if_open}
use Rattle.pz_rules.specs.devices.Walk.{sending, trouble_of, expiry}
use Rattle.pz_tree_standing.specs.Summaries.{summary_of, summaries_of, gated}
use Rattle.pz_tree_standing.specs.Steady.{later, StatementIsSteady, Steady, AreSteady}
use Rattle.pz_tree_standing.specs.devices.Tallies.{one, own_summary}
use Rattle.pz_tree_standing.proofs.Tallies.{summary_sequence, summary_parallel, summary_select, summary_guarded, summary_frame, summary_abort, summary_idle, summary_handling}
use Rattle.pz_tree_standing.proofs.Unasked.{alone}

module _ (value_same : UnclockedIsComputedTheSame) (list_same : UnclockedListIsComputedTheSame)
    (a : Context) (d : ℕ) (methods : DataIsTimeless a.setting.model) where
  pub tested_same : (f : ℕ) (at : Pos) (e : Code) → names_clock e ≡ false → tested (later a d) f at e ≡ tested a f at e
  tested_same f at e h =
      ap (λ r. and_then (value_or_trouble a.process at (outcome_of r)) (truth a.process at))
      (value_same a.setting.model a.clock (a.clock + d) f a.state e (allowance a.setting.limits) methods h)

  part_same : (f : ℕ) (at : Pos) (es : Part Slot ClassId) → part_names_clock es ≡ false → found_part (later a d) f at es ≡ found_part a f at es
  part_same f at left_out h = refl
  part_same f at (written es) h =
      ap (λ r. values_or_trouble a.process at (listed_of r))
      (list_same a.setting.model a.clock (a.clock + d) f a.state es (allowance a.setting.limits) methods h)

  left_same : (f : ℕ) (es : Part Slot ClassId) → part_names_clock es ≡ false → left_part (later a d) f es ≡ left_part a f es
  left_same f left_out h = refl
  left_same f (written es) h =
      ap (state_after a.state) (list_same a.setting.model a.clock (a.clock + d) f a.state es (allowance a.setting.limits) methods h)

  own_same : (c f : ℕ) (s : Step) → StatementIsSteady s → own_summary (later a d) (c + d) f (passed a d f (leaf s)) ≡ own_summary a c f (leaf s)
  own_same c f (statement.skip at) h = refl
  own_same c f (statement.delay at e) h = absurd h
  own_same c f (statement.bracketed at ts) h = refl
  own_same c f (statement.block at es) h = refl
  own_same c f (statement.guarded at e t) h = refl
  own_same c f (statement.parallel at bs) h = refl
  own_same c f (statement.select at bs) h = refl
  own_same c f (statement.conditional at e ts other) h = refl
  own_same c f (statement.repeated at e ts) h = refl
  own_same c f (statement.abort at ts t) h = refl
  own_same c f (statement.interrupt at ts t) h = refl
  own_same c f (statement.send at port name args after) h = λ i. record {
    internal = 0;
    sends = one (sending at port name.name (left_same f args h i) (part_same f at args h i));
    receives = 0;
    due = None;
    trouble = trouble_of (part_same f at args h i);
  }
  own_same c f (statement.receive at port name into condition after) h = refl
  own_same c f (statement.call at method args results) h = refl
  own_same c f (statement.assignment at x e) h = refl
  own_same c f (statement.value at e) h = refl

  wait_same : (c f left : ℕ) (at : Pos) → d < left → own_summary (later a d) (c + d) f (wait (left - d) at) ≡ own_summary a c f (wait left at)
  wait_same c f left at h =
      let p : one (expiry at (Ok (left - d))) ≡ 0 = none_yet (left - d) at (omega (arith, h)) in
      let q : one (expiry at (Ok left)) ≡ 0 = none_yet left at (omega (arith, h)) in
      λ i. record {
        internal = (p ∙ sym q) i;
        sends = 0;
        receives = 0;
        due = Some ((let e : (c + d) + (left - d) ≡ c + left = omega (arith, h) in e) i);
        trouble = None;
      }
    where
      none_yet : (n : ℕ) (at : Pos) → 1 ≤ n → one (expiry at (Ok n)) ≡ 0
      none_yet zero at h = absurd (omega arith)
      none_yet (suc n) at h = refl

  leaf_passes : (f : ℕ) (s : Step) → StatementIsSteady s → passed a d f (leaf s) ≡ leaf s
  leaf_passes f (statement.skip at) h = refl
  leaf_passes f (statement.delay at e) h = absurd h
  leaf_passes f (statement.bracketed at ts) h = refl
  leaf_passes f (statement.block at es) h = refl
  leaf_passes f (statement.guarded at e t) h = refl
  leaf_passes f (statement.parallel at bs) h = refl
  leaf_passes f (statement.select at bs) h = refl
  leaf_passes f (statement.conditional at e ts other) h = refl
  leaf_passes f (statement.repeated at e ts) h = refl
  leaf_passes f (statement.abort at ts t) h = refl
  leaf_passes f (statement.interrupt at ts t) h = refl
  leaf_passes f (statement.send at port name args after) h = refl
  leaf_passes f (statement.receive at port name into condition after) h = refl
  leaf_passes f (statement.call at method args results) h = refl
  leaf_passes f (statement.assignment at x e) h = refl
  leaf_passes f (statement.value at e) h = refl

  gate_same : (c f : ℕ) (r : Result Bool Trouble) (x t : Term) → (r ≡ Ok true → summary_of (later a d) (c + d) f x ≡ summary_of a c f t) → gated r (summary_of (later a d) (c + d) f (if_open r x t)) ≡ gated r (summary_of a c f t)
  gate_same c f (Ok true) x t h = h refl
  gate_same c f (Ok false) x t h = refl
  gate_same c f (Err u) x t h = refl

  mutual
    -- what stands after the passing has the summary from before
    pub steady_summary : (c f : ℕ) (t : Term) → Steady a d f t → summary_of (later a d) (c + d) f (passed a d f t) ≡ summary_of a c f t
    steady_summary c f done h = refl
    steady_summary c f (leaf s) h =
        ap (summary_of (later a d) (c + d) f) (leaf_passes f s h) ∙ alone (later a d) (c + d) f (leaf s) refl
        ∙ ap (own_summary (later a d) (c + d) f) (sym (leaf_passes f s h)) ∙ own_same c f s h ∙ sym (alone a c f (leaf s) refl)
    steady_summary c f (wait left at) h = alone (later a d) (c + d) f (wait (left - d) at) refl ∙ wait_same c f left at h ∙ sym (alone a c f (wait left at) refl)
    steady_summary c f (sequence t rest) h = summary_sequence (later a d) (c + d) f (passed a d f t) rest ∙ steady_summary c f t h ∙ sym (summary_sequence a c f t rest)
    steady_summary c f (parallel ts) h = summary_parallel (later a d) (c + d) f (passed_all a d f ts) ∙ steady_summaries c f ts h ∙ sym (summary_parallel a c f ts)
    steady_summary c f (select ts) h = summary_select (later a d) (c + d) f (passed_all a d f ts) ∙ steady_summaries c f ts h ∙ sym (summary_select a c f ts)
    steady_summary c f (guarded test at t) h =
        summary_guarded (later a d) (c + d) f test at (if_open (tested a f at test) (passed a d f t) t)
        ∙ ap (λ r. gated r (summary_of (later a d) (c + d) f (if_open (tested a f at test) (passed a d f t) t))) (tested_same f at test h.0)
        ∙ gate_same c f (tested a f at test) (passed a d f t) t (λ e. steady_summary c f t (h.1 e))
        ∙ sym (summary_guarded a c f test at t)
    steady_summary c f (frame number inputs results t) h = summary_frame (later a d) (c + d) f number inputs results (passed a d number t) ∙ steady_summary c number t h ∙ sym (summary_frame a c f number inputs results t)
    steady_summary c f (abort t u) h = summary_abort (later a d) (c + d) f (passed a d f t) (passed a d f u) ∙ (λ i. join (steady_summary c f t h.0 i) (steady_summary c f u h.1 i)) ∙ sym (summary_abort a c f t u)
    steady_summary c f (idle t u again) h = summary_idle (later a d) (c + d) f (passed a d f t) (passed a d f u) again ∙ (λ i. join (steady_summary c f t h.0 i) (steady_summary c f u h.1 i)) ∙ sym (summary_idle a c f t u again)
    steady_summary c f (handling t u again) h = summary_handling (later a d) (c + d) f t (passed a d f u) again ∙ steady_summary c f u h ∙ sym (summary_handling a c f t u again)

    steady_summaries : (c f : ℕ) (ts : Terms) → AreSteady a d f ts → summaries_of (later a d) (c + d) f (passed_all a d f ts) ≡ summaries_of a c f ts
    steady_summaries c f no_terms h = refl
    steady_summaries c f (and t ts) h = λ i. join (steady_summary c f t h.0 i) (steady_summaries c f ts h.1 i)

  -- and so does whatever the passing leaves
  pub steady_passing : OnePassingIsComputed → (c f : ℕ) (t x : Term) → Steady a d f t → Passes a d f t x → summary_of (later a d) (c + d) f x ≡ summary_of a c f t
  steady_passing only c f t x h p = ap (summary_of (later a d) (c + d) f) (only a d f t x p) ∙ steady_summary c f t h
