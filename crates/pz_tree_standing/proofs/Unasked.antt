-- What is asked nothing has one summary at a clock of its own, whatever the state and the clock of the process.
use Rattle.std.proofs.Common.{◌≡◌, ℕ, Bool, true, false, ◌||◌, [], ◌∷◌, refl, ap, sym, ◌∙◌}
use Rattle.pz_rules.specs.pz_syntax.Statements as statement
use Rattle.pz_rules.specs.Terms.{Step, Term, done, leaf, wait, sequence, parallel, select, guarded, frame, abort, idle, handling, Terms, no_terms, and}
use Rattle.pz_rules.specs.Settings.{Context}
use Rattle.pz_rules.specs.devices.Walk.{active_parts, here}
use Rattle.pz_rules.specs.pz_offer.Summaries.{join}
use Rattle.pz_tree_standing.specs.Summaries.{summary_of, summaries_of}
use Rattle.pz_tree_standing.specs.Asked.{statement_asks, asks, any_asks}
use Rattle.pz_tree_standing.specs.devices.Tallies.{tally, own_summary}
use Rattle.pz_rules.proofs.pz_offer_proofs.Joins.{join_right}
use Rattle.pz_tree_standing.proofs.Tallies.{summary_is_tally, summary_sequence, summary_parallel, summary_select, summary_frame, summary_abort, summary_idle, summary_handling}

pub or_neither : (a b : Bool) → a || b ≡ false → (a ≡ false) × (b ≡ false)
or_neither false b e = (refl, e)
or_neither true b e = absurd cc

leaf_same : (a b : Context) (c f : ℕ) (s : Step) → statement_asks s ≡ false → own_summary a c f (leaf s) ≡ own_summary b c f (leaf s)
leaf_same a b c f (statement.skip at) h = refl
leaf_same a b c f (statement.delay at e) h = absurd cc
leaf_same a b c f (statement.bracketed at ts) h = refl
leaf_same a b c f (statement.block at es) h = refl
leaf_same a b c f (statement.guarded at e t) h = refl
leaf_same a b c f (statement.parallel at bs) h = refl
leaf_same a b c f (statement.select at bs) h = refl
leaf_same a b c f (statement.conditional at e ts other) h = refl
leaf_same a b c f (statement.repeated at e ts) h = refl
leaf_same a b c f (statement.abort at ts t) h = refl
leaf_same a b c f (statement.interrupt at ts t) h = refl
leaf_same a b c f (statement.send at port name args after) h = absurd cc
leaf_same a b c f (statement.receive at port name into condition after) h = refl
leaf_same a b c f (statement.call at method args results) h = refl
leaf_same a b c f (statement.assignment at x e) h = refl
leaf_same a b c f (statement.value at e) h = refl

-- a part without others inside
pub alone : (b : Context) (c f : ℕ) (t : Term) → active_parts b f t ≡ here f t ∷ [] → summary_of b c f t ≡ own_summary b c f t
alone b c f t e = summary_is_tally b c (active_parts b f t) ∙ ap (tally b c) e ∙ join_right (own_summary b c f t)

mutual
  pub unasked_is_steady : (a b : Context) (c f : ℕ) (t : Term) → asks t ≡ false → summary_of a c f t ≡ summary_of b c f t
  unasked_is_steady a b c f done h = refl
  unasked_is_steady a b c f (leaf s) h = alone a c f (leaf s) refl ∙ leaf_same a b c f s h ∙ sym (alone b c f (leaf s) refl)
  unasked_is_steady a b c f (wait left at) h = alone a c f (wait left at) refl ∙ sym (alone b c f (wait left at) refl)
  unasked_is_steady a b c f (sequence t rest) h = summary_sequence a c f t rest ∙ unasked_is_steady a b c f t h ∙ sym (summary_sequence b c f t rest)
  unasked_is_steady a b c f (parallel ts) h = summary_parallel a c f ts ∙ unasked_are_steady a b c f ts h ∙ sym (summary_parallel b c f ts)
  unasked_is_steady a b c f (select ts) h = summary_select a c f ts ∙ unasked_are_steady a b c f ts h ∙ sym (summary_select b c f ts)
  unasked_is_steady a b c f (guarded test at t) h = absurd cc
  unasked_is_steady a b c f (frame number inputs results t) h = summary_frame a c f number inputs results t ∙ unasked_is_steady a b c number t h ∙ sym (summary_frame b c f number inputs results t)
  unasked_is_steady a b c f (abort t u) h = let p = or_neither (asks t) (asks u) h in
      summary_abort a c f t u ∙ (λ i. join (unasked_is_steady a b c f t p.0 i) (unasked_is_steady a b c f u p.1 i)) ∙ sym (summary_abort b c f t u)
  unasked_is_steady a b c f (idle t u again) h = let p = or_neither (asks t) (asks u) h in
      summary_idle a c f t u again ∙ (λ i. join (unasked_is_steady a b c f t p.0 i) (unasked_is_steady a b c f u p.1 i)) ∙ sym (summary_idle b c f t u again)
  unasked_is_steady a b c f (handling t u again) h = summary_handling a c f t u again ∙ unasked_is_steady a b c f u h ∙ sym (summary_handling b c f t u again)

  unasked_are_steady : (a b : Context) (c f : ℕ) (ts : Terms) → any_asks ts ≡ false → summaries_of a c f ts ≡ summaries_of b c f ts
  unasked_are_steady a b c f no_terms h = refl
  unasked_are_steady a b c f (and t ts) h = let p = or_neither (asks t) (any_asks ts) h in λ i. join (unasked_is_steady a b c f t p.0 i) (unasked_are_steady a b c f ts p.1 i)
