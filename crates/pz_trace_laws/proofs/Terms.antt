-- Terms stay unbroken.
use Rattle.std.proofs.Common.{◌≡◌, refl, ℕ, zero, suc, Bool, true, false, List, [], ◌∷◌, Option, Some, None}
use Rattle.std.specs.Prelude.{if◌then◌else◌}
use Rattle.pz_trace.specs.pz_syntax.declared.names.Id.{Id}
use Rattle.pz_trace.specs.pz_syntax.Expressions.{none, more}
use Rattle.pz_trace.specs.pz_syntax.Statements.{skip, delay, bracketed, block, guarded as guarded_step, parallel as parallel_step, select as select_step, conditional, repeated, abort as abort_step, interrupt, send, receive, call, assignment, value, no_statements, then, StatementPart, not_written, otherwise, Branches, no_branches, branch}
use Rattle.pz_trace.specs.pz_value.declared.value.ClassId.{ClassId}
use Rattle.pz_trace.specs.pz_classes_code.declared.slot.Slot.{Slot}
use Rattle.pz_trace.specs.pz_classes_rules.declared.method_id.Counts.TheVariants.{Process as process_counts}
use Rattle.pz_trace.specs.pz_classes_rules.Bodies.{BodyTree, data_body, process_body}
use Rattle.pz_trace.specs.pz_state.States.{StateView, opened as with_frame}
use Rattle.pz_trace.specs.pz_offer.PlaceOrder.{Place}
use Rattle.pz_trace.specs.pz_rules.Terms.{Step, Steps, Term, done, leaf, wait, sequence, parallel, select, guarded, frame, abort, idle, handling, Terms, no_terms, and, term_at, child, frame_in}
use Rattle.pz_trace.specs.pz_rules.Settings.{Process, Context, Home}
use Rattle.pz_trace.specs.pz_rules.declared.limits.Edition.{Edition}
use Rattle.pz_trace.specs.pz_rules.declared.limits.Edition.TheVariants.{One, Two}
use Rattle.pz_trace.specs.pz_rules.FrameNumbers.{least_free}
use Rattle.pz_trace.specs.pz_rules.Opening.{step_opened, steps_opened, branches_opened, called_body, by_body, entered_to, depth_of, enter_in, enter, opened, opened_all, opened_part}
use Rattle.pz_trace.specs.pz_rules.Framing.{framed}
use Rattle.pz_trace.specs.pz_rules.Leaving.{replaced, joined, all_done, handled, aborted, interrupted, around, residual}
use Rattle.pz_trace.specs.pz_rules.Active as active
use Rattle.pz_trace.specs.pz_rules.Active.{Active}
use Rattle.pz_trace_laws.specs.Messages.{HasUnbrokenMessages, StatementUnbroken, StatementsUnbroken, OtherwiseUnbroken, BranchesUnbroken}
use Rattle.pz_trace_laws.specs.Standing.{TermUnbroken, TermsUnbroken}
use Rattle.pz_trace_laws.proofs.Bodies.{body_unbroken}

-- what statements open as, where what `enter` leaves of a call is unbroken

module _ (enter : Step → StateView → Process) (enters : (t : Step) (s : StateView) → StatementUnbroken t → TermUnbroken (enter t s).term) where
  mutual
    step_opened_whole : (t : Step) (s : StateView) → StatementUnbroken t → TermUnbroken (step_opened enter t s).term
    step_opened_whole (bracketed at ts) s h = steps_opened_whole ts s h
    step_opened_whole (guarded_step at e t) s h = step_opened_whole t s h
    step_opened_whole (parallel_step at bs) s h = branches_opened_whole bs s h
    step_opened_whole (select_step at bs) s h = branches_opened_whole bs s h
    step_opened_whole (abort_step at ts t) s h = (steps_opened_whole ts s h.0, step_opened_whole t (steps_opened enter ts s).state h.1)
    step_opened_whole (interrupt at ts t) s h = (steps_opened_whole ts s h.0, step_opened_whole t (steps_opened enter ts s).state h.1, h.1)
    step_opened_whole (call at method none []) s h = enters (call at method none []) s h
    step_opened_whole (call at method none (x ∷ xs)) s h = h
    step_opened_whole (call at method (more e es) results) s h = h
    step_opened_whole (skip at) s h = h
    step_opened_whole (delay at e) s h = h
    step_opened_whole (block at es) s h = h
    step_opened_whole (conditional at e ts other) s h = h
    step_opened_whole (repeated at e ts) s h = h
    step_opened_whole (send at port name args after) s h = h
    step_opened_whole (receive at port name into condition after) s h = h
    step_opened_whole (assignment at x e) s h = h
    step_opened_whole (value at e) s h = h

    steps_opened_whole : (ts : Steps) (s : StateView) → StatementsUnbroken ts → TermUnbroken (steps_opened enter ts s).term
    steps_opened_whole no_statements s h = tt
    steps_opened_whole ((then) t no_statements) s h = step_opened_whole t s h.0
    steps_opened_whole ((then) t ((then) r rest)) s h = (step_opened_whole t s h.0, h.1)

    branches_opened_whole : (bs : Branches Slot ClassId ℕ) (s : StateView) → BranchesUnbroken bs → TermsUnbroken (branches_opened enter bs s).terms
    branches_opened_whole no_branches s h = tt
    branches_opened_whole (branch ts bs) s h = (steps_opened_whole ts s h.0, branches_opened_whole bs (steps_opened enter ts s).state h.1)

-- a frame that is replaced gives its place to another
inner_whole : (number inputs : ℕ) (results : List Slot) (inner inner_inputs : ℕ) (inner_results : List Slot) (t : Term) → TermUnbroken t → TermUnbroken (framed number inputs results (frame inner inner_inputs inner_results t))
inner_whole number inputs [] inner inner_inputs [] t k = k
inner_whole number inputs [] inner inner_inputs (x ∷ xs) t k = k
inner_whole number inputs (y ∷ ys) inner inner_inputs xs t k = k

pub framed_whole : (number inputs : ℕ) (results : List Slot) (x : Term) → TermUnbroken x → TermUnbroken (framed number inputs results x)
framed_whole number inputs results (frame inner inner_inputs inner_results t) k = inner_whole number inputs results inner inner_inputs inner_results t k
framed_whole number inputs [] x k = k
framed_whole number inputs (y ∷ ys) x k = k

-- no message has an LF in the model whose plain calls open
abbrev pub Whole : Home → Type 0
Whole home = home.edition ≡ Two → HasUnbrokenMessages home.model

module _ (home : Home) (messages : HasUnbrokenMessages home.model) where
  by_body_whole : (o : Option BodyTree) (x : Id) (opens : Steps → StateView → Process) → ((ts : Steps) (s : StateView) → StatementsUnbroken ts → TermUnbroken (opens ts s).term)
      → called_body home x ≡ o → (t : Step) (s : StateView) → StatementUnbroken t → TermUnbroken (by_body o opens t s).term
  by_body_whole None x opens each is t s h = h
  by_body_whole (Some (data_body locals e)) x opens each is t s h = h
  by_body_whole (Some (process_body locals body)) x opens each is t s h =
      let number = least_free s.frames in
      let inner = with_frame s number locals in
      let whole = body_unbroken home.model (record { name = x.name; counts = process_counts 0 0 }) messages home.class (process_body locals body) is in
      framed_whole number 0 [] (opens body inner).term (each body inner whole)

  entered_to_whole : (depth : ℕ) (t : Step) (s : StateView) → StatementUnbroken t → TermUnbroken (entered_to home depth t s).term
  entered_to_whole zero t s h = h
  entered_to_whole (suc depth) (call at method args results) s h =
      by_body_whole (called_body home method) method (steps_opened (entered_to home depth))
      (λ ts s' k. steps_opened_whole (entered_to home depth) (λ r s'' g. entered_to_whole depth r s'' g) ts s' k) refl (call at method args results) s h
  entered_to_whole (suc depth) (bracketed at ts) s h = h
  entered_to_whole (suc depth) (guarded_step at e t) s h = h
  entered_to_whole (suc depth) (parallel_step at bs) s h = h
  entered_to_whole (suc depth) (select_step at bs) s h = h
  entered_to_whole (suc depth) (abort_step at ts t) s h = h
  entered_to_whole (suc depth) (interrupt at ts t) s h = h
  entered_to_whole (suc depth) (skip at) s h = h
  entered_to_whole (suc depth) (delay at e) s h = h
  entered_to_whole (suc depth) (block at es) s h = h
  entered_to_whole (suc depth) (conditional at e ts other) s h = h
  entered_to_whole (suc depth) (repeated at e ts) s h = h
  entered_to_whole (suc depth) (send at port name args after) s h = h
  entered_to_whole (suc depth) (receive at port name into condition after) s h = h
  entered_to_whole (suc depth) (assignment at x e) s h = h
  entered_to_whole (suc depth) (value at e) s h = h

enters_whole : (home : Home) → Whole home → (t : Step) (s : StateView) → StatementUnbroken t → TermUnbroken (enter home t s).term
enters_whole home whole t s h = by home.edition refl
  where
    by : (e : Edition) → home.edition ≡ e → TermUnbroken (enter_in e home t s).term
    by One is = h
    by Two is = entered_to_whole home (whole is) (depth_of home.model) t s h

pub opened_one : (home : Home) → Whole home → (t : Step) (s : StateView) → StatementUnbroken t → TermUnbroken (opened home t s).term
opened_one home whole t s h = step_opened_whole (enter home) (enters_whole home whole) t s h

pub opened_rest : (home : Home) → Whole home → (ts : Steps) (s : StateView) → StatementsUnbroken ts → TermUnbroken (opened_all home ts s).term
opened_rest home whole ts s h = steps_opened_whole (enter home) (enters_whole home whole) ts s h

pub opened_other : (home : Home) → Whole home → (other : StatementPart Slot ClassId ℕ) (s : StateView) → OtherwiseUnbroken other → TermUnbroken (opened_part home other s).term
opened_other home whole not_written s h = tt
opened_other home whole (otherwise ts) s h = opened_rest home whole ts s h

-- what is around an action

replaced_whole : (ts : Terms) (i : ℕ) (x : Term) → TermsUnbroken ts → TermUnbroken x → TermsUnbroken (replaced ts i x)
replaced_whole no_terms i x h k = tt
replaced_whole (and t ts) zero x h k = (k, h.1)
replaced_whole (and t ts) (suc i) x h k = (h.0, replaced_whole ts i x h.1 k)

joined_whole : (ts : Terms) → TermsUnbroken ts → TermUnbroken (joined ts)
joined_whole ts h = by (all_done ts)
  where
    by : (b : Bool) → TermUnbroken (if b then done else parallel ts)
    by true = tt
    by false = h

-- each rule for a term that is done, and for another
sequence_whole : (home : Home) → Whole home → (s : StateView) (f : ℕ) (t : Term) (rest : Steps) (i : ℕ) (x : Term) → StatementsUnbroken rest → TermUnbroken x → TermUnbroken (around home f s (sequence t rest) i x).term
sequence_whole home whole s f t rest i done h k = opened_rest home whole rest s h
sequence_whole home whole s f t rest i x h k = (k, h)

handled_whole : (home : Home) → Whole home → (s : StateView) (t : Term) (again : Step) (x : Term) → TermUnbroken t → StatementUnbroken again → TermUnbroken x → TermUnbroken (handled home s t again x).term
handled_whole home whole s t again done h g k = (h, opened_one home whole again s g, g)
handled_whole home whole s t again x h g k = (h, k, g)

aborted_whole : (u x : Term) → TermUnbroken u → TermUnbroken x → TermUnbroken (aborted u x)
aborted_whole u done h k = tt
aborted_whole u x h k = (k, h)

interrupted_whole : (u : Term) (again : Step) (x : Term) → TermUnbroken u → StatementUnbroken again → TermUnbroken x → TermUnbroken (interrupted u again x)
interrupted_whole u again done h g k = tt
interrupted_whole u again x h g k = (k, h, g)

frame_whole : (home : Home) (s : StateView) (f number inputs : ℕ) (results : List Slot) (t : Term) (i : ℕ) (x : Term) → TermUnbroken x → TermUnbroken (around home f s (frame number inputs results t) i x).term
frame_whole home s f number inputs results t i done k = tt
frame_whole home s f number inputs results t i x k = framed_whole number inputs results x k

-- a child, and what it leaves of the term around it
record Child (home : Home) (t : Term) (i : ℕ) : Type 0 where
  pub whole : TermUnbroken (child t i)
  pub leaves : Whole home → (f : ℕ) (s : StateView) (x : Term) → TermUnbroken x → TermUnbroken (around home f s t i x).term

terms_at : (ts : Terms) (i : ℕ) → TermsUnbroken ts → TermUnbroken (term_at ts i)
terms_at no_terms i h = tt
terms_at (and t ts) zero h = h.0
terms_at (and t ts) (suc i) h = terms_at ts i h.1

child_of : (home : Home) (t : Term) (i : ℕ) → TermUnbroken t → Child home t i
child_of home done i h = record { whole = tt; leaves = λ w f s x k. tt }
child_of home (leaf r) i h = record { whole = tt; leaves = λ w f s x k. h }
child_of home (wait left at) i h = record { whole = tt; leaves = λ w f s x k. tt }
child_of home (sequence t rest) zero h = record { whole = h.0; leaves = λ w f s x k. sequence_whole home w s f t rest 0 x h.1 k }
child_of home (sequence t rest) (suc zero) h = record { whole = tt; leaves = λ w f s x k. sequence_whole home w s f t rest 1 x h.1 k }
child_of home (sequence t rest) (suc (suc i)) h = record { whole = tt; leaves = λ w f s x k. sequence_whole home w s f t rest (suc (suc i)) x h.1 k }
child_of home (parallel ts) i h = record { whole = terms_at ts i h; leaves = λ w f s x k. joined_whole (replaced ts i x) (replaced_whole ts i x h k) }
child_of home (select ts) i h = record { whole = terms_at ts i h; leaves = λ w f s x k. k }
child_of home (guarded e at t) zero h = record { whole = h; leaves = λ w f s x k. k }
child_of home (guarded e at t) (suc zero) h = record { whole = tt; leaves = λ w f s x k. k }
child_of home (guarded e at t) (suc (suc i)) h = record { whole = tt; leaves = λ w f s x k. k }
child_of home (frame number inputs results t) zero h = record { whole = h; leaves = λ w f s x k. frame_whole home s f number inputs results t 0 x k }
child_of home (frame number inputs results t) (suc zero) h = record { whole = tt; leaves = λ w f s x k. frame_whole home s f number inputs results t 1 x k }
child_of home (frame number inputs results t) (suc (suc i)) h = record { whole = tt; leaves = λ w f s x k. frame_whole home s f number inputs results t (suc (suc i)) x k }
child_of home (abort t u) zero h = record { whole = h.0; leaves = λ w f s x k. aborted_whole u x h.1 k }
child_of home (abort t u) (suc zero) h = record { whole = h.1; leaves = λ w f s x k. k }
child_of home (abort t u) (suc (suc i)) h = record { whole = tt; leaves = λ w f s x k. k }
child_of home (idle t u again) zero h = record { whole = h.0; leaves = λ w f s x k. interrupted_whole u again x h.1 h.2 k }
child_of home (idle t u again) (suc zero) h = record { whole = h.1; leaves = λ w f s x k. handled_whole home w s t again x h.0 h.2 k }
child_of home (idle t u again) (suc (suc i)) h = record { whole = tt; leaves = λ w f s x k. handled_whole home w s t again x h.0 h.2 k }
child_of home (handling t u again) zero h = record { whole = h.0; leaves = λ w f s x k. handled_whole home w s t again x h.0 h.2 k }
child_of home (handling t u again) (suc zero) h = record { whole = h.1; leaves = λ w f s x k. handled_whole home w s t again x h.0 h.2 k }
child_of home (handling t u again) (suc (suc i)) h = record { whole = tt; leaves = λ w f s x k. handled_whole home w s t again x h.0 h.2 k }

-- an active part, and what it leaves of the whole
pub record Part (home : Home) (t : Term) (place : Place) (x : Term) : Type 0 where
  pub whole : TermUnbroken x
  pub leaves : Whole home → (f : ℕ) (y : Process) → TermUnbroken y.term → TermUnbroken (residual home f t place y).term

pub part_of : (home : Home) {a : Context} {f : ℕ} {t : Term} {place : Place} {g : ℕ} {x : Term} → Active a f t place g x → TermUnbroken t → Part home t place x
part_of home (active.here f t) h = record { whole = h; leaves = λ w f y k. k }
part_of home (active.inside f t i place g x r k) h =
    let below = child_of home t i h in
    let inner = part_of home k below.whole in
    record {
      whole = inner.whole;
      leaves = λ w f' y q. below.leaves w f' (residual home (frame_in t f') (child t i) place y).state (residual home (frame_in t f') (child t i) place y).term (inner.leaves w (frame_in t f') y q);
    }
