-- Terms that fit their class stay so.
use Rattle.std.proofs.Common.{◌≡◌, refl, ℕ, zero, suc, Bool, true, false, List, [], ◌∷◌, Option, Some, None}
use Rattle.std.specs.Prelude.{if◌then◌else◌}
use Rattle.std.specs.List.{All}
use Rattle.std.proofs.lemmas.List.Elements.{All-nil}
use Rattle.pz_bind_rules.specs.pz_syntax.Expressions.{none, more}
use Rattle.pz_bind_rules.specs.pz_syntax.Statements.{skip, delay, bracketed, block, guarded as guarded_step, parallel as parallel_step, select as select_step, conditional, repeated, abort as abort_step, interrupt, send, receive, call, assignment, value, no_statements, then, StatementPart, not_written, otherwise, Branches, no_branches, branch}
use Rattle.pz_bind_rules.specs.pz_syntax.Classes.{ModelTree}
use Rattle.pz_bind_rules.specs.pz_value.declared.value.ClassId.{ClassId}
use Rattle.pz_bind_rules.specs.pz_classes_code.declared.slot.Slot.{Slot}
use Rattle.pz_offer.specs.pz_state.States.{StateView, opened as with_frame}
use Rattle.pz_bind_rules.specs.pz_classes_rules.declared.method_id.Counts.TheVariants.{Process as process_counts}
use Rattle.pz_bind_rules.specs.pz_classes_rules.Bodies.{BodyTree, data_body, process_body}
use Rattle.pz_bind_rules.specs.pz_classes_rules.FitBodies.{process_code, SlotFits, StatementFits, StatementsFit, OtherwiseFits, BranchesFit}
use Rattle.pz_bind_rules.specs.pz_classes_rules.SoundBodies.{BodiesFit}
use Rattle.pz_offer.specs.PlaceOrder.{Place}
use Rattle.pz_rules.specs.declared.limits.Edition.{Edition}
use Rattle.pz_rules.specs.declared.limits.Edition.TheVariants.{One, Two}
use Rattle.pz_rules.specs.Terms.{Step, Steps, Term, done, leaf, wait, sequence, parallel, select, guarded, frame, abort, idle, handling, Terms, no_terms, and, term_at, child, frame_in}
use Rattle.pz_rules.specs.Settings.{Process, Context, Home}
use Rattle.pz_rules.specs.FrameNumbers.{least_free}
use Rattle.pz_rules.specs.Opening.{step_opened, steps_opened, branches_opened, called_body, by_body, entered_to, depth_of, enter_in, enter, opened, opened_all, opened_part}
use Rattle.pz_rules.specs.Framing.{framed}
use Rattle.pz_rules.specs.Leaving.{replaced, joined, all_done, handled, aborted, interrupted, around, residual}
use Rattle.pz_rules.specs.Active as active
use Rattle.pz_rules.specs.Active.{Active}
use Rattle.pz_rules.specs.Fitting.{TermFits, TermsFit}

-- Opening, where what `enter` leaves of a call fits

module _ (m : ModelTree) (c : ℕ) (enter : Step → StateView → Process) (enters : (l : ℕ) (t : Step) (s : StateView) → StatementFits m c l t → TermFits m c l (enter t s).term) where
  mutual
    step_opened_fits : (l : ℕ) (t : Step) (s : StateView) → StatementFits m c l t → TermFits m c l (step_opened enter t s).term
    step_opened_fits l (bracketed at ts) s h = steps_opened_fit l ts s h
    step_opened_fits l (guarded_step at e t) s h = (h.0, step_opened_fits l t s h.1)
    step_opened_fits l (parallel_step at bs) s h = branches_opened_fit l bs s h
    step_opened_fits l (select_step at bs) s h = branches_opened_fit l bs s h
    step_opened_fits l (abort_step at ts t) s h = (steps_opened_fit l ts s h.0, step_opened_fits l t (steps_opened enter ts s).state h.1)
    step_opened_fits l (interrupt at ts t) s h = (steps_opened_fit l ts s h.0, step_opened_fits l t (steps_opened enter ts s).state h.1, h.1)
    step_opened_fits l (call at method none []) s h = enters l (call at method none []) s h
    step_opened_fits l (call at method none (x ∷ xs)) s h = h
    step_opened_fits l (call at method (more e es) results) s h = h
    step_opened_fits l (skip at) s h = h
    step_opened_fits l (delay at e) s h = h
    step_opened_fits l (block at es) s h = h
    step_opened_fits l (conditional at e ts other) s h = h
    step_opened_fits l (repeated at e ts) s h = h
    step_opened_fits l (send at port name args after) s h = h
    step_opened_fits l (receive at port name into condition after) s h = h
    step_opened_fits l (assignment at x e) s h = h
    step_opened_fits l (value at e) s h = h

    steps_opened_fit : (l : ℕ) (ts : Steps) (s : StateView) → StatementsFit m c l ts → TermFits m c l (steps_opened enter ts s).term
    steps_opened_fit l no_statements s h = tt
    steps_opened_fit l ((then) t no_statements) s h = step_opened_fits l t s h.0
    steps_opened_fit l ((then) t ((then) r rest)) s h = (step_opened_fits l t s h.0, h.1)

    branches_opened_fit : (l : ℕ) (bs : Branches Slot ClassId ℕ) (s : StateView) → BranchesFit m c l bs → TermsFit m c l (branches_opened enter bs s).terms
    branches_opened_fit l no_branches s h = tt
    branches_opened_fit l (branch ts bs) s h = (steps_opened_fit l ts s h.0, branches_opened_fit l bs (steps_opened enter ts s).state h.1)

module _ (m : ModelTree) (c : ℕ) (edition : Edition) where
  abbrev home : Home
  home = record { model = m; edition = edition; class = c }

  abbrev Fits : ℕ → Term → Type 0
  Fits l t = TermFits m c l t

  -- A frame round a term

  abbrev pub Outputs : ℕ → List Slot → Type 0
  Outputs l results = All (SlotFits m c process_code l) results

  -- a frame that is replaced gives its place to one that assigns nothing either
  inner_fits : (l number inputs : ℕ) (results : List Slot) (inner inner_inputs : ℕ) (inner_results : List Slot) (t : Term) (n : ℕ) → Outputs l results → Fits n (frame inner inner_inputs inner_results t) → Fits l (framed number inputs results (frame inner inner_inputs inner_results t))
  inner_fits l number inputs [] inner inner_inputs [] t n h k = (h, k.1)
  inner_fits l number inputs [] inner inner_inputs (x ∷ xs) t n h k = (h, (n, k))
  inner_fits l number inputs (y ∷ ys) inner inner_inputs xs t n h k = (h, (n, k))

  pub framed_fits : (l number inputs : ℕ) (results : List Slot) (x : Term) (n : ℕ) → Outputs l results → Fits n x → Fits l (framed number inputs results x)
  framed_fits l number inputs results (frame inner inner_inputs inner_results t) n h k = inner_fits l number inputs results inner inner_inputs inner_results t n h k
  framed_fits l number inputs [] x n h k = (h, (n, k))
  framed_fits l number inputs (y ∷ ys) x n h k = (h, (n, k))

  -- What a plain call becomes, where the bodies fit

  by_body_fits : (sound : BodiesFit m) (l : ℕ) (t : Step) (s : StateView) (opens : Steps → StateView → Process) (o : Option BodyTree) → StatementFits m c l t
      → ((locals : ℕ) (body : Steps) → o ≡ Some (process_body locals body) → Fits locals (opens body (with_frame s (least_free s.frames) locals)).term) → Fits l (by_body o opens t s).term
  by_body_fits sound l t s opens (Some (process_body locals body)) h inner = framed_fits l (least_free s.frames) 0 [] (opens body (with_frame s (least_free s.frames) locals)).term locals (All-nil (SlotFits m c process_code l)) (inner locals body refl)
  by_body_fits sound l t s opens (Some (data_body locals body)) h inner = h
  by_body_fits sound l t s opens None h inner = h

  entered_to_fits : BodiesFit m → (depth l : ℕ) (t : Step) (s : StateView) → StatementFits m c l t → Fits l (entered_to home depth t s).term
  entered_to_fits sound zero l t s h = h
  entered_to_fits sound (suc depth) l (call at method args results) s h =
      by_body_fits sound l (call at method args results) s (steps_opened (entered_to home depth)) (called_body home method) h
      (λ locals body is.
      steps_opened_fit m c (entered_to home depth) (λ n r u k. entered_to_fits sound depth n r u k) locals body (with_frame s (least_free s.frames) locals)
      (let all = sound.methods_fit c (record { name = method.name; counts = process_counts 0 0 }) (process_body locals body) is in all.1))
  entered_to_fits sound (suc depth) l t s h = h

  enters_in_fit : BodiesFit m → (e : Edition) (l : ℕ) (t : Step) (s : StateView) → StatementFits m c l t → Fits l (enter_in e home t s).term
  enters_in_fit sound One l t s h = h
  enters_in_fit sound Two l t s h = entered_to_fits sound (depth_of m) l t s h

  enters_fit : BodiesFit m → (l : ℕ) (t : Step) (s : StateView) → StatementFits m c l t → Fits l (enter home t s).term
  enters_fit sound l t s h = enters_in_fit sound edition l t s h

  pub opened_fits : BodiesFit m → (l : ℕ) (t : Step) (s : StateView) → StatementFits m c l t → Fits l (opened home t s).term
  opened_fits sound l t s h = step_opened_fits m c (enter home) (enters_fit sound) l t s h

  pub opened_all_fits : BodiesFit m → (l : ℕ) (ts : Steps) (s : StateView) → StatementsFit m c l ts → Fits l (opened_all home ts s).term
  opened_all_fits sound l ts s h = steps_opened_fit m c (enter home) (enters_fit sound) l ts s h

  pub opened_part_fits : BodiesFit m → (l : ℕ) (other : StatementPart Slot ClassId ℕ) (s : StateView) → OtherwiseFits m c l other → Fits l (opened_part home other s).term
  opened_part_fits sound l not_written s h = tt
  opened_part_fits sound l (otherwise ts) s h = opened_all_fits sound l ts s h

  -- What is around an action

  replaced_fit : (l : ℕ) (ts : Terms) (i : ℕ) (x : Term) → TermsFit m c l ts → Fits l x → TermsFit m c l (replaced ts i x)
  replaced_fit l no_terms i x h k = tt
  replaced_fit l (and t ts) zero x h k = (k, h.1)
  replaced_fit l (and t ts) (suc i) x h k = (h.0, replaced_fit l ts i x h.1 k)

  joined_fits : (l : ℕ) (ts : Terms) → TermsFit m c l ts → Fits l (joined ts)
  joined_fits l ts h = by (all_done ts)
    where
      by : (b : Bool) → Fits l (if b then done else parallel ts)
      by true = tt
      by false = h

  -- each rule for a term that is done, and for another
  sequence_fits : BodiesFit m → (l : ℕ) (s : StateView) (f : ℕ) (t : Term) (rest : Steps) (i : ℕ) (x : Term) → StatementsFit m c l rest → Fits l x → Fits l (around home f s (sequence t rest) i x).term
  sequence_fits sound l s f t rest i done h k = opened_all_fits sound l rest s h
  sequence_fits sound l s f t rest i x h k = (k, h)

  handled_fits : BodiesFit m → (l : ℕ) (s : StateView) (t : Term) (again : Step) (x : Term) → Fits l t → StatementFits m c l again → Fits l x → Fits l (handled home s t again x).term
  handled_fits sound l s t again done h g k = (h, opened_fits sound l again s g, g)
  handled_fits sound l s t again x h g k = (h, k, g)

  aborted_fits : (l : ℕ) (u x : Term) → Fits l u → Fits l x → Fits l (aborted u x)
  aborted_fits l u done h k = tt
  aborted_fits l u x h k = (k, h)

  interrupted_fits : (l : ℕ) (u : Term) (again : Step) (x : Term) → Fits l u → StatementFits m c l again → Fits l x → Fits l (interrupted u again x)
  interrupted_fits l u again done h g k = tt
  interrupted_fits l u again x h g k = (k, h, g)

  frame_fits : (l : ℕ) (s : StateView) (f number inputs : ℕ) (results : List Slot) (t : Term) (i : ℕ) (x : Term) (n : ℕ) → Outputs l results → Fits n x → Fits l (around home f s (frame number inputs results t) i x).term
  frame_fits l s f number inputs results t i done n h k = tt
  frame_fits l s f number inputs results t i x n h k = framed_fits l number inputs results x n h k

  abbrev Grown : ℕ → ℕ → Term → ℕ → Type 0
  Grown l n t i = (f : ℕ) (s : StateView) (x : Term) → Fits n x → Fits l (around home f s t i x).term

  -- a child, with its locals
  record Child (l : ℕ) (t : Term) (i : ℕ) : Type 0 where
    pub locals : ℕ
    pub fits : Fits locals (child t i)
    pub around_fits : BodiesFit m → Grown l locals t i

  terms_at : (l : ℕ) (ts : Terms) (i : ℕ) → TermsFit m c l ts → Fits l (term_at ts i)
  terms_at l no_terms i h = tt
  terms_at l (and t ts) zero h = h.0
  terms_at l (and t ts) (suc i) h = terms_at l ts i h.1

  child_of : (l : ℕ) (t : Term) (i : ℕ) → Fits l t → Child l t i
  child_of l done i h = record { locals = l; fits = tt; around_fits = λ sound f s x k. tt }
  child_of l (leaf r) i h = record { locals = l; fits = tt; around_fits = λ sound f s x k. h }
  child_of l (wait left at) i h = record { locals = l; fits = tt; around_fits = λ sound f s x k. tt }
  child_of l (sequence t rest) zero h = record { locals = l; fits = h.0; around_fits = λ sound f s x k. sequence_fits sound l s f t rest 0 x h.1 k }
  child_of l (sequence t rest) (suc zero) h = record { locals = l; fits = tt; around_fits = λ sound f s x k. sequence_fits sound l s f t rest 1 x h.1 k }
  child_of l (sequence t rest) (suc (suc i)) h = record { locals = l; fits = tt; around_fits = λ sound f s x k. sequence_fits sound l s f t rest (suc (suc i)) x h.1 k }
  child_of l (parallel ts) i h = record { locals = l; fits = terms_at l ts i h; around_fits = λ sound f s x k. joined_fits l (replaced ts i x) (replaced_fit l ts i x h k) }
  child_of l (select ts) i h = record { locals = l; fits = terms_at l ts i h; around_fits = λ sound f s x k. k }
  child_of l (guarded e at t) zero h = record { locals = l; fits = h.1; around_fits = λ sound f s x k. k }
  child_of l (guarded e at t) (suc zero) h = record { locals = l; fits = tt; around_fits = λ sound f s x k. k }
  child_of l (guarded e at t) (suc (suc i)) h = record { locals = l; fits = tt; around_fits = λ sound f s x k. k }
  child_of l (frame number inputs results t) zero h = record { locals = h.1.0; fits = h.1.1; around_fits = λ sound f s x k. frame_fits l s f number inputs results t 0 x h.1.0 h.0 k }
  child_of l (frame number inputs results t) (suc zero) h = record { locals = h.1.0; fits = tt; around_fits = λ sound f s x k. frame_fits l s f number inputs results t 1 x h.1.0 h.0 k }
  child_of l (frame number inputs results t) (suc (suc i)) h = record { locals = h.1.0; fits = tt; around_fits = λ sound f s x k. frame_fits l s f number inputs results t (suc (suc i)) x h.1.0 h.0 k }
  child_of l (abort t u) zero h = record { locals = l; fits = h.0; around_fits = λ sound f s x k. aborted_fits l u x h.1 k }
  child_of l (abort t u) (suc zero) h = record { locals = l; fits = h.1; around_fits = λ sound f s x k. k }
  child_of l (abort t u) (suc (suc i)) h = record { locals = l; fits = tt; around_fits = λ sound f s x k. k }
  child_of l (idle t u again) zero h = record { locals = l; fits = h.0; around_fits = λ sound f s x k. interrupted_fits l u again x h.1 h.2 k }
  child_of l (idle t u again) (suc zero) h = record { locals = l; fits = h.1; around_fits = λ sound f s x k. handled_fits sound l s t again x h.0 h.2 k }
  child_of l (idle t u again) (suc (suc i)) h = record { locals = l; fits = tt; around_fits = λ sound f s x k. handled_fits sound l s t again x h.0 h.2 k }
  child_of l (handling t u again) zero h = record { locals = l; fits = h.0; around_fits = λ sound f s x k. handled_fits sound l s t again x h.0 h.2 k }
  child_of l (handling t u again) (suc zero) h = record { locals = l; fits = h.1; around_fits = λ sound f s x k. handled_fits sound l s t again x h.0 h.2 k }
  child_of l (handling t u again) (suc (suc i)) h = record { locals = l; fits = tt; around_fits = λ sound f s x k. handled_fits sound l s t again x h.0 h.2 k }

-- an active part, the locals around it, and what it leaves of the whole
pub record Fitted (m : ModelTree) (c : ℕ) (edition : Edition) (l : ℕ) (t : Term) (place : Place) (x : Term) : Type 0 where
  pub locals : ℕ
  pub fits : TermFits m c locals x
  pub leaves : BodiesFit m → (f : ℕ) (y : Process) → TermFits m c locals y.term → TermFits m c l (residual (record { model = m; edition = edition; class = c }) f t place y).term

pub fitted : (m : ModelTree) (c : ℕ) (edition : Edition) {a : Context} {f : ℕ} {t : Term} {place : Place} {g : ℕ} {x : Term} (l : ℕ) → Active a f t place g x → TermFits m c l t → Fitted m c edition l t place x
fitted m c edition l (active.here f t) h = record { locals = l; fits = h; leaves = λ sound f y k. k }
fitted m c edition l (active.inside f t i place g x r k) h =
    let below = child_of m c edition l t i h in
    let inner = fitted m c edition below.locals k below.fits in
    record {
      locals = inner.locals;
      fits = inner.fits;
      leaves = λ sound f' y q.
          let left = residual (record { model = m; edition = edition; class = c }) (frame_in t f') (child t i) place y in
          below.around_fits sound f' left.state left.term (inner.leaves sound (frame_in t f') y q);
    }
