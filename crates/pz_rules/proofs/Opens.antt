-- What opens holds statements of the same kind, and brings no more delays than they have and what their
-- plain calls open as.
use Rattle.std.proofs.Common.{◌≡◌, ◌≤◌, ◌+◌, ℕ, zero, suc, List, [], ◌∷◌, ◌++◌, Option, Some, None, refl, arith}
use Rattle.std.specs.List.{sum_by}
use Rattle.std.proofs.lemmas.List.Sums.{sum_by-cons, sum_by-append}
use Rattle.pz_bind_rules.specs.pz_syntax.declared.tokens.Pos.{Pos}
use Rattle.pz_bind_rules.specs.pz_syntax.declared.names.Id.{Id}
use Rattle.pz_bind_rules.specs.pz_syntax.ModelForm.{Each}
use Rattle.pz_bind_rules.specs.pz_syntax.Expressions.{none, more}
use Rattle.pz_bind_rules.specs.pz_syntax.Statements.{skip, delay, bracketed, block, guarded as guarded_step, parallel as parallel_step, select as select_step, conditional, repeated, abort as abort_step, interrupt, send, receive, call, assignment, value, no_statements, then, Branches, no_branches, branch}
use Rattle.pz_bind_rules.specs.pz_value.declared.value.ClassId.{ClassId}
use Rattle.pz_bind_rules.specs.pz_classes_code.declared.slot.Slot.{Slot}
use Rattle.pz_bind_rules.specs.pz_classes_rules.Bodies.{BodyTree, data_body, process_body}
use Rattle.pz_classes_beginnings.specs.Beginning.{begun, begun_all, begun_each}
use Rattle.pz_offer.specs.pz_state.States.{StateView, opened as with_frame}
use Rattle.pz_rules.specs.declared.limits.Edition.{Edition}
use Rattle.pz_rules.specs.declared.limits.Edition.TheVariants.{One, Two}
use Rattle.pz_rules.specs.Terms.{Step, Steps, Term, frame}
use Rattle.pz_rules.specs.Settings.{Process, Home}
use Rattle.pz_rules.specs.FrameNumbers.{least_free}
use Rattle.pz_rules.specs.Framing.{framed}
use Rattle.pz_rules.specs.Methods.{IsMethod}
use Rattle.pz_rules.specs.Opening.{step_opened, steps_opened, branches_opened, called_body, by_body, entered_to, depth_of, enter_in, enter, opened_all}
use Rattle.pz_rules.specs.Openable.{alone, branches_of}
use Rattle.pz_rules.specs.devices.Pending.{pending, all_pending}
use Rattle.pz_rules.specs.devices.Opened.{delays_in, delays_in_all, delays_in_each, Holds, HoldAll, IsClosed}

-- where what `enter` leaves of a call holds such

module _ (P : Steps → Type 0) (closed : IsClosed P) (enter : Step → StateView → Process) (enters : (t : Step) (s : StateView) → P (alone t) → Holds P (enter t s).term) where
  mutual
    step_opened_holds : (t : Step) (s : StateView) → P (alone t) → Holds P (step_opened enter t s).term
    step_opened_holds (bracketed at ts) s h = steps_opened_hold ts s (closed.within (bracketed at ts) h).0
    step_opened_holds (guarded_step at e t) s h = step_opened_holds t s (closed.within (guarded_step at e t) h).0
    step_opened_holds (parallel_step at bs) s h = branches_opened_hold bs s (closed.within (parallel_step at bs) h)
    step_opened_holds (select_step at bs) s h = branches_opened_hold bs s (closed.within (select_step at bs) h)
    step_opened_holds (abort_step at ts t) s h =
        let parts = closed.within (abort_step at ts t) h in
        (steps_opened_hold ts s parts.0, step_opened_holds t (steps_opened enter ts s).state parts.1.0)
    step_opened_holds (interrupt at ts t) s h =
        let parts = closed.within (interrupt at ts t) h in
        (steps_opened_hold ts s parts.0, step_opened_holds t (steps_opened enter ts s).state parts.1.0, parts.1.0)
    step_opened_holds (call at method none []) s h = enters (call at method none []) s h
    step_opened_holds (call at method none (x ∷ xs)) s h = h
    step_opened_holds (call at method (more e es) results) s h = h
    step_opened_holds (skip at) s h = h
    step_opened_holds (delay at e) s h = h
    step_opened_holds (block at es) s h = h
    step_opened_holds (conditional at e ts other) s h = h
    step_opened_holds (repeated at e ts) s h = h
    step_opened_holds (send at port name args after) s h = h
    step_opened_holds (receive at port name into condition after) s h = h
    step_opened_holds (assignment at x e) s h = h
    step_opened_holds (value at e) s h = h

    steps_opened_hold : (ts : Steps) (s : StateView) → P ts → Holds P (steps_opened enter ts s).term
    steps_opened_hold no_statements s h = tt
    steps_opened_hold ((then) t no_statements) s h = step_opened_holds t s h
    steps_opened_hold ((then) t ((then) r rest)) s h = (step_opened_holds t s (closed.one t ((then) r rest) h), closed.behind t ((then) r rest) h)

    branches_opened_hold : (bs : Branches Slot ClassId ℕ) (s : StateView) → Each P (branches_of bs) → HoldAll P (branches_opened enter bs s).terms
    branches_opened_hold no_branches s h = tt
    branches_opened_hold (branch ts bs) s h = (steps_opened_hold ts s h.0, branches_opened_hold bs (steps_opened enter ts s).state h.1)

-- a frame round a term, or what stands in its place
pub framed_as : (R : Term → Type 0) → ((number inputs : ℕ) (results : List Slot) (t : Term) → R t → R (frame number inputs results t))
    → (number inputs : ℕ) (results : List Slot) (t : Term) → R t → R (framed number inputs results t)
framed_as R wraps number inputs [] (frame inner inner_inputs [] x) h = h
framed_as R wraps number inputs [] (frame inner inner_inputs (r ∷ rs) x) h = wraps number inputs [] (frame inner inner_inputs (r ∷ rs) x) h
framed_as R wraps number inputs (r ∷ rs) (frame inner inner_inputs inner_results x) h = wraps number inputs (r ∷ rs) (frame inner inner_inputs inner_results x) h
framed_as R wraps number inputs [] t h = wraps number inputs [] t h
framed_as R wraps number inputs (r ∷ rs) t h = wraps number inputs (r ∷ rs) t h

-- where the bodies that open are such

module _ (P : Steps → Type 0) (closed : IsClosed P) (h : Home)
    (bodies : (name : List ℕ) (inputs outputs locals : ℕ) (body : Steps) → IsMethod h.model h.class name inputs outputs locals body → P body) where
  entered_holds : (depth : ℕ) (t : Step) (s : StateView) → P (alone t) → Holds P (entered_to h depth t s).term
  entered_holds zero t s p = p
  entered_holds (suc depth) (call at method args results) s p = by (called_body h method) refl (entered_holds depth)
    where
      by : (o : Option BodyTree) → called_body h method ≡ o → ((t : Step) (s : StateView) → P (alone t) → Holds P (entered_to h depth t s).term)
          → Holds P (by_body o (steps_opened (entered_to h depth)) (call at method args results) s).term
      by None is deeper = p
      by (Some (data_body locals body)) is deeper = p
      by (Some (process_body locals body)) is deeper =
          let number = least_free s.frames in
          let state = with_frame s number locals in
          framed_as (Holds P) (λ number inputs results t k. k) number 0 [] (steps_opened (entered_to h depth) body state).term
          (steps_opened_hold P closed (entered_to h depth) deeper body state (bodies method.name 0 0 locals body (record { is_body = is })))
  entered_holds (suc depth) t s p = p

  enters_hold : (e : Edition) (t : Step) (s : StateView) → P (alone t) → Holds P (enter_in e h t s).term
  enters_hold One t s p = p
  enters_hold Two t s p = entered_holds (depth_of h.model) t s p

  pub opened_all_holds : (ts : Steps) (s : StateView) → P ts → Holds P (opened_all h ts s).term
  opened_all_holds ts s p = steps_opened_hold P closed (enter h) (enters_hold h.edition) ts s p

-- where what `enter` leaves of a plain call brings so many delays

module _ (enter : Step → StateView → Process) (brings : Id → ℕ) (few : (at : Pos) (method : Id) (s : StateView) → pending (enter (call at method none []) s).term ≤ brings method) where
  abbrev all_bring : List Id → ℕ
  all_bring = sum_by brings

  both_bring : (xs ys : List Id) → all_bring (xs ++ ys) ≡ all_bring xs + all_bring ys
  both_bring = sum_by-append brings

  mutual
    step_few : (t : Step) (s : StateView) → pending (step_opened enter t s).term ≤ delays_in t + all_bring (begun t)
    step_few (bracketed at ts) s = steps_few ts s
    step_few (guarded_step at e t) s = step_few t s
    step_few (parallel_step at bs) s = branches_few bs s
    step_few (select_step at bs) s = branches_few bs s
    step_few (abort_step at ts t) s = omega (arith, steps_few ts s, step_few t (steps_opened enter ts s).state, both_bring (begun_all ts) (begun t))
    step_few (interrupt at ts t) s = omega (arith, steps_few ts s, step_few t (steps_opened enter ts s).state, both_bring (begun_all ts) (begun t))
    step_few (call at method none []) s = omega (arith, few at method s, sum_by-cons brings method [])
    step_few (call at method none (x ∷ xs)) s = omega arith
    step_few (call at method (more e es) results) s = omega arith
    step_few (skip at) s = omega arith
    step_few (delay at e) s = omega arith
    step_few (block at es) s = omega arith
    step_few (conditional at e ts other) s = omega arith
    step_few (repeated at e ts) s = omega arith
    step_few (send at port name args after) s = omega arith
    step_few (receive at port name into condition after) s = omega arith
    step_few (assignment at x e) s = omega arith
    step_few (value at e) s = omega arith

    pub steps_few : (ts : Steps) (s : StateView) → pending (steps_opened enter ts s).term ≤ delays_in_all ts + all_bring (begun_all ts)
    steps_few no_statements s = omega arith
    steps_few ((then) t no_statements) s = omega (arith, step_few t s)
    steps_few ((then) t ((then) r rest)) s = omega (arith, step_few t s)

    branches_few : (bs : Branches Slot ClassId ℕ) (s : StateView) → all_pending (branches_opened enter bs s).terms ≤ delays_in_each bs + all_bring (begun_each bs)
    branches_few no_branches s = omega arith
    branches_few (branch ts bs) s = omega (arith, steps_few ts s, branches_few bs (steps_opened enter ts s).state, both_bring (begun_all ts) (begun_each bs))

-- where plain calls stand as they are

none_brought : (xs : List Id) → sum_by (λ x. 0) xs ≡ 0
none_brought [] = refl
none_brought (x ∷ xs) = omega (arith, sum_by-cons (λ x. 0) x xs, none_brought xs)

pub stand_few : (h : Home) (ts : Steps) (s : StateView) → pending (steps_opened (enter_in One h) ts s).term ≤ delays_in_all ts
stand_few h ts s = omega (arith, steps_few (enter_in One h) (λ x. 0) (λ at method r. omega arith) ts s, none_brought (begun_all ts))

-- where they open as bodies of the class

module _ (h : Home) (brings : ℕ → Id → ℕ)
    (deeper : (depth : ℕ) (method : Id) (locals : ℕ) (body : Steps) → called_body h method ≡ Some (process_body locals body)
    → delays_in_all body + sum_by (brings depth) (begun_all body) ≤ brings (suc depth) method) where
  entered_few : (depth : ℕ) (at : Pos) (method : Id) (s : StateView) → pending (entered_to h depth (call at method none []) s).term ≤ brings depth method
  entered_few zero at method s = omega arith
  entered_few (suc depth) at method s = by (called_body h method) refl (entered_few depth)
    where
      by : (o : Option BodyTree) → called_body h method ≡ o → ((at : Pos) (x : Id) (s : StateView) → pending (entered_to h depth (call at x none []) s).term ≤ brings depth x)
          → pending (by_body o (steps_opened (entered_to h depth)) (call at method none []) s).term ≤ brings (suc depth) method
      by None is below = omega arith
      by (Some (data_body locals body)) is below = omega arith
      by (Some (process_body locals body)) is below =
          let number = least_free s.frames in
          let state = with_frame s number locals in
          framed_as (λ t. pending t ≤ brings (suc depth) method) (λ number inputs results t k. k) number 0 [] (steps_opened (entered_to h depth) body state).term
          (omega (arith, steps_few (entered_to h depth) (brings depth) below body state, deeper depth method locals body is))

  pub enter_few : (ts : Steps) (s : StateView) → pending (steps_opened (enter_in Two h) ts s).term ≤ delays_in_all ts + sum_by (brings (depth_of h.model)) (begun_all ts)
  enter_few ts s = steps_few (enter_in Two h) (brings (depth_of h.model)) (entered_few (depth_of h.model)) ts s
