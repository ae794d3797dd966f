-- What an action brings: of each process that acts at most what opens once. Where a term is done what is
-- around it goes on, and so nothing is left of what had opened before.
use Rattle.std.proofs.Common.{◌≤◌, ◌+◌, ℕ, zero, suc, Bool, true, false, List, length, Result, Ok, Err, arith}
use Rattle.std.specs.Prelude.{if◌then◌else◌, nat_le}
use Rattle.pz_bind_rules.specs.pz_syntax.declared.tokens.Pos.{Pos}
use Rattle.pz_bind_rules.specs.pz_syntax.ModelForm.{Each}
use Rattle.pz_bind_rules.specs.pz_syntax.Statements.{conditional, repeated, StatementPart, not_written, otherwise}
use Rattle.pz_bind_rules.specs.pz_value.declared.value.ClassId.{ClassId}
use Rattle.pz_bind_rules.specs.pz_value.declared.value.Value.{Value}
use Rattle.pz_bind_rules.specs.pz_classes_code.declared.slot.Slot.{Slot}
use Rattle.pz_bind_rules.specs.pz_classes_rules.FitBodies.{how_many}
use Rattle.pz_offer.specs.pz_copy.Parcels.{ParcelView}
use Rattle.pz_offer.specs.pz_state.States.{StateView}
use Rattle.pz_offer.specs.PlaceOrder.{Place}
use Rattle.pz_offer.specs.declared.trouble.Trouble.{Trouble}
use Rattle.pz_offer.specs.declared.trouble.Trouble.TheVariants.{High}
use Rattle.pz_rules.specs.Terms.{Step, Steps, Term, done, leaf, wait, sequence, parallel, select, guarded, frame, abort, idle, handling, Terms, no_terms, and, term_at, child, height, frame_in}
use Rattle.pz_rules.specs.Settings.{Process, Context, home_of}
use Rattle.pz_rules.specs.FrameNumbers.{least_free}
use Rattle.pz_rules.specs.Meanings.{and_then, truth}
use Rattle.pz_rules.specs.Openable.{alone, part_of}
use Rattle.pz_rules.specs.Opening.{opened_all, opened_part}
use Rattle.pz_rules.specs.Active as active
use Rattle.pz_rules.specs.Active.{Active, Reached}
use Rattle.pz_rules.specs.InternalActions as actions
use Rattle.pz_rules.specs.InternalActions.{Performs, done_in, chosen, turned, with_inputs, entered}
use Rattle.pz_rules.specs.Messages as messages
use Rattle.pz_rules.specs.Messages.{Hands, Takes}
use Rattle.pz_rules.specs.Leaving.{replaced, joined, all_done, handled, aborted, interrupted, around, residual, swept, not_too_high, settled}
use Rattle.pz_rules.specs.devices.Pending.{pending, all_pending}
use Rattle.pz_rules.specs.devices.Opened.{Holds, HoldAll, Brings, Bounds}
use Rattle.pz_rules.proofs.Opens.{framed_as}

module _ (P : Steps → Type 0) (most : ℕ) where
  -- what a part becomes
  abbrev pub LeavesFew : Result Process Trouble → Type 0
  LeavesFew (Ok p) = Brings P most p.term
  LeavesFew (Err t) = Unit {0}

  -- what a term has become
  abbrev pub Grows : Term → Term → Type 0
  Grows t y = Holds P y × (pending y ≤ pending t + most)

  abbrev pub LeavesGrown : Term → Result Process Trouble → Type 0
  LeavesGrown t (Ok p) = Grows t p.term
  LeavesGrown t (Err u) = Unit {0}

module _ (a : Context) (P : Steps → Type 0) (most : ℕ) (bounds : Bounds a.setting a.class P most) where
  -- What the acting part becomes

  none_pending : Brings P most done
  none_pending = (tt, omega arith)

  done_few : {A : Type 0} (r : Result A Trouble) (s : StateView) → LeavesFew P most (and_then r (λ _. Ok (done_in s)))
  done_few (Ok x) s = none_pending
  done_few (Err t) s = tt

  tested_few : (at : Pos) (r : Result Value Trouble) (h : Bool → Process) → ((b : Bool) → Brings P most (h b).term) → LeavesFew P most (and_then r (λ v. and_then (truth a.process at v) (λ b. Ok (h b))))
  tested_few at (Err t) h each = tt
  tested_few at (Ok v) h each = by (truth a.process at v)
    where
      by : (r : Result Bool Trouble) → LeavesFew P most (and_then r (λ b. Ok (h b)))
      by (Ok b) = each b
      by (Err t) = tt

  part_few : (other : StatementPart Slot ClassId ℕ) (s : StateView) → Each P (part_of other) → Brings P most (opened_part (home_of a) other s).term
  part_few not_written s h = none_pending
  part_few (otherwise ts) s h = bounds.opens ts s h.0

  chosen_few : (s : StateView) (ts : Steps) (other : StatementPart Slot ClassId ℕ) (b : Bool) → P ts → Each P (part_of other) → Brings P most (chosen (home_of a) s ts other b).term
  chosen_few s ts other true h k = bounds.opens ts s h
  chosen_few s ts other false h k = part_few other s k

  turned_few : (s : StateView) (loop : Step) (ts : Steps) (b : Bool) → P ts → P (alone loop) → Brings P most (turned (home_of a) s loop ts b).term
  turned_few s loop ts true h k = let x = bounds.opens ts s h in ((x.0, k), x.1)
  turned_few s loop ts false h k = none_pending

  entered_few : (s : StateView) (locals : ℕ) (results : List Slot) (body : Steps) (r : Result (List Value) Trouble) → P body → LeavesFew P most (and_then r (λ vs. Ok (entered (home_of a) s locals results body vs)))
  entered_few s locals results body (Ok vs) h =
      let number = least_free s.frames in
      let state = with_inputs s number locals vs in
      framed_as (Brings P most) (λ number inputs results y k. k) number (length vs) results (opened_all (home_of a) body state).term (bounds.opens body state h)
  entered_few s locals results body (Err t) h = tt

  pub performs_few : (f : ℕ) (t : Term) (pos : Pos) (q : Result Process Trouble) → Performs a f t pos q → Holds P t → LeavesFew P most q
  performs_few f _ _ _ (actions.skips at) h = none_pending
  performs_few f _ _ _ (actions.evaluates at e r s gives) h = done_few r s
  performs_few f _ _ _ (actions.evaluates_block at es r s gives) h = done_few r s
  performs_few f _ _ _ (actions.tests at e ts other r s gives) h =
      let parts = bounds.closed.within (conditional at e ts other) h in
      tested_few at r (chosen (home_of a) s ts other) (λ b. chosen_few s ts other b parts.0 parts.1)
  performs_few f _ _ _ (actions.repeats at e ts r s gives) h =
      let parts = bounds.closed.within (repeated at e ts) h in
      tested_few at r (turned (home_of a) s (repeated at e ts) ts) (λ b. turned_few s (repeated at e ts) ts b parts.0 h)
  performs_few f _ _ _ (actions.elapses at e) h = none_pending
  performs_few f _ _ _ (actions.expires n at) h = none_pending
  performs_few f _ _ _ (actions.calls at method args results r s locals body gives is_method) h =
      entered_few s locals results body r (bounds.bodies method.name (how_many args) _ locals body is_method)

  pub hands_few : (f : ℕ) (parcel : ParcelView) (t : Term) (pos : Pos) (q : Result Process Trouble) → Hands a f parcel t pos q → LeavesFew P most q
  hands_few f parcel _ _ _ (messages.hands at port name args after values s r end gives packed gives_block) = done_few r end

  pub takes_few : (f : ℕ) (parcel : ParcelView) (t : Term) (pos : Pos) (q : Result Process Trouble) → Takes a f parcel t pos q → LeavesFew P most q
  takes_few f parcel _ _ _ (messages.takes at port name into condition after r end fits gives) = done_few r end
  takes_few f parcel _ _ _ (messages.full at port name into condition after unfit) = tt

  -- What is around it

  at_child : (ts : Terms) (i : ℕ) → pending (term_at ts i) ≤ all_pending ts
  at_child no_terms i = omega arith
  at_child (and t ts) zero = omega arith
  at_child (and t ts) (suc i) = omega (arith, at_child ts i)

  child_holds_at : (ts : Terms) (i : ℕ) → HoldAll P ts → Holds P (term_at ts i)
  child_holds_at no_terms i h = tt
  child_holds_at (and t ts) zero h = h.0
  child_holds_at (and t ts) (suc i) h = child_holds_at ts i h.1

  replaced_hold : (ts : Terms) (i : ℕ) (x : Term) → HoldAll P ts → Holds P x → HoldAll P (replaced ts i x)
  replaced_hold no_terms i x h k = tt
  replaced_hold (and t ts) zero x h k = (k, h.1)
  replaced_hold (and t ts) (suc i) x h k = (h.0, replaced_hold ts i x h.1 k)

  replaced_few : (ts : Terms) (i : ℕ) (x : Term) → pending x ≤ pending (term_at ts i) + most → all_pending (replaced ts i x) ≤ all_pending ts + most
  replaced_few no_terms i x k = omega arith
  replaced_few (and t ts) zero x k = omega (arith, k)
  replaced_few (and t ts) (suc i) x k = omega (arith, replaced_few ts i x k)

  -- done, or parts that have grown
  joined_grows : (t : Term) (ts : Terms) → HoldAll P ts → all_pending ts ≤ pending t + most → Grows P most t (joined ts)
  joined_grows t ts h k = by (all_done ts)
    where
      by : (b : Bool) → Grows P most t (if b then done else parallel ts)
      by true = (tt, omega arith)
      by false = (h, k)

  -- each rule for a term that is done, and for another
  sequence_grows : (f : ℕ) (s : StateView) (t : Term) (rest : Steps) (i : ℕ) (y : Term) → P rest → Grows P most t y → Grows P most t (around (home_of a) f s (sequence t rest) i y).term
  sequence_grows f s t rest i done h g = let x = bounds.opens rest s h in let few = x.1 in (x.0, omega (arith, few))
  sequence_grows f s t rest i y h g = ((g.0, h), g.1)

  frame_grows : (f : ℕ) (s : StateView) (number inputs : ℕ) (results : List Slot) (t : Term) (i : ℕ) (y : Term) → Grows P most t y → Grows P most t (around (home_of a) f s (frame number inputs results t) i y).term
  frame_grows f s number inputs results t i done g = (tt, omega arith)
  frame_grows f s number inputs results t i y g = framed_as (Grows P most t) (λ number inputs results y k. k) number inputs results y g

  aborted_grows : (t u y : Term) → Holds P u → Grows P most t y → Grows P most (abort t u) (aborted u y)
  aborted_grows t u done h g = (tt, omega arith)
  aborted_grows t u y h g = let few = g.1 in ((g.0, h), omega (arith, few))

  interrupted_grows : (t u : Term) (again : Step) (y : Term) → Holds P u → P (alone again) → Grows P most t y → Grows P most (idle t u again) (interrupted u again y)
  interrupted_grows t u again done h k g = (tt, omega arith)
  interrupted_grows t u again y h k g = let few = g.1 in ((g.0, h, k), omega (arith, few))

  handled_grows : (s : StateView) (t u : Term) (again : Step) (y : Term) → Holds P t → P (alone again) → Grows P most u y → Grows P most (idle t u again) (handled (home_of a) s t again y).term
  handled_grows s t u again done h k g = let x = bounds.opens (alone again) s k in let few = x.1 in ((h, x.0, k), omega (arith, few))
  handled_grows s t u again y h k g = let few = g.1 in ((h, g.0, k), omega (arith, few))

  child_holds : (t : Term) (i : ℕ) → Holds P t → Holds P (child t i)
  child_holds done i h = tt
  child_holds (leaf r) i h = tt
  child_holds (wait left at) i h = tt
  child_holds (sequence t rest) zero h = h.0
  child_holds (sequence t rest) (suc zero) h = tt
  child_holds (sequence t rest) (suc (suc i)) h = tt
  child_holds (parallel ts) i h = child_holds_at ts i h
  child_holds (select ts) i h = child_holds_at ts i h
  child_holds (guarded test at t) zero h = h
  child_holds (guarded test at t) (suc zero) h = tt
  child_holds (guarded test at t) (suc (suc i)) h = tt
  child_holds (frame number inputs results t) zero h = h
  child_holds (frame number inputs results t) (suc zero) h = tt
  child_holds (frame number inputs results t) (suc (suc i)) h = tt
  child_holds (abort t u) zero h = h.0
  child_holds (abort t u) (suc zero) h = h.1
  child_holds (abort t u) (suc (suc i)) h = tt
  child_holds (idle t u again) zero h = h.0
  child_holds (idle t u again) (suc zero) h = h.1
  child_holds (idle t u again) (suc (suc i)) h = tt
  child_holds (handling t u again) zero h = h.0
  child_holds (handling t u again) (suc zero) h = h.1
  child_holds (handling t u again) (suc (suc i)) h = tt

  around_grows : (b : Context) (g f : ℕ) (s : StateView) (t : Term) (i : ℕ) (y : Term) → Reached b g t i → Holds P t → Grows P most (child t i) y → Grows P most t (around (home_of a) f s t i y).term
  around_grows b g f s done i y r h k = absurd r
  around_grows b g f s (leaf q) i y r h k = absurd r
  around_grows b g f s (wait left at) i y r h k = absurd r
  around_grows b g f s (sequence t rest) zero y r h k = sequence_grows f s t rest 0 y h.1 k
  around_grows b g f s (sequence t rest) (suc i) y r h k = absurd (omega (arith, r))
  around_grows b g f s (parallel ts) i y r h k = joined_grows (parallel ts) (replaced ts i y) (replaced_hold ts i y h k.0) (replaced_few ts i y k.1)
  around_grows b g f s (select ts) i y r h k = let few = k.1 in (k.0, omega (arith, few, at_child ts i))
  around_grows b g f s (guarded test at t) zero y r h k = k
  around_grows b g f s (guarded test at t) (suc i) y r h k = let is = r.0 in absurd (omega (arith, is))
  around_grows b g f s (frame number inputs results t) zero y r h k = frame_grows f s number inputs results t 0 y k
  around_grows b g f s (frame number inputs results t) (suc i) y r h k = absurd (omega (arith, r))
  around_grows b g f s (abort t u) zero y r h k = aborted_grows t u y h.1 k
  around_grows b g f s (abort t u) (suc zero) y r h k = let few = k.1 in (k.0, omega (arith, few))
  around_grows b g f s (abort t u) (suc (suc i)) y r h k = absurd (omega (arith, r))
  around_grows b g f s (idle t u again) zero y r h k = interrupted_grows t u again y h.1 h.2 k
  around_grows b g f s (idle t u again) (suc zero) y r h k = handled_grows s t u again y h.0 h.2 k
  around_grows b g f s (idle t u again) (suc (suc i)) y r h k = absurd (omega (arith, r))
  around_grows b g f s (handling t u again) zero y r h k = absurd (omega (arith, r))
  around_grows b g f s (handling t u again) (suc zero) y r h k = handled_grows s t u again y h.0 h.2 k
  around_grows b g f s (handling t u again) (suc (suc i)) y r h k = absurd (omega (arith, r))

  -- an active part, and what it leaves of the whole
  pub record Growing (t : Term) (place : Place) (x : Term) : Type 0 where
    pub holds : Holds P x
    pub leaves : (f : ℕ) (y : Process) → Brings P most y.term → Grows P most t (residual (home_of a) f t place y).term

  pub growing : {b : Context} {f : ℕ} {t : Term} {place : Place} {g : ℕ} {x : Term} → Active b f t place g x → Holds P t → Growing t place x
  growing (active.here f t) h = record { holds = h; leaves = λ f' y k. let few = k.1 in (k.0, omega (arith, few)) }
  growing {b} (active.inside f t i place g x r k) h =
      let inner = growing k (child_holds t i h) in
      record {
        holds = inner.holds;
        leaves = λ f' y q.
            let left = residual (home_of a) (frame_in t f') (child t i) place y in
            around_grows b f f' left.state t i left.term r h (inner.leaves (frame_in t f') y q);
      }

  high_grows : (t : Term) (pos : Pos) (p : Process) → Grows P most t p.term → LeavesGrown P most t (not_too_high a pos (swept p))
  high_grows t pos p h = by (nat_le (height p.term) a.setting.limits.height)
    where
      by : (b : Bool) → LeavesGrown P most t (if b then Ok (swept p) else Err (High a.process pos))
      by true = h
      by false = tt

  pub settled_grows : (t : Term) (pos : Pos) (place : Place) (left : Result Process Trouble) → LeavesFew P most left
      → ((y : Process) → Brings P most y.term → Grows P most t (residual (home_of a) 0 t place y).term) → LeavesGrown P most t (and_then left (settled a pos t place))
  settled_grows t pos place (Ok y) h leaves = high_grows t pos (residual (home_of a) 0 t place y) (leaves y h)
  settled_grows t pos place (Err e) h leaves = tt
