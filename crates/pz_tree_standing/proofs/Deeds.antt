-- What a deed opens, and what opens around the part that did it.
use Rattle.std.proofs.Common.{◌≡◌, ◌≤◌, ◌+◌, ℕ, zero, suc, Bool, true, false, eqb, List, [], ◌∷◌, ◌++◌, length, Result, Ok, Err, refl, ap, ◌∙◌, subst, arith}
use Rattle.std.specs.Prelude.{if◌then◌else◌}
use Rattle.pz_rules.specs.pz_syntax.declared.tokens.Pos.{Pos}
use Rattle.pz_rules.specs.pz_syntax.Expressions.{Part, left_out, written}
use Rattle.pz_rules.specs.pz_syntax.Statements.{StatementPart, not_written, otherwise, repeated}
use Rattle.pz_rules.specs.pz_value.declared.value.ClassId.{ClassId}
use Rattle.pz_rules.specs.pz_value.declared.value.Value.{Value}
use Rattle.pz_rules.specs.pz_classes_code.declared.slot.Slot.{Slot}
use Rattle.pz_rules.specs.pz_classes_code.declared.slot.Slot.TheVariants.{Local, Shared, Unknown}
use Rattle.pz_rules.specs.pz_copy.Parcels.{ParcelView}
use Rattle.pz_eval_binding.specs.Binding.{set_slot, set_slots, first_slots}
use Rattle.pz_rules.specs.pz_offer.PlaceOrder.{Place}
use Rattle.pz_rules.specs.pz_offer.declared.trouble.Trouble.{Trouble}
use Rattle.pz_rules.specs.pz_state.States.{StateView, nils}
use Rattle.pz_rules.specs.pz_state.States as states
use Rattle.pz_rules.specs.declared.limits.Edition.{Edition}
use Rattle.pz_rules.specs.declared.limits.Edition.TheVariants.{One, Two}
use Rattle.pz_rules.specs.Terms.{Step, Steps, Term, Terms, done, leaf, wait, sequence, parallel, select, guarded, frame, abort, idle, handling, frames_in, child, frame_in}
use Rattle.pz_rules.specs.Settings.{Context, Process, Home, home_of, in_state}
use Rattle.pz_rules.specs.FrameNumbers.{least_free}
use Rattle.pz_rules.specs.Framing.{framed}
use Rattle.pz_rules.specs.Opening.{opened_all}
use Rattle.pz_rules.specs.Meanings.{and_then, truth}
use Rattle.pz_rules.specs.Evaluations.{Gives, GivesAll, GivesPart}
use Rattle.pz_rules.specs.InternalActions as actions
use Rattle.pz_rules.specs.InternalActions.{Performs, done_in, chosen, turned, with_inputs, entered}
use Rattle.pz_rules.specs.Messages as messages
use Rattle.pz_rules.specs.Messages.{Hands, Takes, bound, variables_of}
use Rattle.pz_rules.specs.Leaving.{residual, around, handled, returned}
use Rattle.pz_tree_standing.specs.FrameCounts.{count_in, times, gained, gained_all}
use Rattle.pz_tree_standing.specs.Frames.{numbers, open_as, HaveOpened, PartsOpen}
use Rattle.pz_tree_standing.proofs.Evaluating.{locals_same, finds_same, finds_all_same}
use Rattle.pz_tree_standing.proofs.Opening.{count_append, frame_counted, framed_times, framed_alone, step_opens, all_open, all_still}

-- ------------------------------------------------------------ what is bound

slot_same : (f : ℕ) (x : Slot) (v : Value) (s : StateView) → numbers (set_slot f x v s) ≡ numbers s
slot_same f (Local i) v s = locals_same s.frames f _
slot_same f (Shared i) v s = refl
slot_same f Unknown v s = refl

slots_same : (f : ℕ) (xs : List Slot) (vs : List Value) (s : StateView) → numbers (set_slots f xs vs s) ≡ numbers s
slots_same f [] vs s = refl
slots_same f (x ∷ xs) [] s = refl
slots_same f (x ∷ xs) (v ∷ vs) s = slots_same f xs vs (set_slot f x v s) ∙ slot_same f x v s

-- ------------------------------------------------------------ counts

none_opens : (e : Edition) (before after : ℕ) → after ≡ before → HaveOpened e 0 before after
none_opens One before after is = omega (arith, is)
none_opens Two before after is = omega (arith, is)

from_same : (e : Edition) (stand before was after : ℕ) → was ≡ before → HaveOpened e stand was after → HaveOpened e stand before after
from_same e stand before was after is = subst (λ z. HaveOpened e stand z after) is

one_more : (e : Edition) (one less more before middle after : ℕ) → middle ≡ one + before → HaveOpened e less middle after → (e ≡ One → more ≡ one + less) → more ≤ one + less → HaveOpened e more before after
one_more One one less more before middle after is h exact few = omega (arith, is, h, exact refl)
one_more Two one less more before middle after is h exact few = omega (arith, is, h, few)

both_open : (e : Edition) (first second both before middle after : ℕ) → both ≡ first + second → HaveOpened e first before middle → HaveOpened e second middle after → HaveOpened e both before after
both_open One first second both before middle after is h k = omega (arith, is, h, k)
both_open Two first second both before middle after is h k = omega (arith, is, h, k)

-- ------------------------------------------------------------ deeds

module _ (a : Context) where
  abbrev Opens : Result Process Trouble → Type 0
  Opens (Ok x) = PartsOpen a x
  Opens (Err t) = Unit {0}

  done_opens : {A : Type 0} (r : Result A Trouble) (s : StateView) → numbers s ≡ numbers a.state → Opens (and_then r (λ _. Ok (done_in s)))
  done_opens (Ok x) s same = λ n. none_opens a.setting.limits.edition (open_as n a.state) (open_as n s) (ap (count_in n) same)
  done_opens (Err t) s same = tt

  tested_opens : (at : Pos) (r : Result Value Trouble) (h : Bool → Process) → ((b : Bool) → PartsOpen a (h b)) → Opens (and_then r (λ v. and_then (truth a.process at v) (λ b. Ok (h b))))
  tested_opens at (Err t) h each = tt
  tested_opens at (Ok v) h each = by (truth a.process at v)
    where
      by : (r : Result Bool Trouble) → Opens (and_then r (λ b. Ok (h b)))
      by (Ok b) = each b
      by (Err t) = tt

  gives_same : (f : ℕ) (at : Pos) (e : Rattle.pz_rules.specs.Terms.Code) (r : Result Value Trouble) (s : StateView) → Gives a f at e r s → numbers s ≡ numbers a.state
  gives_same f at e r s g = finds_same g.finds

  gives_all_same : (f : ℕ) (at : Pos) (es : Rattle.pz_rules.specs.Terms.Codes) (r : Result (List Value) Trouble) (s : StateView) → GivesAll a f at es r s → numbers s ≡ numbers a.state
  gives_all_same f at es r s g = finds_all_same g.finds

  -- statements that open in a state with the same frames
  opens_in : (s : StateView) → numbers s ≡ numbers a.state → (ts : Steps) → PartsOpen a (opened_all (home_of a) ts s)
  opens_in s same ts n = from_same a.setting.limits.edition (times n (opened_all (home_of a) ts s).term) (open_as n a.state) (open_as n s) (open_as n (opened_all (home_of a) ts s).state) (ap (count_in n) same) (all_open (home_of a) n ts s)

  done_in_opens : (s : StateView) → numbers s ≡ numbers a.state → PartsOpen a (done_in s)
  done_in_opens s same n = none_opens a.setting.limits.edition (open_as n a.state) (open_as n s) (ap (count_in n) same)

  chosen_opens : (s : StateView) → numbers s ≡ numbers a.state → (ts : Steps) (other : StatementPart Slot ClassId ℕ) (b : Bool) → PartsOpen a (chosen (home_of a) s ts other b)
  chosen_opens s same ts other true = opens_in s same ts
  chosen_opens s same ts not_written false = done_in_opens s same
  chosen_opens s same ts (otherwise us) false = opens_in s same us

  turned_opens : (s : StateView) → numbers s ≡ numbers a.state → (loop : Step) (ts : Steps) (b : Bool) → PartsOpen a (turned (home_of a) s loop ts b)
  turned_opens s same loop ts true = opens_in s same ts
  turned_opens s same loop ts false = done_in_opens s same

  entered_opens : (s : StateView) → numbers s ≡ numbers a.state → (locals : ℕ) (results : List Slot) (body : Steps) (vs : List Value) → PartsOpen a (entered (home_of a) s locals results body vs)
  entered_opens s same locals results body vs n =
      let number = least_free s.frames in
      let inner = with_inputs s number locals vs in
      let x = opened_all (home_of a) body inner in
      let e = a.setting.limits.edition in
      let opened_is : open_as n inner ≡ (if eqb n number then 1 else 0) + open_as n a.state =
      ap (count_in n) (slots_same number (first_slots 0 vs) vs (states.opened s number locals)) ∙ frame_counted n number (nils locals) s.frames
      ∙ ap (λ z. (if eqb n number then 1 else 0) + count_in n z) same in
      one_more e (if eqb n number then 1 else 0) (times n x.term) (times n (framed number (length vs) results x.term)) (open_as n a.state) (open_as n inner) (open_as n x.state)
      opened_is (all_open (home_of a) n body inner)
      (λ is. framed_alone n number (length vs) results x.term (all_still (home_of a) n is body inner).0)
      (framed_times n number (length vs) results x.term)

  called_opens : (s : StateView) → numbers s ≡ numbers a.state → (locals : ℕ) (results : List Slot) (body : Steps) (r : Result (List Value) Trouble) → Opens (and_then r (λ vs. Ok (entered (home_of a) s locals results body vs)))
  called_opens s same locals results body (Ok vs) = entered_opens s same locals results body vs
  called_opens s same locals results body (Err t) = tt

  performs_open : (f : ℕ) (t : Term) (pos : Pos) (q : Result Process Trouble) → Performs a f t pos q → Opens q
  performs_open f _ _ _ (actions.skips at) = done_in_opens a.state refl
  performs_open f _ _ _ (actions.evaluates at e r s gives) = done_opens r s (gives_same f at e r s gives)
  performs_open f _ _ _ (actions.evaluates_block at es r s gives) = done_opens r s (gives_all_same f at es r s gives)
  performs_open f _ _ _ (actions.tests at e ts other r s gives) = tested_opens at r (chosen (home_of a) s ts other) (chosen_opens s (gives_same f at e r s gives) ts other)
  performs_open f _ _ _ (actions.repeats at e ts r s gives) = tested_opens at r (turned (home_of a) s (repeated at e ts) ts) (turned_opens s (gives_same f at e r s gives) (repeated at e ts) ts)
  performs_open f _ _ _ (actions.elapses at e) = done_in_opens a.state refl
  performs_open f _ _ _ (actions.expires n at) = done_in_opens a.state refl
  performs_open f _ _ _ (actions.calls at method args results r s locals body gives is_method) = called_opens s (gives_all_same f at args r s gives) locals results body r

  pub performed : (f : ℕ) (t : Term) (pos : Pos) (x : Process) → Performs a f t pos (Ok x) → PartsOpen a x
  performed f t pos x acts = performs_open f t pos (Ok x) acts

part_same : (a : Context) (f : ℕ) (at : Pos) (es : Part Slot ClassId) (r : Result (List Value) Trouble) (s : StateView) → GivesPart a f at es r s → numbers s ≡ numbers a.state
part_same a f at left_out r s g = ap numbers g.1
part_same a f at (written es) r s g = gives_all_same a f at es r s g

hands_open : (a : Context) (f : ℕ) (parcel : ParcelView) (t : Term) (pos : Pos) (q : Result Process Trouble) → Hands a f parcel t pos q → Opens a q
hands_open a f parcel _ _ _ (messages.hands at port name args block values s r left gives packed gives_block) =
    done_opens a r left (part_same (in_state a s) f at block r left gives_block ∙ part_same a f at args (Ok values) s gives)

pub handed : (a : Context) (f : ℕ) (parcel : ParcelView) (t : Term) (pos : Pos) (x : Process) → Hands a f parcel t pos (Ok x) → PartsOpen a x
handed a f parcel t pos x acts = hands_open a f parcel t pos (Ok x) acts

takes_open : (a : Context) (f : ℕ) (parcel : ParcelView) (t : Term) (pos : Pos) (q : Result Process Trouble) → Takes a f parcel t pos q → Opens a q
takes_open a f parcel _ _ _ (messages.takes at port name into condition block r left fits gives) =
    done_opens a r left (part_same (in_state a (bound a f into parcel)) f at block r left gives ∙ slots_same f (variables_of into) _ _)
takes_open a f parcel _ _ _ (messages.full at port name into condition block unfit) = tt

pub taken : (a : Context) (f : ℕ) (parcel : ParcelView) (t : Term) (pos : Pos) (x : Process) → Takes a f parcel t pos (Ok x) → PartsOpen a x
taken a f parcel t pos x acts = takes_open a f parcel t pos (Ok x) acts

-- ------------------------------------------------------------ around the part

module _ (h : Home) (n : ℕ) where
  same_state : (s : StateView) → HaveOpened h.edition 0 (open_as n s) (open_as n s)
  same_state s = none_opens h.edition (open_as n s) (open_as n s) refl

  sequence_opens : (f : ℕ) (s : StateView) (t : Term) (rest : Steps) (i : ℕ) (y : Term) → HaveOpened h.edition (count_in n (gained h s (sequence t rest) i y)) (open_as n s) (open_as n (around h f s (sequence t rest) i y).state)
  sequence_opens f s t rest i done = all_open h n rest s
  sequence_opens f s t rest i y = same_state s

  frame_opens : (f : ℕ) (s : StateView) (number inputs : ℕ) (results : List Slot) (t : Term) (i : ℕ) (y : Term) → HaveOpened h.edition 0 (open_as n s) (open_as n (around h f s (frame number inputs results t) i y).state)
  frame_opens f s number inputs results t i done = none_opens h.edition (open_as n s) (open_as n (returned f number inputs results s)) (ap (count_in n) (slots_same f results _ s))
  frame_opens f s number inputs results t i y = same_state s

  handled_opens : (s : StateView) (t u : Term) (again : Step) (i : ℕ) (y : Term) → HaveOpened h.edition (count_in n (gained h s (handling t u again) i y)) (open_as n s) (open_as n (handled h s t again y).state)
  handled_opens s t u again i done = step_opens h n again s
  handled_opens s t u again i y = same_state s

  level_opens : (f : ℕ) (s : StateView) (t : Term) (i : ℕ) (y : Term) → HaveOpened h.edition (count_in n (gained h s t i y)) (open_as n s) (open_as n (around h f s t i y).state)
  level_opens f s (sequence t rest) i y = sequence_opens f s t rest i y
  level_opens f s (frame number inputs results t) i y = frame_opens f s number inputs results t i y
  level_opens f s (idle t u again) (suc i) y = handled_opens s t u again i y
  level_opens f s (handling t u again) i y = handled_opens s t u again i y
  level_opens f s done i y = same_state s
  level_opens f s (leaf r) i y = same_state s
  level_opens f s (wait left at) i y = same_state s
  level_opens f s (parallel ts) i y = same_state s
  level_opens f s (select ts) i y = same_state s
  level_opens f s (guarded test at t) i y = same_state s
  level_opens f s (abort t u) zero y = same_state s
  level_opens f s (abort t u) (suc i) y = same_state s
  level_opens f s (idle t u again) zero y = same_state s

  pub around_opens : (f : ℕ) (t : Term) (place : Place) (x : Process) → HaveOpened h.edition (count_in n (gained_all h f t place x)) (open_as n x.state) (open_as n (residual h f t place x).state)
  around_opens f t [] x = same_state x.state
  around_opens f t (i ∷ place) x =
      let inner = residual h (frame_in t f) (child t i) place x in
      let first = gained_all h (frame_in t f) (child t i) place x in
      let second = gained h inner.state t i inner.term in
      both_open h.edition (count_in n first) (count_in n second) (count_in n (first ++ second)) (open_as n x.state) (open_as n inner.state) (open_as n (around h f inner.state t i inner.term).state)
      (count_append n first second) (around_opens (frame_in t f) (child t i) place x) (level_opens f inner.state t i inner.term)
