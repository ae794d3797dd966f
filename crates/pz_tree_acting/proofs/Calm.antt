-- What a part becomes has short delays: none that has begun.
use Rattle.std.proofs.Common.{ℕ, Bool, true, false, List, length, Result, Ok, Err}
use Rattle.pz_classes_code.specs.pz_syntax.Statements as statement
use Rattle.pz_classes_code.specs.pz_value.declared.value.ClassId.{ClassId}
use Rattle.pz_classes_code.specs.declared.slot.Slot.{Slot}
use Rattle.pz_rules.specs.pz_state.States.{StateView}
use Rattle.pz_rules.specs.Terms.{Step, Steps, Term}
use Rattle.pz_rules.specs.Settings.{Process, Context, home_of}
use Rattle.pz_rules.specs.FrameNumbers.{least_free}
use Rattle.pz_rules.specs.Opening.{opened_all}
use Rattle.std.specs.Prelude.{IfOk}
use Rattle.pz_classes_code.specs.pz_syntax.declared.tokens.Pos.{Pos}
use Rattle.pz_classes_code.specs.pz_value.declared.value.Value.{Value}
use Rattle.pz_rules.specs.pz_copy.Parcels.{ParcelView}
use Rattle.pz_rules.specs.pz_offer.declared.trouble.Trouble.{Trouble}
use Rattle.pz_rules.specs.declared.term.Term as code
use Rattle.pz_rules.specs.Meanings.{and_then, truth}
use Rattle.pz_rules.specs.InternalActions as actions
use Rattle.pz_rules.specs.InternalActions.{Performs, done_in, chosen, turned, with_inputs, entered}
use Rattle.pz_rules.specs.Messages as messages
use Rattle.pz_rules.specs.Messages.{Hands, Takes}
use Rattle.pz_rules.specs.View.{term_view}
use Rattle.pz_part_actions.specs.Becoming.{Becomes, process_left}
use Rattle.pz_part_actions.specs.Becoming as becoming
use Rattle.pz_tree_acting.specs.declared.how.How.{How}
use Rattle.pz_tree_acting.specs.declared.how.How.TheVariants.{Internal, Send, Receive}
use Rattle.pz_tree_acting.specs.Deeds.{deed}
use Rattle.pz_rules.specs.Short.{IsShort}
use Rattle.pz_rules.proofs.Opened.{framed_short, opened_all_short}

abbrev pub LeavesShort : Result Process Trouble → Type 0
LeavesShort (Ok p) = IsShort p.term
LeavesShort (Err t) = Unit {0}

module _ (a : Context) where
  done_short : {A : Type 0} (r : Result A Trouble) (s : StateView) → LeavesShort (and_then r (λ _. Ok (done_in s)))
  done_short (Ok x) s = tt
  done_short (Err t) s = tt

  tested_short : (at : Pos) (r : Result Value Trouble) (h : Bool → Process) → ((b : Bool) → IsShort (h b).term) → LeavesShort (and_then r (λ v. and_then (truth a.process at v) (λ b. Ok (h b))))
  tested_short at (Err t) h each = tt
  tested_short at (Ok v) h each = by (truth a.process at v)
    where
      by : (r : Result Bool Trouble) → LeavesShort (and_then r (λ b. Ok (h b)))
      by (Ok b) = each b
      by (Err t) = tt

  chosen_short : (s : StateView) (ts : Steps) (other : statement.StatementPart Slot ClassId ℕ) (b : Bool) → IsShort (chosen (home_of a) s ts other b).term
  chosen_short s ts other true = opened_all_short (home_of a) ts s
  chosen_short s ts statement.not_written false = tt
  chosen_short s ts (statement.otherwise us) false = opened_all_short (home_of a) us s

  turned_short : (s : StateView) (loop : Step) (ts : Steps) (b : Bool) → IsShort (turned (home_of a) s loop ts b).term
  turned_short s loop ts true = opened_all_short (home_of a) ts s
  turned_short s loop ts false = tt

  entered_short : (s : StateView) (locals : ℕ) (results : List Slot) (body : Steps) (r : Result (List Value) Trouble) → LeavesShort (and_then r (λ vs. Ok (entered (home_of a) s locals results body vs)))
  entered_short s locals results body (Ok vs) =
      let number = least_free s.frames in
      let state = with_inputs s number locals vs in
      framed_short number (length vs) results (opened_all (home_of a) body state).term (opened_all_short (home_of a) body state)
  entered_short s locals results body (Err t) = tt

  performed_short : (f : ℕ) (t : Term) (pos : Pos) (q : Result Process Trouble) → Performs a f t pos q → LeavesShort q
  performed_short f _ _ _ (actions.skips at) = tt
  performed_short f _ _ _ (actions.evaluates at e r s gives) = done_short r s
  performed_short f _ _ _ (actions.evaluates_block at es r s gives) = done_short r s
  performed_short f _ _ _ (actions.tests at e ts other r s gives) = tested_short at r (chosen (home_of a) s ts other) (chosen_short s ts other)
  performed_short f _ _ _ (actions.repeats at e ts r s gives) = tested_short at r (turned (home_of a) s (statement.repeated at e ts) ts) (turned_short s (statement.repeated at e ts) ts)
  performed_short f _ _ _ (actions.elapses at e) = tt
  performed_short f _ _ _ (actions.expires n at) = tt
  performed_short f _ _ _ (actions.calls at method args results r s locals body gives is_method) = entered_short s locals results body r

  handed_short : (f : ℕ) (parcel : ParcelView) (t : Term) (pos : Pos) (q : Result Process Trouble) → Hands a f parcel t pos q → LeavesShort q
  handed_short f parcel _ _ _ (messages.hands at port name args after values s r end gives packed gives_block) = done_short r end

  taken_short : (f : ℕ) (parcel : ParcelView) (t : Term) (pos : Pos) (q : Result Process Trouble) → Takes a f parcel t pos q → LeavesShort q
  taken_short f parcel _ _ _ (messages.takes at port name into condition after r end fits gives) = done_short r end
  taken_short f parcel _ _ _ (messages.full at port name into condition after unfit) = tt

  pub deed_short : (how : How) (parcel : ParcelView) (f : ℕ) (t : Term) (pos : Pos) (q : Result Process Trouble) → deed how parcel a f t pos q → LeavesShort q
  deed_short Internal parcel f t pos q acts = performed_short f t pos q acts
  deed_short Send parcel f t pos q acts = handed_short f parcel t pos q acts
  deed_short (Receive taken) parcel f t pos q acts = taken_short f taken.now t pos q acts

pub answer_short : (a : Context) (at : Pos) (left answer : Result Process Trouble) → Becomes a at left answer → LeavesShort left → LeavesShort answer
answer_short a at _ _ (becoming.is r) h = h
answer_short a at _ _ (becoming.high x above) h = tt

pub part_short : (s : StateView) (r : Result code.Term Trouble) → LeavesShort (process_left s r) → IfOk r (λ t. IsShort (term_view t))
part_short s (Ok t) h = h
part_short s (Err t) h = tt
