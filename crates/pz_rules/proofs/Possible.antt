-- In a model whose bodies fit, each action that is offered leads somewhere, and what fits stays so.
use Rattle.std.proofs.Common.{◌≡◌, ◌+◌, inl, inr, ℕ, Bool, true, false, List, length, Option, Some, Result, Ok, Err, refl, sym, subst, ap, ◌∙◌}
use Rattle.std.specs.List.{All}
use Rattle.pz_bind_rules.specs.pz_syntax.declared.tokens.Pos.{Pos}
use Rattle.pz_bind_rules.specs.pz_syntax.declared.names.Id.{Id}
use Rattle.pz_bind_rules.specs.pz_syntax.Expressions as ours
use Rattle.pz_bind_rules.specs.pz_syntax.Statements.{repeated, call, receive, StatementPart}
use Rattle.pz_bind_rules.specs.pz_syntax.Classes.{ModelTree}
use Rattle.pz_bind_rules.specs.pz_value.declared.value.ClassId.{ClassId}
use Rattle.pz_bind_rules.specs.pz_value.declared.value.Value.{Value}
use Rattle.pz_bind_rules.specs.pz_classes_code.declared.slot.Slot.{Slot}
use Rattle.pz_offer.specs.pz_state.States.{StateView, object_limit}
use Rattle.pz_offer.specs.pz_state.declared.fault.FaultKind.TheVariants.{StoreFull}
use Rattle.pz_bind_rules.specs.pz_classes_rules.declared.method_id.Counts.TheVariants.{Process as process_counts}
use Rattle.pz_bind_rules.specs.pz_classes_rules.Bodies.{BodyTree, data_body, process_body}
use Rattle.pz_bind_rules.specs.pz_classes_rules.FitBodies.{process_code, SlotFits, StatementFits, StatementsFit, OtherwiseFits, CallFits, BodyFits, how_many}
use Rattle.pz_bind_rules.specs.pz_classes_rules.SoundBodies.{BodiesFit}
use Rattle.pz_offer.specs.pz_copy.Parcels.{ParcelView}
use Rattle.pz_offer.specs.declared.trouble.Trouble.{Trouble}
use Rattle.pz_rules.specs.declared.action.Kind.{Kind}
use Rattle.pz_rules.specs.declared.limits.Edition.{Edition}
use Rattle.pz_rules.specs.Terms.{Code, Codes, Step, Steps, Term, leaf}
use Rattle.pz_rules.specs.Settings.{Process, Context, in_state, Home, home_of}
use Rattle.pz_rules.specs.FrameNumbers.{least_free}
use Rattle.pz_rules.specs.Opening.{opened_all}
use Rattle.pz_rules.specs.Meanings.{and_then, truth, fault}
use Rattle.pz_rules.specs.Methods.{IsMethod}
use Rattle.pz_rules.specs.InternalActions as actions
use Rattle.pz_rules.specs.InternalActions.{Can, Performs, done_in, chosen, turned, with_inputs, entered}
use Rattle.pz_rules.specs.Messages as messages
use Rattle.pz_rules.specs.Messages.{Sends, Receives, Fits, bound, Hands, Takes}
use Rattle.pz_rules.specs.Fitting.{TermFits}
use Rattle.pz_rules.specs.devices.Found.{found, left, found_all, left_all, found_part, left_part}
use Rattle.pz_rules.proofs.Found.{gives_found, gives_all_found, gives_part_found}
use Rattle.pz_rules.proofs.Locals.{some_is}
use Rattle.pz_rules.proofs.Finite.{Known}
use Rattle.pz_rules.proofs.Derived.{at_most_known}
use Rattle.pz_rules.proofs.Fits.{framed_fits, opened_all_fits, opened_part_fits}

-- an outcome of a deed
pub record SomeDeed (does : Pos → Result Process Trouble → Type 0) : Type 0 where
  pub pos : Pos
  pub left : Result Process Trouble
  pub is : does pos left

-- what it leaves fits
abbrev pub LeavesFit : ModelTree → ℕ → ℕ → Result Process Trouble → Type 0
LeavesFit m c l (Ok p) = TermFits m c l p.term
LeavesFit m c l (Err t) = Unit {0}

module _ (a : Context) (f : ℕ) (sound : BodiesFit a.setting.model) (l : ℕ) where
  abbrev m : ModelTree
  m = a.setting.model

  abbrev edition : Edition
  edition = a.setting.limits.edition

  abbrev home : Home
  home = home_of a

  -- What a part does by itself

  call_does : (at : Pos) (method : Id) (args : Codes) (results : List Slot) (body : BodyTree) → (h : CallFits m a.class l method (how_many args) (length results)) → h.body ≡ body → BodyFits m a.class (process_counts (how_many args) (length results)) body → SomeDeed (Performs a f (leaf (call at method args results)))
  call_does at method args results (data_body count code) h is fits = absurd fits
  call_does at method args results (process_body locals body) h is fits =
      record {
        pos = at;
        left = and_then (found_all a f at args) (λ vs. Ok (entered (home_of a) (left_all a f args) locals results body vs));
        is = actions.calls at method args results (found_all a f at args) (left_all a f args) locals body (gives_all_found a f at args)
            (record { is_body = h.is ∙ ap (λ b. Some b) is });
      }

  pub performs_some : (t : Term) (kind : Kind) (pos : Pos) → Can a f t kind pos → TermFits m a.class l t → SomeDeed (Performs a f t)
  performs_some _ _ _ (actions.skips at) h = record { pos = at; left = Ok (done_in a.state); is = actions.skips at }
  performs_some _ _ _ (actions.evaluates at e) h = record { pos = at; left = _; is = actions.evaluates at e (found a f at e) (left a f e) (gives_found a f at e) }
  performs_some _ _ _ (actions.evaluates_block at es) h = record { pos = at; left = _; is = actions.evaluates_block at es (found_all a f at es) (left_all a f es) (gives_all_found a f at es) }
  performs_some _ _ _ (actions.tests at e ts other) h = record { pos = at; left = _; is = actions.tests at e ts other (found a f at e) (left a f e) (gives_found a f at e) }
  performs_some _ _ _ (actions.repeats at e ts) h = record { pos = at; left = _; is = actions.repeats at e ts (found a f at e) (left a f e) (gives_found a f at e) }
  performs_some _ _ _ (actions.elapses at e is) h = record { pos = at; left = Ok (done_in a.state); is = actions.elapses at e }
  performs_some _ _ _ (actions.expires at) h = record { pos = at; left = Ok (done_in a.state); is = actions.expires 0 at }
  performs_some _ _ _ (actions.calls at method args results) h = call_does at method args results h.0.body h.0 refl (sound.methods_fit a.class (record { name = method.name; counts = process_counts (how_many args) (length results) }) h.0.body h.0.is)

  done_fits : {A : Type 0} (r : Result A Trouble) (s : StateView) → LeavesFit m a.class l (and_then r (λ _. Ok (done_in s)))
  done_fits (Ok x) s = tt
  done_fits (Err t) s = tt

  -- a test that is true or false, or a trouble
  tested_fits : (at : Pos) (r : Result Value Trouble) (h : Bool → Process) → ((b : Bool) → TermFits m a.class l (h b).term) → LeavesFit m a.class l (and_then r (λ v. and_then (truth a.process at v) (λ b. Ok (h b))))
  tested_fits at (Err t) h each = tt
  tested_fits at (Ok v) h each = by (truth a.process at v)
    where
      by : (r : Result Bool Trouble) → LeavesFit m a.class l (and_then r (λ b. Ok (h b)))
      by (Ok b) = each b
      by (Err t) = tt

  entered_fits : (s : StateView) (locals : ℕ) (results : List Slot) (body : Steps) (r : Result (List Value) Trouble) → All (SlotFits m a.class process_code l) results → StatementsFit m a.class locals body → LeavesFit m a.class l (and_then r (λ vs. Ok (entered home s locals results body vs)))
  entered_fits s locals results body (Ok vs) h k =
      let x = opened_all home body (with_inputs s (least_free s.frames) locals vs) in
      framed_fits m a.class edition l (least_free s.frames) (length vs) results x.term locals h (opened_all_fits m a.class edition sound locals body (with_inputs s (least_free s.frames) locals vs) k)
  entered_fits s locals results body (Err t) h k = tt

  body_fits : (method : Id) (inputs : ℕ) (results : List Slot) (locals : ℕ) (body : Steps) → CallFits m a.class l method inputs (length results) → IsMethod m a.class method.name inputs (length results) locals body → StatementsFit m a.class locals body
  body_fits method inputs results locals body h is_method =
      let same : h.body ≡ process_body locals body = some_is (sym h.is ∙ is_method.is_body) in
      (subst (λ (b : BodyTree). BodyFits m a.class (process_counts inputs (length results)) b) same (sound.methods_fit a.class (record { name = method.name; counts = process_counts inputs (length results) }) h.body h.is)).1

  chosen_fits : (s : StateView) (ts : Steps) (other : StatementPart Slot ClassId ℕ) (b : Bool) → StatementsFit m a.class l ts → OtherwiseFits m a.class l other → TermFits m a.class l (chosen home s ts other b).term
  chosen_fits s ts other true h k = opened_all_fits m a.class edition sound l ts s h
  chosen_fits s ts other false h k = opened_part_fits m a.class edition sound l other s k

  turned_fits : (s : StateView) (loop : Step) (ts : Steps) (b : Bool) → StatementsFit m a.class l ts → StatementFits m a.class l loop → TermFits m a.class l (turned home s loop ts b).term
  turned_fits s loop ts true h k = (opened_all_fits m a.class edition sound l ts s h, (k, tt))
  turned_fits s loop ts false h k = tt

  pub performs_fit : (t : Term) (pos : Pos) (q : Result Process Trouble) → Performs a f t pos q → TermFits m a.class l t → LeavesFit m a.class l q
  performs_fit _ _ _ (actions.skips at) h = tt
  performs_fit _ _ _ (actions.evaluates at e r s gives) h = done_fits r s
  performs_fit _ _ _ (actions.evaluates_block at es r s gives) h = done_fits r s
  performs_fit _ _ _ (actions.tests at e ts other r s gives) h =
      tested_fits at r (chosen home s ts other) (λ b. chosen_fits s ts other b h.1 h.2)
  performs_fit _ _ _ (actions.repeats at e ts r s gives) h =
      tested_fits at r (turned home s (repeated at e ts) ts) (λ b. turned_fits s (repeated at e ts) ts b h.1 h)
  performs_fit _ _ _ (actions.elapses at e) h = tt
  performs_fit _ _ _ (actions.expires n at) h = tt
  performs_fit _ _ _ (actions.calls at method args results r s locals body gives is_method) h =
      entered_fits s locals results body r h.2 (body_fits method (how_many args) results locals body h.0 is_method)

  -- What messages leave

  pub hands_fit : (parcel : ParcelView) (t : Term) (pos : Pos) (q : Result Process Trouble) → Hands a f parcel t pos q → TermFits m a.class l t → LeavesFit m a.class l q
  hands_fit parcel _ _ _ (messages.hands at port name args after values s r end gives packed gives_block) h = done_fits r end

  pub takes_fit : (parcel : ParcelView) (t : Term) (pos : Pos) (q : Result Process Trouble) → Takes a f parcel t pos q → TermFits m a.class l t → LeavesFit m a.class l q
  takes_fit parcel _ _ _ (messages.takes at port name into condition after r end fits gives) h = done_fits r end
  takes_fit parcel _ _ _ (messages.full at port name into condition after unfit) h = tt

module _ (a : Context) (f : ℕ) where
  pub hands_some : (t : Term) (pos : Pos) (port : ℕ) (message : List ℕ) (parcel : ParcelView) → Sends a f t pos port message parcel → SomeDeed (Hands a f parcel t)
  hands_some _ _ _ _ _ (messages.sends at port name args after values s parcel gives packed) =
      record { pos = at; left = _; is = messages.hands at port name args after values s (found_part (in_state a s) f at after) (left_part (in_state a s) f after) gives packed (gives_part_found (in_state a s) f at after) }

  taking : (parcel : ParcelView) (at : Pos) (port : ℕ) (name : Id) (into : Option (List Slot)) (condition : Option Code) (after : ours.Part Slot ClassId) → Known (Fits a parcel) → SomeDeed (Takes a f parcel (leaf (receive at port name into condition after)))
  taking parcel at port name into condition after (inl fits) =
      let b = in_state a (bound a f into parcel) in
      record { pos = at; left = _; is = messages.takes at port name into condition after (found_part b f at after) (left_part b f after) fits (gives_part_found b f at after) }
  taking parcel at port name into condition after (inr unfit) = record { pos = at; left = fault StoreFull a.process at; is = messages.full at port name into condition after unfit }

  pub takes_some : (parcel : ParcelView) (t : Term) (pos : Pos) (port : ℕ) (message : List ℕ) (count : ℕ) → Receives t pos port message count → SomeDeed (Takes a f parcel t)
  takes_some parcel _ _ _ _ _ (messages.receives at port name into condition after) = taking parcel at port name into condition after (at_most_known (length a.state.objects + length parcel.objects) object_limit)
