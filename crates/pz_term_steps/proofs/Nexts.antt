-- The steps that the code takes are those of the rules.
use Rattle.std.proofs.Common.{◌≡◌, ◌≢◌, ℕ, ◌+◌, ◌<◌, ◌≤◌, List, [], Result, Ok, Err, map, set, length, refl, sym, subst, ap, ◌∙◌, inl, inr, arith}
use Rattle.std.specs.Prelude.{◌⊎◌, ⊤, IfOk, OnOk, OnErr}
use Rattle.std.proofs.Math.Logic.{∥∥₁_map}
use Rattle.std.proofs.lemmas.Bool.{cases_lt}
use Rattle.std.proofs.lemmas.List.{map-set}
use Rattle.std.specs.declared.alloc.AllocError.{AllocError}
use Rattle.pz_classes_code.specs.pz_syntax.declared.tokens.Pos.{Pos}
use Rattle.pz_classes_code.specs.pz_syntax.Expressions.{Part, left_out, written}
use Rattle.pz_classes_code.specs.pz_syntax.Statements as statements
use Rattle.pz_classes_code.specs.pz_value.declared.value.ClassId.{ClassId}
use Rattle.pz_classes_code.specs.pz_value.declared.value.Value.{Value}
use Rattle.pz_classes_code.specs.declared.slot.Slot.{Slot}
use Rattle.pz_rules.specs.pz_classes_rules.Soundness.{IsSound}
use Rattle.pz_rules.specs.pz_copy.Parcels.{ParcelView}
use Rattle.pz_rules.specs.pz_state.States.{StateView}
use Rattle.pz_rules.specs.pz_state.States.{object_limit}
use Rattle.pz_rules.specs.pz_offer.declared.end.End.{End}
use Rattle.pz_rules.specs.pz_offer.declared.trouble.Trouble.{Trouble}
use Rattle.pz_rules.specs.pz_eval_rules.Laws.{EachListHasAnOutcome}
use Rattle.pz_rules.specs.declared.action.Kind.{Kind}
use Rattle.pz_rules.specs.declared.action.Action.{Action}
use Rattle.pz_rules.specs.declared.action.Action.TheVariants.{Internal, Comm}
use Rattle.pz_rules.specs.Terms as terms
use Rattle.pz_rules.specs.Terms.{Term}
use Rattle.pz_rules.specs.Settings as rules
use Rattle.pz_rules.specs.Settings.{Setting, Context}
use Rattle.pz_rules.specs.Evaluations.{allowance, values_or_trouble, GivesPart}
use Rattle.pz_rules.specs.InternalActions.{Performs}
use Rattle.pz_rules.specs.Leaving.{settled}
use Rattle.pz_rules.specs.Meanings.{and_then}
use Rattle.pz_rules.specs.Messages as messages
use Rattle.pz_rules.specs.Messages.{Receives, Hands, Takes}
use Rattle.pz_rules.specs.Configurations.{Config}
use Rattle.pz_rules.specs.Offers as offers
use Rattle.pz_rules.specs.Offers.{IsPair, Offers}
use Rattle.pz_rules.specs.Steps as steps
use Rattle.pz_rules.specs.Steps.{Acts, Next, with_both}
use Rattle.pz_rules.specs.Laws.{StaysWhole, StaysFit, LowStays}
use Rattle.pz_term_processes.specs.declared.process.Process.{Process}
use Rattle.pz_term_processes.specs.Standing.{process_view, config_of, AreProcesses}
use Rattle.pz_term_steps.specs.Stepping.{reached}
use Rattle.pz_term_steps.specs.devices.Deeds.{CanAct, CanSend, CanReceive}
use Rattle.pz_term_steps.proofs.Lists.{both_set}
use Rattle.pz_term_steps.proofs.AtHome.{Ready, ready}

-- what is offered

pub act_ready : (setting : Setting) (clock : ℕ) (ps : List Process) (at : End) → ((kind : Kind) × (pos : Pos) × Offers setting (config_of clock ps) (Internal at kind pos))
    → Ready setting clock ps at CanAct
act_ready setting clock ps at offered = from offered.0 offered.1 offered.2
  where
    from : (kind : Kind) (pos : Pos) → Offers setting (config_of clock ps) (Internal at kind pos) → Ready setting clock ps at CanAct
    from _ _ (offers.internal _ a f x kind pos part can) = ready setting clock ps at CanAct a f x pos part (kind, can)

pub pair_offered : (setting : Setting) (c : Config) (number : ℕ) (sender receiver : End) (message : List ℕ) (parcel : ParcelView)
    → Offers setting c (Comm number sender receiver message parcel) → IsPair setting c number sender receiver message parcel
pair_offered setting c _ _ _ _ _ (offers.communication number sender receiver message parcel pair judged) = pair

-- two parts that are about to communicate, in two processes
pub record Talk (setting : Setting) (clock : ℕ) (ps : List Process) (sender receiver : End) (parcel : ParcelView) : Type 0 where
  pub sends : Ready setting clock ps sender (CanSend parcel)
  pub receives : Ready setting clock ps receiver CanReceive
  pub apart : sender.process ≢ receiver.process

pub talk : (setting : Setting) (clock : ℕ) (ps : List Process) (sender receiver : End) (parcel : ParcelView)
    → ((number : ℕ) × (message : List ℕ) × IsPair setting (config_of clock ps) number sender receiver message parcel) → Talk setting clock ps sender receiver parcel
talk setting clock ps sender receiver parcel offered =
    let pair = offered.2 in
    record {
      sends = ready setting clock ps sender (CanSend parcel) pair.sends_at pair.sends_frame pair.sends_part pair.sends_pos pair.sender_active (pair.sends_port, offered.1, pair.sends);
      receives = ready setting clock ps receiver CanReceive pair.receives_at pair.receives_frame pair.receives_part pair.receives_pos pair.receiver_active
          (pair.receives_port, offered.1, length parcel.values, pair.receives);
      apart = pair.two;
    }

-- a receive takes each parcel somehow

part_some : EachListHasAnOutcome → (a : Context) (f : ℕ) (at : Pos) (es : Part Slot ClassId) → (r : Result (List Value) Trouble) × (s : StateView) × GivesPart a f at es r s
part_some law a f at left_out = (Ok [], a.state, (refl, refl))
part_some law a f at (written es) =
    let found = law a.setting.model a.clock f a.state es (allowance a.setting.limits) in
    (values_or_trouble a.process at found.0.listed, found.0.state, record { outcome = found.0.listed; finds = found.1; means = refl })

pub takes_some : EachListHasAnOutcome → (a : Context) (f : ℕ) (parcel : ParcelView) (part : Term) (pos : Pos) (port : ℕ) (message : List ℕ) (count : ℕ)
    → Receives part pos port message count → (r : Result rules.Process Trouble) × Takes a f parcel part pos r
takes_some law a f parcel _ _ _ _ _ (messages.receives at port name into condition block) = by_room (cases_lt object_limit (length a.state.objects + length parcel.objects))
  where
    by_room : (object_limit < length a.state.objects + length parcel.objects) ⊎ (length a.state.objects + length parcel.objects ≤ object_limit)
        → (r : Result rules.Process Trouble) × Takes a f parcel (terms.leaf (statements.receive at port name into condition block)) at r
    by_room (inl over) = (_, messages.full at port name into condition block (λ fits. absurd (omega (arith, over, fits))))
    by_room (inr fits) =
        let given = part_some law (rules.in_state a (messages.bound a f into parcel)) f at block in
        (_, messages.takes at port name into condition block given.0 given.1 fits given.2)

-- the next configuration, or the trouble

module _ (setting : Setting) (clock : ℕ) (ps : List Process) where
  pub acted : (at : End) (new : Process) → Acts setting (config_of clock ps) Performs at (Ok (process_view new))
      → (kind : Kind) (pos : Pos) → Next setting (config_of clock ps) (Internal at kind pos) (Ok (config_of clock (set ps at.process new)))
  acted at new acts kind pos =
      subst (λ (qs : List rules.Process). Next setting (config_of clock ps) (Internal at kind pos) (Ok (record { clock = clock; processes = qs }))) (sym (map-set process_view ps at.process new))
      (steps.internal at kind pos (Ok (process_view new)) acts)

  pub acted_trouble : (at : End) (trouble : Trouble) → Acts setting (config_of clock ps) Performs at (Err trouble)
      → (kind : Kind) (pos : Pos) → Next setting (config_of clock ps) (Internal at kind pos) (Err trouble)
  acted_trouble at trouble acts kind pos = steps.internal at kind pos (Err trouble) acts

  module _ (sender receiver : End) (parcel : ParcelView) where
    both_views : (p q : Process) → map process_view (set (set ps sender.process p) receiver.process q) ≡ set (set (map process_view ps) sender.process (process_view p)) receiver.process (process_view q)
    both_views p q =
        map-set process_view (set ps sender.process p) receiver.process q
        ∙ ap (λ (qs : List rules.Process). set qs receiver.process (process_view q)) (map-set process_view ps sender.process p)

    pub communicated : (p1 q1 p q : Process) → sender.process ≢ receiver.process
        → Acts setting (config_of clock ps) (λ a f. Hands a f parcel) sender (Ok (process_view p)) → Acts setting (config_of clock ps) (λ a f. Takes a f parcel) receiver (Ok (process_view q))
        → (number : ℕ) (message : List ℕ) → Next setting (config_of clock ps) (Comm number sender receiver message parcel)
        (Ok (config_of clock (set (set (set (set ps sender.process p1) receiver.process q1) sender.process p) receiver.process q)))
    communicated p1 q1 p q apart hands takes number message =
        subst (λ (qs : List rules.Process). Next setting (config_of clock ps) (Comm number sender receiver message parcel) (Ok (record { clock = clock; processes = qs })))
        (sym (ap (λ (xs : List Process). map process_view xs) (both_set ps sender.process receiver.process p1 q1 p q apart) ∙ both_views p q))
        (steps.communication number sender receiver message parcel (Ok (process_view p)) (Ok (process_view q)) hands takes)

    -- the sender's trouble comes first, whatever the receiver would say
    pub sender_trouble : EachListHasAnOutcome → ((n : ℕ) × (m : List ℕ) × IsPair setting (config_of clock ps) n sender receiver m parcel)
        → (trouble : Trouble) → Acts setting (config_of clock ps) (λ a f. Hands a f parcel) sender (Err trouble)
        → (number : ℕ) (message : List ℕ) → Next setting (config_of clock ps) (Comm number sender receiver message parcel) (Err trouble)
    sender_trouble law offered trouble hands number message =
        let pair = offered.2 in
        let active = pair.receiver_active in
        let taken = takes_some law pair.receives_at pair.receives_frame parcel pair.receives_part pair.receives_pos pair.receives_port offered.1 (length parcel.values) pair.receives in
        steps.communication number sender receiver message parcel (Err trouble) (and_then taken.0 (settled pair.receives_at pair.receives_pos active.process.term receiver.place)) hands (record {
          process = active.process;
          seen = pair.receives_at;
          stands = active.stands;
          frame = pair.receives_frame;
          part = pair.receives_part;
          active = active.active;
          pos = pair.receives_pos;
          left = taken.0;
          acts = taken.1;
          leaves = refl;
        })

    pub receiver_trouble : (x : rules.Process) (trouble : Trouble) → Acts setting (config_of clock ps) (λ a f. Hands a f parcel) sender (Ok x)
        → Acts setting (config_of clock ps) (λ a f. Takes a f parcel) receiver (Err trouble)
        → (number : ℕ) (message : List ℕ) → Next setting (config_of clock ps) (Comm number sender receiver message parcel) (Err trouble)
    receiver_trouble x trouble hands takes number message = steps.communication number sender receiver message parcel (Ok x) (Err trouble) hands takes

-- the processes afterwards
pub still_processes : (setting : Setting) (clock : ℕ) (old new : List Process) (action : Action) (result : Result (Result ⊤ Trouble) AllocError)
    → StaysWhole → StaysFit → LowStays → IsSound setting.model → ∥ AreProcesses setting clock old ∥₁
    → IfOk result (λ left. Next setting (config_of clock old) action (reached clock new left)) → IfOk result (λ left. OnErr left (new ≡ old))
    → OnOk result (∥ AreProcesses setting clock new ∥₁)
still_processes setting clock old new action (Ok (Ok x)) whole fit low sound are next stays = ∥∥₁_map are (λ k. record {
  whole = (whole setting (config_of clock old) (config_of clock new) action 0 k.whole).0 next;
  fit = (fit setting (config_of clock old) (config_of clock new) action 0 sound k.whole k.fit).0 next;
  low = low setting (config_of clock old) (config_of clock new) action k.low next;
})
still_processes setting clock old new action (Ok (Err trouble)) whole fit low sound are next stays = subst (λ (ps : List Process). ∥ AreProcesses setting clock ps ∥₁) (sym stays) are
still_processes setting clock old new action (Err e) whole fit low sound are next stays = tt
