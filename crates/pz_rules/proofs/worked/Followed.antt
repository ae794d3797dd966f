-- What an action leads to, computed.
use Rattle.std.proofs.Common.{◌≡◌, ◌+◌, ℕ, Bool, true, false, List, [], ◌∷◌, length, Option, Some, None, Result, Ok, Err, refl, sym, subst, ap, ◌∙◌, arith}
use Rattle.std.specs.Prelude.{nat_eq, nat_le, if◌then◌else◌}
use Rattle.std.specs.Option.{option_and_then}
use Rattle.std.specs.Str.{bytes_eq}
use Rattle.std.specs.List.{Contains}
use Rattle.std.proofs.lemmas.Bool.{eqb-true, leb-true, leb-false}
use Rattle.std.proofs.lemmas.List.Elements.{All-contains}
use Rattle.std.proofs.lemmas.Slice.Eq.{bytes_eq-Decides}
use Rattle.pz_bind_rules.specs.pz_syntax.declared.tokens.Pos.{Pos}
use Rattle.pz_bind_rules.specs.pz_syntax.declared.names.Id.{Id}
use Rattle.pz_bind_rules.specs.pz_syntax.Expressions as ours
use Rattle.pz_bind_rules.specs.pz_syntax.Statements.{skip, delay, block, conditional, repeated, call, value, send, receive}
use Rattle.pz_bind_rules.specs.pz_value.declared.value.ClassId.{ClassId}
use Rattle.pz_bind_rules.specs.pz_value.declared.value.Value.{Value}
use Rattle.pz_bind_rules.specs.pz_classes_code.declared.slot.Slot.{Slot}
use Rattle.pz_offer.specs.pz_state.States.{object_limit}
use Rattle.pz_offer.specs.pz_state.declared.fault.FaultKind.TheVariants.{StoreFull}
use Rattle.pz_bind_rules.specs.pz_classes_rules.Bodies.{BodyTree, data_body, process_body}
use Rattle.pz_bind_rules.specs.pz_classes_rules.MethodBodies.{process_method_body}
use Rattle.pz_bind_rules.specs.pz_classes_rules.FitBodies.{how_many}
use Rattle.pz_offer.specs.pz_copy.Parcels.{ParcelView}
use Rattle.pz_offer.specs.declared.end.End.{End}
use Rattle.pz_offer.specs.PlaceOrder.{Place}
use Rattle.pz_offer.specs.declared.trouble.Trouble.{Trouble}
use Rattle.pz_rules.specs.declared.action.Action.{Action}
use Rattle.pz_rules.specs.declared.action.Action.TheVariants.{Internal, Comm}
use Rattle.pz_rules.specs.Terms.{Codes, Step, Term, leaf, wait}
use Rattle.pz_rules.specs.Settings.{Setting, Process, Context, in_state, home_of}
use Rattle.pz_rules.specs.Meanings.{and_then, truth, fault}
use Rattle.pz_rules.specs.Evaluations.{GivesPart}
use Rattle.pz_rules.specs.InternalActions as actions
use Rattle.pz_rules.specs.InternalActions.{Performs, done_in, chosen, turned, entered}
use Rattle.pz_rules.specs.Leaving.{settled}
use Rattle.pz_rules.specs.Messages as messages
use Rattle.pz_rules.specs.Messages.{bound, Hands, Takes}
use Rattle.pz_rules.specs.Configurations.{Config}
use Rattle.pz_rules.specs.Steps as steps
use Rattle.pz_rules.specs.Steps.{Deed, Acts, with_process, with_both, Next}
use Rattle.pz_rules.specs.devices.Found.{found, left, found_all, left_all, found_part, left_part}
use Rattle.pz_rules.specs.devices.Walk.{ActivePart, active_parts}
use Rattle.pz_rules.proofs.Found.{gives_found, gives_all_found, gives_part_found}
use Rattle.pz_rules.proofs.Lists.{Contains-first, Contains-later}
use Rattle.pz_rules.proofs.Locals.{some_is, no_some}
use Rattle.pz_rules.proofs.Walked.{IsPart, sound}
use Rattle.pz_rules.proofs.Derived.{Standing}
use Rattle.pz_rules.proofs.worked.Parcelled.{parcel, parcel_holds}
use Rattle.pz_rules.proofs.worked.Offered.{here, IsHere, all_stand, stands_here}

-- What a part leaves of itself, with the place of its statement

pub record Outcome : Type 0 where
  pub pos : Pos
  pub left : Result Process Trouble

-- and what a send hands over
pub record Handing : Type 0 where
  pub parcel : ParcelView
  pub outcome : Outcome

module _ (a : Context) (f : ℕ) where
  abbrev called : Pos → Codes → List Slot → Option BodyTree → Option Outcome
  called at args results None = None
  called at args results (Some (data_body locals body)) = None
  called at args results (Some (process_body locals body)) =
      Some (record { pos = at; left = and_then (found_all a f at args) (λ vs. Ok (entered (home_of a) (left_all a f args) locals results body vs)) })

  abbrev step_performed : Step → Option Outcome
  step_performed (skip at) = Some (record { pos = at; left = Ok (done_in a.state) })
  step_performed (value at e) = Some (record { pos = at; left = and_then (found a f at e) (λ _. Ok (done_in (left a f e))) })
  step_performed (block at es) = Some (record { pos = at; left = and_then (found_all a f at es) (λ _. Ok (done_in (left_all a f es))) })
  step_performed (conditional at e ts other) = Some (record { pos = at; left = and_then (found a f at e) (λ v. and_then (truth a.process at v) (λ b. Ok (chosen (home_of a) (left a f e) ts other b))) })
  step_performed (repeated at e ts) = Some (record { pos = at; left = and_then (found a f at e) (λ v. and_then (truth a.process at v) (λ b. Ok (turned (home_of a) (left a f e) (repeated at e ts) ts b))) })
  step_performed (delay at e) = Some (record { pos = at; left = Ok (done_in a.state) })
  step_performed (call at method args results) = called at args results (process_method_body a.setting.model a.class method.name (how_many args) (length results))
  step_performed s = None

  abbrev performed : Term → Option Outcome
  performed (leaf s) = step_performed s
  performed (wait n at) = Some (record { pos = at; left = Ok (done_in a.state) })
  performed t = None

  abbrev Does : Term → Outcome → Type 0
  Does t d = Performs a f t d.pos d.left

  called_is : (at : Pos) (method : Id) (args : Codes) (results : List Slot) (o : Option BodyTree) (d : Outcome) → process_method_body a.setting.model a.class method.name (how_many args) (length results) ≡ o → called at args results o ≡ Some d → Does (leaf (call at method args results)) d
  called_is at method args results None d is e = no_some e
  called_is at method args results (Some (data_body locals body)) d is e = no_some e
  called_is at method args results (Some (process_body locals body)) d is e =
      subst (Does (leaf (call at method args results))) (some_is e)
      (actions.calls at method args results (found_all a f at args) (left_all a f args) locals body (gives_all_found a f at args) (record { is_body = is }))

  step_performed_is : (s : Step) (d : Outcome) → step_performed s ≡ Some d → Does (leaf s) d
  step_performed_is (skip at) d e = subst (Does (leaf (skip at))) (some_is e) (actions.skips at)
  step_performed_is (value at t) d e = subst (Does (leaf (value at t))) (some_is e) (actions.evaluates at t (found a f at t) (left a f t) (gives_found a f at t))
  step_performed_is (block at ts) d e = subst (Does (leaf (block at ts))) (some_is e) (actions.evaluates_block at ts (found_all a f at ts) (left_all a f ts) (gives_all_found a f at ts))
  step_performed_is (conditional at t ts other) d e = subst (Does (leaf (conditional at t ts other))) (some_is e) (actions.tests at t ts other (found a f at t) (left a f t) (gives_found a f at t))
  step_performed_is (repeated at t ts) d e = subst (Does (leaf (repeated at t ts))) (some_is e) (actions.repeats at t ts (found a f at t) (left a f t) (gives_found a f at t))
  step_performed_is (delay at t) d e = subst (Does (leaf (delay at t))) (some_is e) (actions.elapses at t)
  step_performed_is (call at method args results) d e = called_is at method args results (process_method_body a.setting.model a.class method.name (how_many args) (length results)) d refl e
  step_performed_is s d e = no_some e

  pub performed_is : (t : Term) (d : Outcome) → performed t ≡ Some d → Does t d
  performed_is (leaf s) d e = step_performed_is s d e
  performed_is (wait n at) d e = subst (Does (wait n at)) (some_is e) (actions.expires n at)
  performed_is t d e = no_some e

  -- Of a send

  abbrev handed_by : Pos → ours.Part Slot ClassId → ours.Part Slot ClassId → Result (List Value) Trouble → Option Handing
  handed_by at args after (Err t) = None
  handed_by at args after (Ok vs) =
      Some (record {
        parcel = parcel (left_part a f args) vs;
        outcome = record { pos = at; left = and_then (found_part (in_state a (left_part a f args)) f at after) (λ _. Ok (done_in (left_part (in_state a (left_part a f args)) f after))) };
      })

  abbrev step_handed : Step → Option Handing
  step_handed (send at port name args after) = handed_by at args after (found_part a f at args)
  step_handed s = None

  abbrev handed : Term → Option Handing
  handed (leaf s) = step_handed s
  handed t = None

  abbrev Gives : Term → Handing → Type 0
  Gives t h = Hands a f h.parcel t h.outcome.pos h.outcome.left

  handed_by_is : (at : Pos) (port : ℕ) (name : Id) (args after : ours.Part Slot ClassId) (r : Result (List Value) Trouble) (h : Handing) → found_part a f at args ≡ r → handed_by at args after r ≡ Some h → Gives (leaf (send at port name args after)) h
  handed_by_is at port name args after (Err t) h is e = no_some e
  handed_by_is at port name args after (Ok vs) h is e =
      let s = left_part a f args in
      subst (Gives (leaf (send at port name args after))) (some_is e)
      (messages.hands at port name args after vs s (found_part (in_state a s) f at after) (left_part (in_state a s) f after) (subst (λ (r : Result (List Value) Trouble). GivesPart a f at args r s) is (gives_part_found a f at args)) (parcel_holds s vs) (gives_part_found (in_state a s) f at after))

  step_handed_is : (s : Step) (h : Handing) → step_handed s ≡ Some h → Gives (leaf s) h
  step_handed_is (send at port name args after) h e = handed_by_is at port name args after (found_part a f at args) h refl e
  step_handed_is s h e = no_some e

  pub handed_is : (t : Term) (h : Handing) → handed t ≡ Some h → Gives t h
  handed_is (leaf s) h e = step_handed_is s h e
  handed_is t h e = no_some e

  -- Of a receive

  module _ (p : ParcelView) where
    abbrev fits : Bool
    fits = nat_le (length a.state.objects + length p.objects) object_limit

    abbrev bound_in : Option (List Slot) → Context
    bound_in into = in_state a (bound a f into p)

    abbrev left_taken : Pos → Option (List Slot) → ours.Part Slot ClassId → Bool → Result Process Trouble
    left_taken at into after true = and_then (found_part (bound_in into) f at after) (λ _. Ok (done_in (left_part (bound_in into) f after)))
    left_taken at into after false = fault StoreFull a.process at

    abbrev step_taken : Step → Option Outcome
    step_taken (receive at port name into condition after) = Some (record { pos = at; left = left_taken at into after fits })
    step_taken s = None

    abbrev taken : Term → Option Outcome
    taken (leaf s) = step_taken s
    taken t = None

    abbrev Accepts : Term → Outcome → Type 0
    Accepts t d = Takes a f p t d.pos d.left

    left_taken_is : (at : Pos) (port : ℕ) (name : Id) (into : Option (List Slot)) (condition : Option (ours.Expression Slot ClassId)) (after : ours.Part Slot ClassId) (b : Bool) → fits ≡ b → Takes a f p (leaf (receive at port name into condition after)) at (left_taken at into after b)
    left_taken_is at port name into condition after true is =
        messages.takes at port name into condition after (found_part (bound_in into) f at after) (left_part (bound_in into) f after)
        (leb-true (length a.state.objects + length p.objects) object_limit is) (gives_part_found (bound_in into) f at after)
    left_taken_is at port name into condition after false is =
        messages.full at port name into condition after (λ h. omega (arith, h, leb-false (length a.state.objects + length p.objects) object_limit is))

    step_taken_is : (s : Step) (d : Outcome) → step_taken s ≡ Some d → Accepts (leaf s) d
    step_taken_is (receive at port name into condition after) d e = subst (Accepts (leaf (receive at port name into condition after))) (some_is e) (left_taken_is at port name into condition after fits refl)
    step_taken_is s d e = no_some e

    pub taken_is : (t : Term) (d : Outcome) → taken t ≡ Some d → Accepts t d
    taken_is (leaf s) d e = step_taken_is s d e
    taken_is t d e = no_some e

-- Found in a list

abbrev first_that : {X : Type 0} → (X → Bool) → List X → Option X
first_that test [] = None
first_that test (x ∷ xs) = if test x then Some x else first_that test xs

pub record IsThat {X : Type 0} (test : X → Bool) (xs : List X) (x : X) : Type 0 where
  pub within : Contains xs x
  pub passes : test x ≡ true

first_that_is : {X : Type 0} (test : X → Bool) (xs : List X) (x : X) → first_that test xs ≡ Some x → IsThat test xs x
first_that_is test [] x e = no_some e
first_that_is {X} test (y ∷ ys) x e = by (test y) refl e (λ later. first_that_is test ys x later)
  where
    by : (b : Bool) → test y ≡ b → (if b then Some y else first_that test ys) ≡ Some x → (first_that test ys ≡ Some x → IsThat test ys x) → IsThat test (y ∷ ys) x
    by true is found later = subst (λ (z : X). IsThat test (y ∷ ys) z) (some_is found) (record { within = Contains-first y ys; passes = is })
    by false is found later = let r = later found in record { within = Contains-later y ys x r.within; passes = r.passes }

-- what one outcome leads to
pub record Via {X Y : Type 0} (h : X → Option Y) (o : Option X) (y : Y) : Type 0 where
  pub from : X
  pub is : o ≡ Some from
  pub leads : h from ≡ Some y

via : {X Y : Type 0} (h : X → Option Y) (o : Option X) (y : Y) → option_and_then h o ≡ Some y → Via h o y
via h None y e = no_some e
via h (Some x) y e = record { from = x; is = refl; leads = e }

module _ (setting : Setting) (c : Config) where
  abbrev process_at : ℕ → Option Standing
  process_at i = first_that (λ (s : Standing). nat_eq s.number i) (here setting c)

  abbrev part_at : Standing → Place → Option ActivePart
  part_at s place = first_that (λ (p : ActivePart). bytes_eq p.place place) (active_parts s.seen 0 s.process.term)

  -- what the part at an end leaves of its process
  abbrev settles : Standing → Place → Outcome → Result Process Trouble
  settles s place d = and_then d.left (settled s.seen d.pos s.process.term place)

  acts_by : (does : Deed) (at : End) (s : Standing) (p : ActivePart) (d : Outcome) → process_at at.process ≡ Some s → part_at s at.place ≡ Some p → does s.seen p.frame p.part d.pos d.left → Acts setting c does at (settles s at.place d)
  acts_by does at s p d stands_so part_so is =
      let there = first_that_is (λ (z : Standing). nat_eq z.number at.process) (here setting c) s stands_so in
      let inside = first_that_is (λ (q : ActivePart). bytes_eq q.place at.place) (active_parts s.seen 0 s.process.term) p part_so in
      let number : s.number ≡ at.process = eqb-true s.number at.process there.passes in
      let place : p.place ≡ at.place = (bytes_eq-Decides p.place at.place).0 inside.passes in
      let stands = stands_here setting c s (All-contains (IsHere setting c) (here setting c) s (all_stand setting c) there.within) in
      let active = All-contains (IsPart s.seen 0 s.process.term) (active_parts s.seen 0 s.process.term) p (sound s.seen 0 s.process.term) inside.within in
      subst (λ (e : End). Acts setting c does e (settles s e.place d)) (ap (λ (n : ℕ). let e : End = record { process = n; place = p.place } in e) number ∙ ap (λ (q : Place). let e : End = record { process = at.process; place = q } in e) place)
      (record { process = s.process; seen = s.seen; stands = stands; frame = p.frame; part = p.part; active = active; pos = d.pos; left = d.left; acts = is; leaves = refl })

  -- Internal actions

  abbrev performs_in : Standing → Place → ActivePart → Option (Result Process Trouble)
  performs_in s place p = option_and_then (λ (d : Outcome). Some (settles s place d)) (performed s.seen p.frame p.part)

  abbrev performs_of : Place → Standing → Option (Result Process Trouble)
  performs_of place s = option_and_then (performs_in s place) (part_at s place)

  abbrev performs : End → Option (Result Process Trouble)
  performs at = option_and_then (performs_of at.place) (process_at at.process)

  performs_is : (at : End) (q : Result Process Trouble) → performs at ≡ Some q → Acts setting c Performs at q
  performs_is at q e =
      let s = via (performs_of at.place) (process_at at.process) q e in
      let p = via (performs_in s.from at.place) (part_at s.from at.place) q s.leads in
      let d = via (λ (d : Outcome). Some (settles s.from at.place d)) (performed s.from.seen p.from.frame p.from.part) q p.leads in
      subst (Acts setting c Performs at) (some_is d.leads) (acts_by Performs at s.from p.from d.from s.is p.is (performed_is s.from.seen p.from.frame p.from.part d.from d.is))

  -- Communications

  pub record Sent : Type 0 where
    pub parcel : ParcelView
    pub result : Result Process Trouble

  abbrev sends_in : Standing → Place → ActivePart → Option Sent
  sends_in s place p = option_and_then (λ (h : Handing). let r : Sent = record { parcel = h.parcel; result = settles s place h.outcome } in Some r) (handed s.seen p.frame p.part)

  abbrev sends_of : Place → Standing → Option Sent
  sends_of place s = option_and_then (sends_in s place) (part_at s place)

  abbrev sends : End → Option Sent
  sends at = option_and_then (sends_of at.place) (process_at at.process)

  abbrev IsSent : End → Sent → Type 0
  IsSent at q = Acts setting c (λ a f. Hands a f q.parcel) at q.result

  sent_as : (at : End) (sent q : Sent) → Some sent ≡ Some q → IsSent at sent → IsSent at q
  sent_as at sent q e is = subst (IsSent at) (some_is e) is

  sends_is : (at : End) (q : Sent) → sends at ≡ Some q → IsSent at q
  sends_is at q e =
      let s = via (sends_of at.place) (process_at at.process) q e in
      let p = via (sends_in s.from at.place) (part_at s.from at.place) q s.leads in
      let h = via (λ (h : Handing). let r : Sent = record { parcel = h.parcel; result = settles s.from at.place h.outcome } in Some r) (handed s.from.seen p.from.frame p.from.part) q p.leads in
      sent_as at (record { parcel = h.from.parcel; result = settles s.from at.place h.from.outcome }) q h.leads
      (acts_by (λ a f. Hands a f h.from.parcel) at s.from p.from h.from.outcome s.is p.is (handed_is s.from.seen p.from.frame p.from.part h.from h.is))

  abbrev takes_in : ParcelView → Standing → Place → ActivePart → Option (Result Process Trouble)
  takes_in q s place p = option_and_then (λ (d : Outcome). Some (settles s place d)) (taken s.seen p.frame q p.part)

  abbrev takes_of : ParcelView → Place → Standing → Option (Result Process Trouble)
  takes_of q place s = option_and_then (takes_in q s place) (part_at s place)

  abbrev takes : ParcelView → End → Option (Result Process Trouble)
  takes q at = option_and_then (takes_of q at.place) (process_at at.process)

  takes_is : (sent : ParcelView) (at : End) (q : Result Process Trouble) → takes sent at ≡ Some q → Acts setting c (λ a f. Takes a f sent) at q
  takes_is sent at q e =
      let s = via (takes_of sent at.place) (process_at at.process) q e in
      let p = via (takes_in sent s.from at.place) (part_at s.from at.place) q s.leads in
      let d = via (λ (d : Outcome). Some (settles s.from at.place d)) (taken s.from.seen p.from.frame sent p.from.part) q p.leads in
      subst (Acts setting c (λ a f. Takes a f sent) at) (some_is d.leads) (acts_by (λ a f. Takes a f sent) at s.from p.from d.from s.is p.is (taken_is s.from.seen p.from.frame sent p.from.part d.from d.is))

  -- What follows

  -- the parcel that the sender of a communication hands over, and that of the action
  abbrev pub parcel_sent : Action → Option ParcelView
  parcel_sent (Internal at kind pos) = None
  parcel_sent (Comm w sender receiver message p) = option_and_then (λ (s : Sent). Some s.parcel) (sends sender)

  abbrev pub parcel_named : Action → Option ParcelView
  parcel_named (Internal at kind pos) = None
  parcel_named (Comm w sender receiver message p) = Some p

  abbrev both : End → End → Result Process Trouble → Result Process Trouble → Result Config Trouble
  both sender receiver sent received = and_then sent (λ p. and_then received (λ q. Ok (with_both c sender receiver p q)))

  abbrev pub follows : Action → Option (Result Config Trouble)
  follows (Internal at kind pos) = option_and_then (λ (q : Result Process Trouble). let r : Result Config Trouble = and_then q (λ p. Ok (with_process c at.process p)) in Some r) (performs at)
  follows (Comm w sender receiver message p) = option_and_then (λ (s : Sent). option_and_then (λ (q : Result Process Trouble). Some (both sender receiver s.result q)) (takes p receiver)) (sends sender)

  pub follows_is : (a : Action) (next : Result Config Trouble) → parcel_sent a ≡ parcel_named a → follows a ≡ Some next → Next setting c a next
  follows_is (Internal at kind pos) next agrees e =
      let q = via (λ (q : Result Process Trouble). let r : Result Config Trouble = and_then q (λ p. Ok (with_process c at.process p)) in Some r) (performs at) next e in
      subst (Next setting c (Internal at kind pos)) (some_is q.leads) (steps.internal at kind pos q.from (performs_is at q.from q.is))
  follows_is (Comm w sender receiver message p) next agrees e =
      let s = via (λ (s : Sent). option_and_then (λ (q : Result Process Trouble). Some (both sender receiver s.result q)) (takes p receiver)) (sends sender) next e in
      let q = via (λ (q : Result Process Trouble). Some (both sender receiver s.from.result q)) (takes p receiver) next s.leads in
      let same : s.from.parcel ≡ p = some_is (sym (ap (λ (o : Option Sent). option_and_then (λ (z : Sent). Some z.parcel) o) s.is) ∙ agrees) in
      subst (Next setting c (Comm w sender receiver message p)) (some_is q.leads)
      (steps.communication w sender receiver message p s.from.result q.from
      (subst (λ (x : ParcelView). Acts setting c (λ a f. Hands a f x) sender s.from.result) same (sends_is sender s.from s.is)) (takes_is p receiver q.from q.is))
