-- What the rules derive of a configuration, computed, where no process stands in a cluster: the actions
-- that it offers, the troubles, and what is left of its active delays.
use Rattle.std.proofs.Common.{◌≡◌, ◌+◌, ℕ, zero, suc, Bool, true, false, List, [], ◌∷◌, ◌++◌, map, length, Option, Some, None, Result, Ok, Err, refl, sym, subst, ap, ◌∙◌, arith}
use Rattle.std.specs.Prelude.{slice_get, nat_eq, nat_le, not, ◌&&◌, if◌then◌else◌}
use Rattle.std.specs.Str.{bytes_eq}
use Rattle.std.specs.List.{All, Contains, filter_map, flat_map}
use Rattle.std.proofs.lemmas.Bool.{and_parts, and_from, not-true, not_from_false, eqb-true, eq-eqb, eqb-false, ne_eqb, leb-true, leb-false}
use Rattle.std.proofs.lemmas.Option.{slice_get_within}
use Rattle.std.proofs.lemmas.List.Elements.{All-nil, All-cons, All-map, All-append, All-weaker, Contains-append_left, Contains-append_right}
use Rattle.std.proofs.lemmas.Slice.Eq.{bytes_eq-Decides}
use Rattle.pz_bind_rules.specs.pz_syntax.declared.tokens.Pos.{Pos}
use Rattle.pz_bind_rules.specs.pz_syntax.declared.names.Id.{Id}
use Rattle.pz_bind_rules.specs.pz_syntax.Expressions as ours
use Rattle.pz_bind_rules.specs.pz_syntax.Statements.{receive}
use Rattle.pz_bind_rules.specs.pz_value.declared.value.ClassId.{ClassId}
use Rattle.pz_bind_rules.specs.pz_classes_code.declared.slot.Slot.{Slot}
use Rattle.pz_offer.specs.pz_state.States.{object_limit}
use Rattle.pz_offer.specs.pz_state.declared.fault.FaultKind.TheVariants.{StoreFull}
use Rattle.pz_offer.specs.pz_copy.Parcels.{ParcelView}
use Rattle.pz_bind_levels.specs.Places.{Address}
use Rattle.pz_bind_rules.specs.Nest.{processes, class_at}
use Rattle.pz_bind_rules.specs.Wires.{wires}
use Rattle.pz_offer.specs.declared.end.End.{End}
use Rattle.pz_offer.specs.declared.trouble.Trouble.{Trouble}
use Rattle.pz_rules.specs.declared.action.Action.{Action}
use Rattle.pz_rules.specs.declared.action.Action.TheVariants.{Internal, Comm}
use Rattle.pz_rules.specs.Terms.{Code, Step, Term, leaf}
use Rattle.pz_rules.specs.Settings.{Setting, Process, Context, in_state}
use Rattle.pz_rules.specs.Meanings.{fault}
use Rattle.pz_rules.specs.Messages as messages
use Rattle.pz_rules.specs.Messages.{Receives, bound, Judges}
use Rattle.pz_rules.specs.Ports.{IsWire}
use Rattle.pz_rules.specs.Configurations.{Config, Stands}
use Rattle.pz_rules.specs.Offers.{IsPair, IsJudged, Offers, internal, communication, IsOffers}
use Rattle.pz_rules.specs.Moments.{Source, Troubles, asked, judged, IsLeft}
use Rattle.pz_rules.specs.devices.Found.{tested}
use Rattle.pz_rules.specs.devices.Walk.{ActivePart, active_parts, Doing, does, ActiveSend, sent_by, ActiveReceive, received_by, waiting, trouble_of, troubled_by}
use Rattle.pz_rules.proofs.Found.{tests_found}
use Rattle.pz_rules.proofs.Lists.{Contains-later, Contains-map, Contains-filter_map, All-filter_map}
use Rattle.pz_rules.proofs.Locals.{some_is, no_some, does_complete, does_sound, sends_complete, sends_sound, delays_complete, delays_sound, asks_complete, receives_complete, receives_sound}
use Rattle.pz_rules.proofs.Walked.{IsPart, part_at, listed, sound}
use Rattle.pz_rules.proofs.Finite.{all_in, is_in, up_to, below_every}
use Rattle.pz_rules.proofs.Derived.{Standing, Located, IsLocated, Sender, Receiver, IsSender, IsReceiver}
use Rattle.pz_rules.proofs.OneMoment.{judgement_once}
use Rattle.pz_rules.proofs.Moments.{NoTrouble}
use Rattle.pz_rules.proofs.worked.Wiring.{IsFlat, wired, wired_sound, wired_complete}
use Rattle.pz_rules.proofs.worked.Parcelled.{parcel, parcel_holds, parcel_only}
use Rattle.pz_rules.proofs.worked.Ordered.{ordered, is_ordered}

-- The processes, each at its place

abbrev pub standing : Setting → ℕ → ℕ → Address → Process → Standing
standing setting clock i place p = record { number = i; process = p; seen = record { setting = setting; process = i; class = class_at setting.model place; clock = clock; state = p.state } }

abbrev next_number : Standing → Standing
next_number s = record { number = suc s.number; process = s.process; seen = record s.seen { process = suc s.seen.process } }

abbrev standings : Setting → ℕ → List Address → List Process → List Standing
standings setting clock [] ps = []
standings setting clock (place ∷ places) [] = []
standings setting clock (place ∷ places) (p ∷ ps) = standing setting clock 0 place p ∷ map next_number (standings setting clock places ps)

module _ (setting : Setting) (clock : ℕ) where
  standing_there : (places : List Address) (ps : List Process) (i : ℕ) (place : Address) (p : Process) → slice_get places i ≡ Some place → slice_get ps i ≡ Some p → Contains (standings setting clock places ps) (standing setting clock i place p)
  standing_there [] ps i place p at is = no_some at
  standing_there (q ∷ places) [] i place p at is = no_some is
  standing_there (q ∷ places) (r ∷ ps) zero place p at is =
      (0, omega arith, ap (λ (z : Address). standing setting clock 0 z r) (some_is at) ∙ ap (λ (z : Process). standing setting clock 0 place z) (some_is is))
  standing_there (q ∷ places) (r ∷ ps) (suc i) place p at is =
      Contains-later (standing setting clock 0 q r) (map next_number (standings setting clock places ps)) (standing setting clock (suc i) place p)
      (Contains-map next_number (standings setting clock places ps) (standing setting clock i place p) (standing_there places ps i place p at is))

  pub record Here (places : List Address) (ps : List Process) (s : Standing) : Type 0 where
    pub place : Address
    pub is_place : slice_get places s.number ≡ Some place
    pub is_process : slice_get ps s.number ≡ Some s.process
    pub seen : s.seen ≡ record { setting = setting; process = s.number; class = class_at setting.model place; clock = clock; state = s.process.state }

  here_later : (q : Address) (r : Process) (places : List Address) (ps : List Process) (s : Standing) → Here places ps s → Here (q ∷ places) (r ∷ ps) (next_number s)
  here_later q r places ps s h = record { place = h.place; is_place = h.is_place; is_process = h.is_process; seen = ap (λ (a : Context). let b : Context = record a { process = suc a.process } in b) h.seen }

  all_here : (places : List Address) (ps : List Process) → All (Here places ps) (standings setting clock places ps)
  all_here [] ps = All-nil (Here [] ps)
  all_here (q ∷ places) [] = All-nil (Here (q ∷ places) [])
  all_here (q ∷ places) (r ∷ ps) =
      All-cons (Here (q ∷ places) (r ∷ ps)) (standing setting clock 0 q r) (map next_number (standings setting clock places ps))
      (record { place = q; is_place = refl; is_process = refl; seen = refl })
      (All-map (Here (q ∷ places) (r ∷ ps)) next_number (standings setting clock places ps)
      (All-weaker (Here places ps) (λ s. Here (q ∷ places) (r ∷ ps) (next_number s)) (λ s h. here_later q r places ps s h) (standings setting clock places ps) (all_here places ps)))

-- What a receive says of a parcel

module _ (a : Context) (f : ℕ) (p : ParcelView) where
  abbrev fits : Bool
  fits = nat_le (length a.state.objects + length p.objects) object_limit

  abbrev condition_says : Pos → Option (List Slot) → Option Code → Result Bool Trouble
  condition_says at into None = Ok true
  condition_says at into (Some test) = if fits then tested (in_state a (bound a f into p)) f at test else fault StoreFull a.process at

  abbrev step_says : Step → Result Bool Trouble
  step_says (receive at port name into condition after) = condition_says at into condition
  step_says s = Ok false

  abbrev says : Term → Result Bool Trouble
  says (leaf s) = step_says s
  says t = Ok false

  condition_is : (at : Pos) (port : ℕ) (name : Id) (into : Option (List Slot)) (condition : Option Code) (after : ours.Part Slot ClassId) → Judges a f p (leaf (receive at port name into condition after)) (condition_says at into condition)
  condition_is at port name into None after = messages.free at port name into after
  condition_is at port name into (Some test) after = by fits refl
    where
      by : (b : Bool) → fits ≡ b → Judges a f p (leaf (receive at port name into (Some test) after)) (if b then tested (in_state a (bound a f into p)) f at test else fault StoreFull a.process at)
      by true is =
          messages.asks at port name into test after (tested (in_state a (bound a f into p)) f at test)
          (leb-true (length a.state.objects + length p.objects) object_limit is) (tests_found (in_state a (bound a f into p)) f at test)
      by false is = messages.unfit at port name into test after (λ h. omega (arith, h, leb-false (length a.state.objects + length p.objects) object_limit is))

  says_is : (t : Term) (pos : Pos) (port : ℕ) (message : List ℕ) (count : ℕ) → Receives t pos port message count → Judges a f p t (says t)
  says_is _ _ _ _ _ (messages.receives at port name into condition after) = condition_is at port name into condition after

pub record Meeting : Type 0 where
  pub sender : Sender
  pub receiver : Receiver
  pub wire : ℕ

abbrev met : Bool → Sender → Receiver → ℕ → Option Meeting
met true s r w = Some (record { sender = s; receiver = r; wire = w })
met false s r w = None

abbrev parcel_of : Sender → ParcelView
parcel_of s = parcel s.sending.state s.sending.values

module _ (setting : Setting) (c : Config) where
  abbrev pub here : List Standing
  here = standings setting c.clock (processes setting.model) c.processes

  abbrev pub IsHere : Standing → Type 0
  IsHere s = Here setting c.clock (processes setting.model) c.processes s

  pub all_stand : All IsHere here
  all_stand = all_here setting c.clock (processes setting.model) c.processes

  pub stands_here : (s : Standing) → IsHere s → Stands setting c s.number s.process s.seen
  stands_here s h = record { place = h.place; is_process = h.is_place; is_here = h.is_process; seen = h.seen }

  -- Active parts

  abbrev located_at : Standing → ActivePart → Located
  located_at s p = record { end = record { process = s.number; place = p.place }; seen = s.seen; frame = p.frame; part = p.part }

  abbrev parts_of : Standing → List Located
  parts_of s = map (located_at s) (active_parts s.seen 0 s.process.term)

  abbrev parts : List Located
  parts = flat_map parts_of here

  parts_located : (s : Standing) → IsHere s → All (IsLocated setting c) (parts_of s)
  parts_located s h =
      All-map (IsLocated setting c) (located_at s) (active_parts s.seen 0 s.process.term)
      (All-weaker (IsPart s.seen 0 s.process.term) (λ p. IsLocated setting c (located_at s p)) (λ p active. record { process = s.process; stands = stands_here s h; active = active })
      (active_parts s.seen 0 s.process.term) (sound s.seen 0 s.process.term))

  all_located : All (IsLocated setting c) parts
  all_located = all_in IsHere (IsLocated setting c) parts_of here (λ s h. parts_located s h) all_stand

  every_located : (l : Located) → IsLocated setting c l → Contains parts l
  every_located l x =
      let s : Standing = record { number = l.end.process; process = x.process; seen = l.seen } in
      let there : Contains here s =
      subst (λ (a : Context). let z : Standing = record { number = l.end.process; process = x.process; seen = a } in Contains here z) (sym x.stands.seen)
      (standing_there setting c.clock (processes setting.model) c.processes l.end.process x.stands.place x.process x.stands.is_process x.stands.is_here) in
      is_in parts_of here s l there (Contains-map (located_at s) (active_parts l.seen 0 x.process.term) (part_at l.end.place l.frame l.part) (listed l.seen 0 x.process.term l.end.place l.frame l.part x.active))

  -- Internal actions

  abbrev action_of : Located → Option Doing → Option Action
  action_of l None = None
  action_of l (Some d) = Some (Internal l.end d.kind d.pos)

  abbrev action_by : Located → Option Action
  action_by l = action_of l (does l.seen l.frame l.part)

  abbrev internals : List Action
  internals = filter_map action_by parts

  action_sound : (l : Located) (a : Action) (o : Option Doing) → IsLocated setting c l → does l.seen l.frame l.part ≡ o → action_of l o ≡ Some a → Offers setting c a
  action_sound l a None h is e = no_some e
  action_sound l a (Some d) h is e = subst (Offers setting c) (some_is e) (internal l.end l.seen l.frame l.part d.kind d.pos h (does_sound l.seen l.frame l.part d is))

  all_internals : All (Offers setting c) internals
  all_internals = All-filter_map action_by (IsLocated setting c) (Offers setting c) parts (λ l a h e. action_sound l a (does l.seen l.frame l.part) h refl e) all_located

  -- What is left of active delays

  abbrev left_by : Located → Option ℕ
  left_by l = waiting l.seen l.frame l.part

  abbrev pub lefts : List ℕ
  lefts = filter_map left_by parts

  pub all_lefts : All (IsLeft setting c) lefts
  all_lefts =
      All-filter_map left_by (IsLocated setting c) (IsLeft setting c) parts
      (λ l d h e. record { at = l.end; seen = l.seen; frame = l.frame; part = l.part; active = h; delays = delays_sound l.seen l.frame l.part d e }) all_located

  pub every_left : (d : ℕ) → IsLeft setting c d → Contains lefts d
  every_left d x =
      Contains-filter_map left_by parts (record { end = x.at; seen = x.seen; frame = x.frame; part = x.part }) d
      (every_located (record { end = x.at; seen = x.seen; frame = x.frame; part = x.part }) x.active) (delays_complete x.seen x.frame x.part d x.delays)

  -- The troubles of what is asked

  abbrev asked_by : Located → Option Trouble
  asked_by l = troubled_by l.seen l.frame l.part

  abbrev questions : List Trouble
  questions = filter_map asked_by parts

  -- Sends and receives

  abbrev sender_of : Located → Option ActiveSend → Option Sender
  sender_of l None = None
  sender_of l (Some x) = Some (record { at = l; sending = x })

  abbrev sender_by : Located → Option Sender
  sender_by l = sender_of l (sent_by l.seen l.frame l.part)

  abbrev senders : List Sender
  senders = filter_map sender_by parts

  sender_sound : (l : Located) (s : Sender) (o : Option ActiveSend) → IsLocated setting c l → sent_by l.seen l.frame l.part ≡ o → sender_of l o ≡ Some s → IsSender setting c s
  sender_sound l s None h is e = no_some e
  sender_sound l s (Some x) h is e = subst (IsSender setting c) (some_is e) (h, is)

  all_senders : All (IsSender setting c) senders
  all_senders = All-filter_map sender_by (IsLocated setting c) (IsSender setting c) parts (λ l s h e. sender_sound l s (sent_by l.seen l.frame l.part) h refl e) all_located

  every_sender : (s : Sender) → IsSender setting c s → Contains senders s
  every_sender s h = Contains-filter_map sender_by parts s.at s (every_located s.at h.0) (ap (sender_of s.at) h.1)

  abbrev receiver_of : Located → Option ActiveReceive → Option Receiver
  receiver_of l None = None
  receiver_of l (Some x) = Some (record { at = l; receiving = x })

  abbrev receiver_by : Located → Option Receiver
  receiver_by l = receiver_of l (received_by l.part)

  abbrev receivers : List Receiver
  receivers = filter_map receiver_by parts

  receiver_sound : (l : Located) (r : Receiver) (o : Option ActiveReceive) → IsLocated setting c l → received_by l.part ≡ o → receiver_of l o ≡ Some r → IsReceiver setting c r
  receiver_sound l r None h is e = no_some e
  receiver_sound l r (Some x) h is e = subst (IsReceiver setting c) (some_is e) (h, is)

  all_receivers : All (IsReceiver setting c) receivers
  all_receivers = All-filter_map receiver_by (IsLocated setting c) (IsReceiver setting c) parts (λ l r h e. receiver_sound l r (received_by l.part) h refl e) all_located

  every_receiver : (r : Receiver) → IsReceiver setting c r → Contains receivers r
  every_receiver r h = Contains-filter_map receiver_by parts r.at r (every_located r.at h.0) (ap (receiver_of r.at) h.1)

  -- Those that fit

  pub record Meets (s : Sender) (r : Receiver) (w : ℕ) : Type 0 where
    pub two : s.at.end.process ≡ r.at.end.process → ⊥
    pub message : s.sending.message ≡ r.receiving.message
    pub count : length (parcel_of s).values ≡ r.receiving.count
    pub sent_on : IsWire setting.model s.at.end.process s.sending.port w
    pub received_on : IsWire setting.model r.at.end.process r.receiving.port w

  abbrev on_wire : Sender → Receiver → ℕ → Bool
  on_wire s r w = wired setting.model s.at.end.process s.sending.port w && wired setting.model r.at.end.process r.receiving.port w

  abbrev alike : Sender → Receiver → Bool
  alike s r = bytes_eq s.sending.message r.receiving.message && nat_eq (length (parcel_of s).values) r.receiving.count

  abbrev meets : Sender → Receiver → ℕ → Bool
  meets s r w = not (nat_eq s.at.end.process r.at.end.process) && (alike s r && on_wire s r w)

  meets_sound : (s : Sender) (r : Receiver) (w : ℕ) → meets s r w ≡ true → Meets s r w
  meets_sound s r w is =
      let first = and_parts (not (nat_eq s.at.end.process r.at.end.process)) (alike s r && on_wire s r w) is in
      let second = and_parts (alike s r) (on_wire s r w) first.1 in
      let same = and_parts (bytes_eq s.sending.message r.receiving.message) (nat_eq (length (parcel_of s).values) r.receiving.count) second.0 in
      let on = and_parts (wired setting.model s.at.end.process s.sending.port w) (wired setting.model r.at.end.process r.receiving.port w) second.1 in
      record {
        two = eqb-false s.at.end.process r.at.end.process (not-true (nat_eq s.at.end.process r.at.end.process) first.0);
        message = (bytes_eq-Decides s.sending.message r.receiving.message).0 same.0;
        count = eqb-true (length (parcel_of s).values) r.receiving.count same.1;
        sent_on = wired_sound setting.model s.at.end.process s.sending.port w on.0;
        received_on = wired_sound setting.model r.at.end.process r.receiving.port w on.1;
      }

  meets_complete : IsFlat setting.model → (s : Sender) (r : Receiver) (w : ℕ) → Meets s r w → meets s r w ≡ true
  meets_complete flat s r w h =
      and_from (not (nat_eq s.at.end.process r.at.end.process)) (alike s r && on_wire s r w) (not_from_false (nat_eq s.at.end.process r.at.end.process) (ne_eqb s.at.end.process r.at.end.process h.two))
      (and_from (alike s r) (on_wire s r w)
      (and_from (bytes_eq s.sending.message r.receiving.message) (nat_eq (length (parcel_of s).values) r.receiving.count) ((bytes_eq-Decides s.sending.message r.receiving.message).1 h.message) (eq-eqb (length (parcel_of s).values) r.receiving.count h.count))
      (and_from (wired setting.model s.at.end.process s.sending.port w) (wired setting.model r.at.end.process r.receiving.port w) (wired_complete setting.model flat s.at.end.process s.sending.port w h.sent_on) (wired_complete setting.model flat r.at.end.process r.receiving.port w h.received_on)))

  pub record IsMeeting (m : Meeting) : Type 0 where
    pub sender : IsSender setting c m.sender
    pub receiver : IsReceiver setting c m.receiver
    pub they_meet : Meets m.sender m.receiver m.wire

  abbrev meeting_by : Sender → Receiver → ℕ → Option Meeting
  meeting_by s r w = met (meets s r w) s r w

  abbrev numbers : List ℕ
  numbers = up_to (length (wires setting.model))

  abbrev meetings_of : Sender → Receiver → List Meeting
  meetings_of s r = filter_map (meeting_by s r) numbers

  abbrev meetings_with : Sender → List Meeting
  meetings_with s = flat_map (meetings_of s) receivers

  abbrev meetings : List Meeting
  meetings = flat_map meetings_with senders

  meeting_sound : (s : Sender) (r : Receiver) (w : ℕ) (m : Meeting) (b : Bool) → IsSender setting c s → IsReceiver setting c r → meets s r w ≡ b → met b s r w ≡ Some m → IsMeeting m
  meeting_sound s r w m false hs hr is e = no_some e
  meeting_sound s r w m true hs hr is e = subst IsMeeting (some_is e) (record { sender = hs; receiver = hr; they_meet = meets_sound s r w is })

  all_meetings : All IsMeeting meetings
  all_meetings =
      all_in (IsSender setting c) IsMeeting meetings_with senders
      (λ s hs. all_in (IsReceiver setting c) IsMeeting (meetings_of s) receivers
      (λ r hr. All-filter_map (meeting_by s r) (λ w. Unit {0}) IsMeeting numbers (λ w m h e. meeting_sound s r w m (meets s r w) hs hr refl e) (λ k d within. tt)) all_receivers)
      all_senders

  every_meeting : IsFlat setting.model → (m : Meeting) → IsMeeting m → Contains meetings m
  every_meeting flat m h =
      let wire = h.they_meet.sent_on.has_wire in
      let number : Contains numbers m.wire = below_every (length (wires setting.model)) m.wire (slice_get_within (wires setting.model) m.wire wire.last wire.there) in
      is_in meetings_with senders m.sender m (every_sender m.sender h.sender)
      (is_in (meetings_of m.sender) receivers m.receiver m (every_receiver m.receiver h.receiver)
      (Contains-filter_map (meeting_by m.sender m.receiver) numbers m.wire m number (ap (λ (b : Bool). met b m.sender m.receiver m.wire) (meets_complete flat m.sender m.receiver m.wire h.they_meet))))

  pub pair_is : (m : Meeting) → IsMeeting m → IsPair setting c m.wire m.sender.at.end m.receiver.at.end m.sender.sending.message (parcel_of m.sender)
  pair_is m h =
      let s : Sender = m.sender in
      let r : Receiver = m.receiver in
      record {
        sends_at = s.at.seen;
        sends_frame = s.at.frame;
        sends_part = s.at.part;
        sender_active = h.sender.0;
        sends_pos = s.sending.pos;
        sends_port = s.sending.port;
        sends = sends_sound s.at.seen s.at.frame s.at.part s.sending (parcel_of s) h.sender.1 (parcel_holds s.sending.state s.sending.values);
        receives_at = r.at.seen;
        receives_frame = r.at.frame;
        receives_part = r.at.part;
        receiver_active = h.receiver.0;
        receives_pos = r.receiving.pos;
        receives_port = r.receiving.port;
        receives =
            subst (λ (n : ℕ). Receives r.at.part r.receiving.pos r.receiving.port s.sending.message n) (sym h.they_meet.count)
            (subst (λ (name : List ℕ). Receives r.at.part r.receiving.pos r.receiving.port name r.receiving.count) (sym h.they_meet.message) (receives_sound r.at.part r.receiving h.receiver.1));
        two = h.they_meet.two;
        sender_wire = h.they_meet.sent_on;
        receiver_wire = h.they_meet.received_on;
      }

  abbrev verdict : Meeting → Result Bool Trouble
  verdict m = says m.receiver.at.seen m.receiver.at.frame (parcel_of m.sender) m.receiver.at.part

  judged_so : (m : Meeting) → IsMeeting m → IsJudged setting c m.receiver.at.end (parcel_of m.sender) (verdict m)
  judged_so m h =
      let r : Receiver = m.receiver in
      record {
        seen = r.at.seen;
        frame = r.at.frame;
        part = r.at.part;
        active = h.receiver.0;
        judges = says_is r.at.seen r.at.frame (parcel_of m.sender) r.at.part r.receiving.pos r.receiving.port r.receiving.message r.receiving.count (receives_sound r.at.part r.receiving h.receiver.1);
      }

  -- a pair is one of them
  pub record Found (w : ℕ) (sender receiver : End) (message : List ℕ) (p : ParcelView) : Type 0 where
    pub meeting : Meeting
    pub is_meeting : IsMeeting meeting
    pub wire : meeting.wire ≡ w
    pub sent_at : meeting.sender.at.end ≡ sender
    pub received_at : meeting.receiver.at.end ≡ receiver
    pub named : meeting.sender.sending.message ≡ message
    pub parcel : parcel_of meeting.sender ≡ p

  pub pair_found : (w : ℕ) (sender receiver : End) (message : List ℕ) (p : ParcelView) → IsPair setting c w sender receiver message p → Found w sender receiver message p
  pair_found w sender receiver message p x =
      let packs = sends_complete x.sends_at x.sends_frame x.sends_part x.sends_pos x.sends_port message p x.sends in
      let s : Sender = record { at = record { end = sender; seen = x.sends_at; frame = x.sends_frame; part = x.sends_part }; sending = record { pos = x.sends_pos; port = x.sends_port; message = message; values = packs.values; state = packs.state } } in
      let r : Receiver = record { at = record { end = receiver; seen = x.receives_at; frame = x.receives_frame; part = x.receives_part }; receiving = record { pos = x.receives_pos; port = x.receives_port; message = message; count = length p.values } } in
      let same : p ≡ parcel packs.state packs.values = parcel_only packs.state packs.values p packs.packed in
      record {
        meeting = record { sender = s; receiver = r; wire = w };
        is_meeting = record {
          sender = (x.sender_active, packs.is);
          receiver = (x.receiver_active, receives_complete x.receives_part x.receives_pos x.receives_port message (length p.values) x.receives);
          they_meet = record { two = x.two; message = refl; count = ap (λ (q : ParcelView). length q.values) (sym same); sent_on = x.sender_wire; received_on = x.receiver_wire };
        };
        wire = refl;
        sent_at = refl;
        received_at = refl;
        named = refl;
        parcel = sym same;
      }

  -- and has one verdict
  verdict_is : (w : ℕ) (sender receiver : End) (message : List ℕ) (p : ParcelView) (v : Result Bool Trouble) → (f : Found w sender receiver message p) → IsJudged setting c receiver p v → verdict f.meeting ≡ v
  verdict_is w sender receiver message p v f x =
      judgement_once setting c receiver p (verdict f.meeting) v
      (subst (λ (e : End). IsJudged setting c e p (verdict f.meeting)) f.received_at (subst (λ (q : ParcelView). IsJudged setting c f.meeting.receiver.at.end q (verdict f.meeting)) f.parcel (judged_so f.meeting f.is_meeting))) x

  -- Communications

  abbrev comm_of : Meeting → Action
  comm_of m = Comm m.wire m.sender.at.end m.receiver.at.end m.sender.sending.message (parcel_of m.sender)

  abbrev comm_if : Meeting → Result Bool Trouble → Option Action
  comm_if m (Ok true) = Some (comm_of m)
  comm_if m (Ok false) = None
  comm_if m (Err t) = None

  abbrev comm_by : Meeting → Option Action
  comm_by m = comm_if m (verdict m)

  abbrev comms : List Action
  comms = filter_map comm_by meetings

  comm_sound : (m : Meeting) (a : Action) (v : Result Bool Trouble) → IsMeeting m → IsJudged setting c m.receiver.at.end (parcel_of m.sender) v → comm_if m v ≡ Some a → Offers setting c a
  comm_sound m a (Ok true) h says_so e = subst (Offers setting c) (some_is e) (communication m.wire m.sender.at.end m.receiver.at.end m.sender.sending.message (parcel_of m.sender) (pair_is m h) says_so)
  comm_sound m a (Ok false) h says_so e = no_some e
  comm_sound m a (Err t) h says_so e = no_some e

  all_comms : All (Offers setting c) comms
  all_comms = All-filter_map comm_by IsMeeting (Offers setting c) meetings (λ m a h e. comm_sound m a (verdict m) h (judged_so m h) e) all_meetings

  same_comm : (w : ℕ) (sender receiver : End) (message : List ℕ) (p : ParcelView) → (f : Found w sender receiver message p) → comm_of f.meeting ≡ Comm w sender receiver message p
  same_comm w sender receiver message p f =
      ap (λ (n : ℕ). Comm n f.meeting.sender.at.end f.meeting.receiver.at.end f.meeting.sender.sending.message (parcel_of f.meeting.sender)) f.wire
      ∙ ap (λ (e : End). Comm w e f.meeting.receiver.at.end f.meeting.sender.sending.message (parcel_of f.meeting.sender)) f.sent_at
      ∙ ap (λ (e : End). Comm w sender e f.meeting.sender.sending.message (parcel_of f.meeting.sender)) f.received_at
      ∙ ap (λ (name : List ℕ). Comm w sender receiver name (parcel_of f.meeting.sender)) f.named
      ∙ ap (λ (q : ParcelView). Comm w sender receiver message q) f.parcel

  module _ (flat : IsFlat setting.model) where
    every_comm : (w : ℕ) (sender receiver : End) (message : List ℕ) (p : ParcelView) → IsPair setting c w sender receiver message p → IsJudged setting c receiver p (Ok true) → Contains comms (Comm w sender receiver message p)
    every_comm w sender receiver message p x says_so =
        let f = pair_found w sender receiver message p x in
        Contains-filter_map comm_by meetings f.meeting (Comm w sender receiver message p) (every_meeting flat f.meeting f.is_meeting)
        (ap (comm_if f.meeting) (verdict_is w sender receiver message p (Ok true) f says_so) ∙ ap (λ (a : Action). Some a) (same_comm w sender receiver message p f))

  -- Offers

  abbrev pub offered : List Action
  offered = internals ++ comms

  all_offered : All (Offers setting c) offered
  all_offered = All-append (Offers setting c) internals comms all_internals all_comms

  every_offered : IsFlat setting.model → (a : Action) → Offers setting c a → Contains offered a
  every_offered flat _ (internal at a frame part kind pos stands can) =
      Contains-append_left internals comms (Internal at kind pos)
      (Contains-filter_map action_by parts (record { end = at; seen = a; frame = frame; part = part }) (Internal at kind pos)
      (every_located (record { end = at; seen = a; frame = frame; part = part }) stands) (ap (action_of (record { end = at; seen = a; frame = frame; part = part })) (does_complete a frame part kind pos can)))
  every_offered flat _ (communication w sender receiver message p is_pair is_judged) =
      Contains-append_right internals comms (Comm w sender receiver message p) (every_comm flat w sender receiver message p is_pair is_judged)

  pub offers_are : IsFlat setting.model → (actions : List Action) → offered ≡ actions → ordered actions ≡ true → IsOffers setting c actions
  offers_are flat actions is in_order =
      record {
        ordered = is_ordered actions in_order;
        derivable = subst (All (Offers setting c)) is all_offered;
        every = λ a offer. subst (λ (all : List Action). Contains all a) is (every_offered flat a offer);
      }

  -- Troubles

  abbrev wrong_by : Meeting → Option Trouble
  wrong_by m = trouble_of (verdict m)

  abbrev pub troubles : List Trouble
  troubles = questions ++ filter_map wrong_by meetings

  trouble_there : IsFlat setting.model → (source : Source) (t : Trouble) → Troubles setting c source t → Contains troubles t
  trouble_there flat _ _ (asked at a f part t stands asks) =
      Contains-append_left questions (filter_map wrong_by meetings) t
      (Contains-filter_map asked_by parts (record { end = at; seen = a; frame = f; part = part }) t
      (every_located (record { end = at; seen = a; frame = f; part = part }) stands) (asks_complete a f part t asks))
  trouble_there flat _ _ (judged w sender receiver message p t is_pair is_judged) =
      let f = pair_found w sender receiver message p is_pair in
      Contains-append_right questions (filter_map wrong_by meetings) t
      (Contains-filter_map wrong_by meetings f.meeting t (every_meeting flat f.meeting f.is_meeting) (ap (λ (v : Result Bool Trouble). trouble_of v) (verdict_is w sender receiver message p (Err t) f is_judged)))

  pub no_troubles : IsFlat setting.model → troubles ≡ [] → NoTrouble setting c
  no_troubles flat none source t h = let k = (subst (λ (ts : List Trouble). Contains ts t) none (trouble_there flat source t h)).1 in omega (arith, k)
