-- All that the rules derive of a configuration can be listed.
use Rattle.std.proofs.Common.{◌≡◌, ◌<◌, ◌≤◌, ◌+◌, ◌⊎◌, inl, inr, ℕ, Bool, true, false, List, [], ◌∷◌, length, Option, Some, None, Result, Ok, Err, refl, sym, subst, ap, ◌∙◌, arith}
use Rattle.std.specs.Prelude.{slice_get}
use Rattle.std.proofs.lemmas.Bool.{cases_lt}
use Rattle.std.proofs.lemmas.Option.{slice_get_within}
use Rattle.pz_bind_rules.specs.pz_syntax.declared.tokens.Pos.{Pos}
use Rattle.pz_bind_rules.specs.pz_syntax.declared.names.Id.{Id}
use Rattle.pz_bind_rules.specs.pz_syntax.Expressions as ours
use Rattle.pz_bind_rules.specs.pz_syntax.Statements.{receive}
use Rattle.pz_bind_rules.specs.pz_value.declared.value.ClassId.{ClassId}
use Rattle.pz_bind_rules.specs.pz_classes_code.declared.slot.Slot.{Slot}
use Rattle.pz_offer.specs.pz_state.States.{object_limit}
use Rattle.pz_offer.specs.pz_state.declared.fault.FaultKind.TheVariants.{StoreFull}
use Rattle.pz_offer.specs.pz_copy.Parcels.{ParcelView}
use Rattle.pz_bind_levels.specs.Places.{Address}
use Rattle.pz_bind_rules.specs.Nest.{processes, class_at}
use Rattle.pz_offer.specs.declared.end.End.{End}
use Rattle.pz_offer.specs.PlaceOrder.{EndBefore}
use Rattle.pz_offer.specs.declared.trouble.Trouble.{Trouble}
use Rattle.pz_rules.specs.declared.action.Action.{Action}
use Rattle.pz_rules.specs.declared.action.Action.TheVariants.{Internal, Comm}
use Rattle.pz_rules.specs.Terms.{Code, Step, Term, leaf}
use Rattle.pz_rules.specs.Settings.{Setting, Process, Context, in_state}
use Rattle.pz_rules.specs.Meanings.{fault}
use Rattle.pz_rules.specs.Messages as messages
use Rattle.pz_rules.specs.Messages.{Sends, Receives, Fits, bound, Judges}
use Rattle.pz_rules.specs.Ports.{HasWires}
use Rattle.pz_rules.specs.Configurations.{Config, Stands}
use Rattle.pz_rules.specs.Offers.{PartAt, IsPair, IsJudged, Offers, internal, communication}
use Rattle.pz_rules.specs.Moments.{Source, part, pair, Troubles, asked, judged, IsLeft}
use Rattle.pz_rules.specs.devices.Found.{tested}
use Rattle.pz_rules.specs.devices.Walk.{ActivePart, active_parts, Doing, does, ActiveSend, sent_by, ActiveReceive, received_by, waiting, trouble_of, troubled_by}
use Rattle.pz_rules.proofs.Found.{tests_found}
use Rattle.pz_rules.proofs.Locals.{some_is, no_some, does_complete, does_sound, sends_complete, sends_sound, delays_complete, delays_sound, asks_complete, asks_sound, receives_complete, receives_sound}
use Rattle.pz_rules.proofs.Walked.{IsPart, listed, sound}
use Rattle.pz_rules.proofs.Orders.{Either, end_order, end_irreflexive}
use Rattle.pz_rules.proofs.Once.{judges_once, judged as judged_by}
use Rattle.pz_rules.proofs.Parcels.{the_parcel, parcel_is, parcel_once}
use Rattle.pz_rules.proofs.Finite.{Known, Finite, alike, nothing, just, from_option, where_known, either, bind, below}

-- What is known

pub number_known : (m n : ℕ) → Known (m ≡ n)
number_known m n = by (cases_lt m n) (cases_lt n m)
  where
    by : (m < n) ⊎ (n ≤ m) → (n < m) ⊎ (m ≤ n) → Known (m ≡ n)
    by (inl less) other = inr (λ e. omega (arith, less, e))
    by (inr more) (inl after) = inr (λ e. omega (arith, after, e))
    by (inr more) (inr less) = inl (omega (arith, more, less))

pub at_most_known : (m n : ℕ) → Known (m ≤ n)
at_most_known m n = by (cases_lt n m)
  where
    by : (n < m) ⊎ (m ≤ n) → Known (m ≤ n)
    by (inl less) = inr (λ h. omega (arith, less, h))
    by (inr within) = inl within

pub not_known : {A : Type 0} → Known A → Known (A → ⊥)
not_known (inl a) = inr (λ n. n a)
not_known (inr n) = inl n

head_of : {x y : ℕ} {xs ys : List ℕ} → x ∷ xs ≡ y ∷ ys → (x ≡ y) × (xs ≡ ys)
head_of e = (cc, cc)

no_cons : {P : Type 0} {x : ℕ} {xs : List ℕ} → [] ≡ x ∷ xs → P
no_cons {P} {x} {xs} e = absurd (differ e)
  where
    differ : [] ≡ x ∷ xs → ⊥
    differ d = cc

pub name_known : (xs ys : List ℕ) → Known (xs ≡ ys)
name_known [] [] = inl refl
name_known [] (y ∷ ys) = inr (λ e. no_cons e)
name_known (x ∷ xs) [] = inr (λ e. no_cons (sym e))
name_known (x ∷ xs) (y ∷ ys) = by (number_known x y) (name_known xs ys)
  where
    by : Known (x ≡ y) → Known (xs ≡ ys) → Known (x ∷ xs ≡ y ∷ ys)
    by (inl same) (inl rest) = inl (ap (λ z. z ∷ xs) same ∙ ap (λ zs. y ∷ zs) rest)
    by (inl same) (inr other) = inr (λ e. other (head_of e).1)
    by (inr other) rest = inr (λ e. other (head_of e).0)

end_known : (a b : End) → Known (a ≡ b)
end_known a b = by (end_order a b)
  where
    by : Either EndBefore a b → Known (a ≡ b)
    by (inl before) = inr (λ e. end_irreflexive b (subst (λ (x : End). EndBefore x b) e before))
    by (inr (inl same)) = inl same
    by (inr (inr after)) = inr (λ e. end_irreflexive b (subst (λ (x : End). EndBefore b x) e after))

-- What stands

-- a process by its number
pub record Standing : Type 0 where
  pub number : ℕ
  pub process : Process
  pub seen : Context

-- an active part by its end
pub record Located : Type 0 where
  pub end : End
  pub seen : Context
  pub frame : ℕ
  pub part : Term

-- a send or a receive by its end
pub record Sender : Type 0 where
  pub at : Located
  pub sending : ActiveSend

pub record Receiver : Type 0 where
  pub at : Located
  pub receiving : ActiveReceive

pub record Pair : Type 0 where
  pub number : ℕ
  pub sender : End
  pub receiver : End
  pub message : List ℕ
  pub parcel : ParcelView

pub record Blame : Type 0 where
  pub source : Source
  pub trouble : Trouble

some_known : (o : Option ℕ) (n : ℕ) → Known (o ≡ Some n)
some_known None n = inr (λ e. no_some e)
some_known (Some m) n = by (number_known m n)
  where
    by : Known (m ≡ n) → Known (Some m ≡ Some n)
    by (inl same) = inl (ap (λ k. Some k) same)
    by (inr other) = inr (λ e. other (some_is e))

-- a verdict that is true
true_known : (v : Result Bool Trouble) → Known (v ≡ Ok true)
true_known (Ok true) = inl refl
true_known (Ok false) = inr differ
  where
    differ : (let r : Result Bool Trouble = Ok false in r) ≡ Ok true → ⊥
    differ e = cc
true_known (Err t) = inr differ
  where
    differ : (let r : Result Bool Trouble = Err t in r) ≡ Ok true → ⊥
    differ e = cc

err_of : (v : Result Bool Trouble) (t : Trouble) → trouble_of v ≡ Some t → v ≡ Err t
err_of (Ok b) t e = no_some e
err_of (Err u) t e = ap (λ x. Err x) (some_is e)

-- What a receive says of a parcel
module _ (a : Context) (f : ℕ) (parcel : ParcelView) where
  fits_known : Known (Fits a parcel)
  fits_known = at_most_known (length a.state.objects + length parcel.objects) object_limit

  asked_now : (at : Pos) (port : ℕ) (name : Id) (into : Option (List Slot)) (test : Code) (after : ours.Part Slot ClassId) → Known (Fits a parcel) → Finite (Judges a f parcel (leaf (receive at port name into (Some test) after)))
  asked_now at port name into test after (inl fits) =
      let h = messages.asks at port name into test after (tested (in_state a (bound a f into parcel)) f at test) fits (tests_found (in_state a (bound a f into parcel)) f at test) in
      just (tested (in_state a (bound a f into parcel)) f at test) h (λ v k. judges_once a f parcel (leaf (receive at port name into (Some test) after)) v (tested (in_state a (bound a f into parcel)) f at test) k h)
  asked_now at port name into test after (inr unfit) =
      let h = messages.unfit at port name into test after unfit in
      just (fault StoreFull a.process at) h (λ v k. judges_once a f parcel (leaf (receive at port name into (Some test) after)) v (fault StoreFull a.process at) k h)

  conditions : (at : Pos) (port : ℕ) (name : Id) (into : Option (List Slot)) (condition : Option Code) (after : ours.Part Slot ClassId) → Finite (Judges a f parcel (leaf (receive at port name into condition after)))
  conditions at port name into None after =
      let h = messages.free at port name into after in
      just (Ok true) h (λ v k. judges_once a f parcel (leaf (receive at port name into None after)) v (Ok true) k h)
  conditions at port name into (Some test) after = asked_now at port name into test after fits_known

  statement_judgements : (s : Step) → Finite (Judges a f parcel (leaf s))
  statement_judgements (receive at port name into condition after) = conditions at port name into condition after
  statement_judgements s = nothing (λ v h. judged_by a f parcel (leaf s) v h)

  judgements : (t : Term) → Finite (Judges a f parcel t)
  judgements (leaf s) = statement_judgements s
  judgements t = nothing (λ v h. judged_by a f parcel t v h)

module _ (setting : Setting) (c : Config) where
  -- Processes

  abbrev IsStanding : Standing → Type 0
  IsStanding s = Stands setting c s.number s.process s.seen

  abbrev standing_at : ℕ → Address → Process → Standing
  standing_at i place p = record { number = i; process = p; seen = record { setting = setting; process = i; class = class_at setting.model place; clock = c.clock; state = p.state } }

  abbrev HereAs : ℕ → Address → Standing → Type 0
  HereAs i place s = (p : Process) × (slice_get c.processes i ≡ Some p) × (s ≡ standing_at i place p)

  abbrev Numbered : ℕ → Standing → Type 0
  Numbered i s = (place : Address) × (slice_get (processes setting.model) i ≡ Some place) × HereAs i place s

  abbrev SomeStanding : Standing → Type 0
  SomeStanding s = (i : ℕ) × (i < length c.processes) × Numbered i s

  here_as : (i : ℕ) (place : Address) → Finite (HereAs i place)
  here_as i place =
      bind {P = λ p. slice_get c.processes i ≡ Some p} {Q = λ p s. s ≡ standing_at i place p} (from_option (slice_get c.processes i)) (λ p. just (standing_at i place p) refl (λ x e. e))

  numbered : (i : ℕ) → Finite (Numbered i)
  numbered i = bind {P = λ place. slice_get (processes setting.model) i ≡ Some place} {Q = HereAs i} (from_option (slice_get (processes setting.model) i)) (here_as i)

  stands_by : (s : Standing) → SomeStanding s → IsStanding s
  stands_by s h =
      subst IsStanding (sym h.2.2.2) (record { place = h.2.0; is_process = h.2.1; is_here = h.2.2.1; seen = refl })

  by_number : (s : Standing) → IsStanding s → SomeStanding s
  by_number s x =
      (s.number, slice_get_within c.processes s.number s.process x.is_here, (x.place, x.is_process, (s.process, x.is_here, ap (λ (a : Context). let z : Standing = record { number = s.number; process = s.process; seen = a } in z) x.seen)))

  standings : Finite IsStanding
  standings = alike stands_by by_number (bind {P = λ i. i < length c.processes} {Q = Numbered} (below (length c.processes)) numbered)

  -- Active parts

  abbrev pub IsLocated : Located → Type 0
  IsLocated l = PartAt setting c l.end l.seen l.frame l.part

  abbrev located_at : Standing → ActivePart → Located
  located_at s p = record { end = record { process = s.number; place = p.place }; seen = s.seen; frame = p.frame; part = p.part }

  abbrev PartOf : Standing → Located → Type 0
  PartOf s l = (p : ActivePart) × IsPart s.seen 0 s.process.term p × (l ≡ located_at s p)

  parts_of : (s : Standing) → Finite (PartOf s)
  parts_of s =
      bind {P = IsPart s.seen 0 s.process.term} {Q = λ p l. l ≡ located_at s p}
      (record { list = active_parts s.seen 0 s.process.term; sound = sound s.seen 0 s.process.term; every = λ p h. listed s.seen 0 s.process.term p.place p.frame p.part h })
      (λ p. just (located_at s p) refl (λ x e. e))

  abbrev SomePart : Located → Type 0
  SomePart l = (s : Standing) × IsStanding s × PartOf s l

  located_by : (l : Located) → SomePart l → IsLocated l
  located_by l h = subst IsLocated (sym h.2.2) (record { process = h.0.process; stands = h.1; active = h.2.1 })

  by_part : (l : Located) → IsLocated l → SomePart l
  by_part l x =
      (record { number = l.end.process; process = x.process; seen = l.seen }, x.stands, (record { place = l.end.place; frame = l.frame; part = l.part }, x.active, refl))

  pub located : Finite IsLocated
  located = alike located_by by_part (bind {P = IsStanding} {Q = PartOf} standings parts_of)

  -- Internal actions

  abbrev ActionOf : Located → Action → Type 0
  ActionOf l a = (d : Doing) × (does l.seen l.frame l.part ≡ Some d) × (a ≡ Internal l.end d.kind d.pos)

  abbrev IsInternal : Action → Type 0
  IsInternal a = (l : Located) × IsLocated l × ActionOf l a

  action_of : (l : Located) → Finite (ActionOf l)
  action_of l = bind {P = λ d. does l.seen l.frame l.part ≡ Some d} {Q = λ d a. a ≡ Internal l.end d.kind d.pos} (from_option (does l.seen l.frame l.part)) (λ d. just (Internal l.end d.kind d.pos) refl (λ x e. e))

  internals : Finite IsInternal
  internals = bind {P = IsLocated} {Q = ActionOf} located action_of

  -- Sends and receives

  abbrev pub IsSender : Sender → Type 0
  IsSender s = IsLocated s.at × (sent_by s.at.seen s.at.frame s.at.part ≡ Some s.sending)

  abbrev SendOf : Located → Sender → Type 0
  SendOf l s = (x : ActiveSend) × (sent_by l.seen l.frame l.part ≡ Some x) × (s ≡ record { at = l; sending = x })

  send_of : (l : Located) → Finite (SendOf l)
  send_of l =
      bind {P = λ x. sent_by l.seen l.frame l.part ≡ Some x} {Q = λ x s. s ≡ record { at = l; sending = x }} (from_option (sent_by l.seen l.frame l.part))
      (λ x. just (record { at = l; sending = x }) refl (λ z e. e))

  senders : Finite IsSender
  senders =
      alike {P = λ s. (l : Located) × IsLocated l × SendOf l s} (λ s h. subst IsSender (sym h.2.2) (h.1, h.2.1)) (λ s h. (s.at, h.0, (s.sending, h.1, refl)))
      (bind {P = IsLocated} {Q = SendOf} located send_of)

  abbrev pub IsReceiver : Receiver → Type 0
  IsReceiver r = IsLocated r.at × (received_by r.at.part ≡ Some r.receiving)

  abbrev ReceiveOf : Located → Receiver → Type 0
  ReceiveOf l r = (x : ActiveReceive) × (received_by l.part ≡ Some x) × (r ≡ record { at = l; receiving = x })

  receive_of : (l : Located) → Finite (ReceiveOf l)
  receive_of l =
      bind {P = λ x. received_by l.part ≡ Some x} {Q = λ x r. r ≡ record { at = l; receiving = x }} (from_option (received_by l.part))
      (λ x. just (record { at = l; receiving = x }) refl (λ z e. e))

  receivers : Finite IsReceiver
  receivers =
      alike {P = λ r. (l : Located) × IsLocated l × ReceiveOf l r} (λ r h. subst IsReceiver (sym h.2.2) (h.1, h.2.1)) (λ r h. (r.at, h.0, (r.receiving, h.1, refl)))
      (bind {P = IsLocated} {Q = ReceiveOf} located receive_of)

  -- Judgements

  abbrev JudgedBy : End → ParcelView → Located → Result Bool Trouble → Type 0
  JudgedBy receiver parcel l v = (l.end ≡ receiver) × Judges l.seen l.frame parcel l.part v

  judged_by_one : (receiver : End) (parcel : ParcelView) (l : Located) → Finite (JudgedBy receiver parcel l)
  judged_by_one receiver parcel l = where_known (end_known l.end receiver) (judgements l.seen l.frame parcel l.part)

  verdicts : (receiver : End) (parcel : ParcelView) → Finite (IsJudged setting c receiver parcel)
  verdicts receiver parcel =
      alike {P = λ v. (l : Located) × IsLocated l × JudgedBy receiver parcel l v}
      (λ v h. record { seen = h.0.seen; frame = h.0.frame; part = h.0.part; active = subst (λ (e : End). PartAt setting c e h.0.seen h.0.frame h.0.part) h.2.0 h.1; judges = h.2.1 })
      (λ v x. (record { end = receiver; seen = x.seen; frame = x.frame; part = x.part }, x.active, (refl, x.judges)))
      (bind {P = IsLocated} {Q = JudgedBy receiver parcel} located (judged_by_one receiver parcel))

  -- Delays

  abbrev LeftOf : Located → ℕ → Type 0
  LeftOf l d = waiting l.seen l.frame l.part ≡ Some d

  pub lefts : Finite (IsLeft setting c)
  lefts =
      alike {P = λ d. (l : Located) × IsLocated l × LeftOf l d}
      (λ d h. record { at = h.0.end; seen = h.0.seen; frame = h.0.frame; part = h.0.part; active = h.1; delays = delays_sound h.0.seen h.0.frame h.0.part d h.2 })
      (λ d x. (record { end = x.at; seen = x.seen; frame = x.frame; part = x.part }, x.active, delays_complete x.seen x.frame x.part d x.delays))
      (bind {P = IsLocated} {Q = LeftOf} located (λ l. from_option (waiting l.seen l.frame l.part)))

  -- Troubles of what is asked

  abbrev AskedOf : Located → Blame → Type 0
  AskedOf l b = (t : Trouble) × (troubled_by l.seen l.frame l.part ≡ Some t) × (b ≡ record { source = part l.end; trouble = t })

  asked_of : (l : Located) → Finite (AskedOf l)
  asked_of l =
      bind {P = λ t. troubled_by l.seen l.frame l.part ≡ Some t} {Q = λ t b. b ≡ record { source = part l.end; trouble = t }} (from_option (troubled_by l.seen l.frame l.part))
      (λ t. just (record { source = part l.end; trouble = t }) refl (λ x e. e))

  abbrev IsAsked : Blame → Type 0
  IsAsked b = (l : Located) × IsLocated l × AskedOf l b

  asks : Finite IsAsked
  asks = bind {P = IsLocated} {Q = AskedOf} located asked_of

  abbrev pub IsBlame : Blame → Type 0
  IsBlame b = Troubles setting c b.source b.trouble

  module _ (wires : HasWires setting.model) where
    -- Pairs

    abbrev pair_at : Sender → Receiver → ℕ → Pair
    pair_at s r w = record { number = w; sender = s.at.end; receiver = r.at.end; message = s.sending.message; parcel = the_parcel s.sending.state s.sending.values }

    abbrev Meets : Sender → Receiver → ℕ → Pair → Type 0
    Meets s r w p =
        (wires.wire r.at.end.process r.receiving.port ≡ Some w) × ((s.sending.message ≡ r.receiving.message) × ((length (the_parcel s.sending.state s.sending.values).values ≡ r.receiving.count) × (p ≡ pair_at s r w)))

    abbrev Joins : Sender → Receiver → Pair → Type 0
    Joins s r p = (w : ℕ) × (wires.wire s.at.end.process s.sending.port ≡ Some w) × Meets s r w p

    abbrev Fitting : Sender → Receiver → Pair → Type 0
    Fitting s r p = (s.at.end.process ≡ r.at.end.process → ⊥) × Joins s r p

    abbrev FittingOf : Sender → Pair → Type 0
    FittingOf s p = (r : Receiver) × IsReceiver r × Fitting s r p

    abbrev SomeFitting : Pair → Type 0
    SomeFitting p = (s : Sender) × IsSender s × FittingOf s p

    meets : (s : Sender) (r : Receiver) (w : ℕ) → Finite (Meets s r w)
    meets s r w =
        where_known (some_known (wires.wire r.at.end.process r.receiving.port) w)
        (where_known (name_known s.sending.message r.receiving.message)
        (where_known (number_known (length (the_parcel s.sending.state s.sending.values).values) r.receiving.count)
        (just (pair_at s r w) refl (λ x e. e))))

    joins : (s : Sender) (r : Receiver) → Finite (Joins s r)
    joins s r = bind {P = λ w. wires.wire s.at.end.process s.sending.port ≡ Some w} {Q = Meets s r} (from_option (wires.wire s.at.end.process s.sending.port)) (meets s r)

    fitting : (s : Sender) (r : Receiver) → Finite (Fitting s r)
    fitting s r = where_known (not_known (number_known s.at.end.process r.at.end.process)) (joins s r)

    fitting_of : (s : Sender) → Finite (FittingOf s)
    fitting_of s = bind {P = IsReceiver} {Q = Fitting s} receivers (fitting s)

    abbrev pub IsPairOf : Pair → Type 0
    IsPairOf p = IsPair setting c p.number p.sender p.receiver p.message p.parcel

    pair_by : (s : Sender) (r : Receiver) (w : ℕ) → IsSender s → IsReceiver r → (s.at.end.process ≡ r.at.end.process → ⊥) → wires.wire s.at.end.process s.sending.port ≡ Some w → wires.wire r.at.end.process r.receiving.port ≡ Some w
        → s.sending.message ≡ r.receiving.message → length (the_parcel s.sending.state s.sending.values).values ≡ r.receiving.count → IsPairOf (pair_at s r w)
    pair_by s r w hs hr two sent_on received_on message count =
        record {
          sends_at = s.at.seen;
          sends_frame = s.at.frame;
          sends_part = s.at.part;
          sender_active = hs.0;
          sends_pos = s.sending.pos;
          sends_port = s.sending.port;
          sends = sends_sound s.at.seen s.at.frame s.at.part s.sending (the_parcel s.sending.state s.sending.values) hs.1 (parcel_is s.sending.state s.sending.values);
          receives_at = r.at.seen;
          receives_frame = r.at.frame;
          receives_part = r.at.part;
          receiver_active = hr.0;
          receives_pos = r.receiving.pos;
          receives_port = r.receiving.port;
          receives =
              subst (λ (n : ℕ). Receives r.at.part r.receiving.pos r.receiving.port s.sending.message n) (sym count)
              (subst (λ (m : List ℕ). Receives r.at.part r.receiving.pos r.receiving.port m r.receiving.count) (sym message) (receives_sound r.at.part r.receiving hr.1));
          two = two;
          sender_wire = wires.has s.at.end.process s.sending.port w sent_on;
          receiver_wire = wires.has r.at.end.process r.receiving.port w received_on;
        }

    pairs_by : (p : Pair) → SomeFitting p → IsPairOf p
    pairs_by p h =
        let fit = h.2.2 in
        let join = fit.1 in
        let meet = join.2 in
        subst IsPairOf (sym meet.1.1.1) (pair_by h.0 h.2.0 join.0 h.1 h.2.1 fit.0 join.1 meet.0 meet.1.0 meet.1.1.0)

    by_pair : (p : Pair) → IsPairOf p → SomeFitting p
    by_pair p x =
        let packs = sends_complete x.sends_at x.sends_frame x.sends_part x.sends_pos x.sends_port p.message p.parcel x.sends in
        let s : Sender = record { at = record { end = p.sender; seen = x.sends_at; frame = x.sends_frame; part = x.sends_part }; sending = record { pos = x.sends_pos; port = x.sends_port; message = p.message; values = packs.values; state = packs.state } } in
        let r : Receiver = record { at = record { end = p.receiver; seen = x.receives_at; frame = x.receives_frame; part = x.receives_part }; receiving = record { pos = x.receives_pos; port = x.receives_port; message = p.message; count = length p.parcel.values } } in
        let same : p.parcel ≡ the_parcel packs.state packs.values = parcel_once packs.state packs.values p.parcel packs.packed in (
          s,
          (x.sender_active, packs.is),
          (
            r,
            (x.receiver_active, receives_complete x.receives_part x.receives_pos x.receives_port p.message (length p.parcel.values) x.receives),
            (
              x.two,
              (
                p.number,
                wires.only p.sender.process x.sends_port p.number x.sender_wire,
                (
                  wires.only p.receiver.process x.receives_port p.number x.receiver_wire,
                  (
                    refl,
                    (
                      ap (λ (q : ParcelView). length q.values) (sym same),
                      ap (λ (q : ParcelView). let z : Pair = record { number = p.number; sender = p.sender; receiver = p.receiver; message = p.message; parcel = q } in z) same,
                    ),
                  ),
                ),
              ),
            ),
          ),
        )

    pairs : Finite IsPairOf
    pairs = alike pairs_by by_pair (bind {P = IsSender} {Q = FittingOf} senders fitting_of)

    -- Communications

    abbrev comm : Pair → Action
    comm p = Comm p.number p.sender p.receiver p.message p.parcel

    abbrev TakenBy : Pair → Result Bool Trouble → Action → Type 0
    TakenBy p v a = (v ≡ Ok true) × (a ≡ comm p)

    abbrev CommOf : Pair → Action → Type 0
    CommOf p a = (v : Result Bool Trouble) × IsJudged setting c p.receiver p.parcel v × TakenBy p v a

    abbrev IsComm : Action → Type 0
    IsComm a = (p : Pair) × IsPairOf p × CommOf p a

    taken_by : (p : Pair) (v : Result Bool Trouble) → Finite (TakenBy p v)
    taken_by p v = where_known (true_known v) (just (comm p) refl (λ x e. e))

    comm_of : (p : Pair) → Finite (CommOf p)
    comm_of p = bind {P = IsJudged setting c p.receiver p.parcel} {Q = TakenBy p} (verdicts p.receiver p.parcel) (taken_by p)

    comms : Finite IsComm
    comms = bind {P = IsPairOf} {Q = CommOf} pairs comm_of

    -- Offers

    offer_by : (a : Action) → IsInternal a ⊎ IsComm a → Offers setting c a
    offer_by a (inl h) =
        subst (Offers setting c) (sym h.2.2) (internal h.0.end h.0.seen h.0.frame h.0.part h.2.0.kind h.2.0.pos h.1 (does_sound h.0.seen h.0.frame h.0.part h.2.0 h.2.1))
    offer_by a (inr h) =
        subst (Offers setting c) (sym h.2.2.1)
        (communication h.0.number h.0.sender h.0.receiver h.0.message h.0.parcel h.1 (subst (IsJudged setting c h.0.receiver h.0.parcel) h.2.2.0 h.2.1))

    by_offer : (a : Action) → Offers setting c a → IsInternal a ⊎ IsComm a
    by_offer _ (internal at a frame p kind pos stands can) =
        inl (record { end = at; seen = a; frame = frame; part = p }, stands, (record { kind = kind; pos = pos }, does_complete a frame p kind pos can, refl))
    by_offer _ (communication number sender receiver message parcel is_pair is_judged) =
        inr (record { number = number; sender = sender; receiver = receiver; message = message; parcel = parcel }, is_pair, (Ok true, is_judged, (refl, refl)))

    pub offers : Finite (Offers setting c)
    offers = alike offer_by by_offer (either internals comms)

    -- Troubles

    abbrev BlameOf : Pair → Result Bool Trouble → Blame → Type 0
    BlameOf p v b = (t : Trouble) × (trouble_of v ≡ Some t) × (b ≡ record { source = pair p.number p.sender p.receiver; trouble = t })

    abbrev WrongOf : Pair → Blame → Type 0
    WrongOf p b = (v : Result Bool Trouble) × IsJudged setting c p.receiver p.parcel v × BlameOf p v b

    abbrev IsWrong : Blame → Type 0
    IsWrong b = (p : Pair) × IsPairOf p × WrongOf p b

    blame_of : (p : Pair) (v : Result Bool Trouble) → Finite (BlameOf p v)
    blame_of p v =
        bind {P = λ t. trouble_of v ≡ Some t} {Q = λ t b. b ≡ record { source = pair p.number p.sender p.receiver; trouble = t }} (from_option (trouble_of v))
        (λ t. just (record { source = pair p.number p.sender p.receiver; trouble = t }) refl (λ x e. e))

    wrong_of : (p : Pair) → Finite (WrongOf p)
    wrong_of p = bind {P = IsJudged setting c p.receiver p.parcel} {Q = BlameOf p} (verdicts p.receiver p.parcel) (blame_of p)

    wrongs : Finite IsWrong
    wrongs = bind {P = IsPairOf} {Q = WrongOf} pairs wrong_of

    blame_by : (b : Blame) → IsAsked b ⊎ IsWrong b → IsBlame b
    blame_by b (inl h) = subst IsBlame (sym h.2.2) (asked h.0.end h.0.seen h.0.frame h.0.part h.2.0 h.1 (asks_sound h.0.seen h.0.frame h.0.part h.2.0 h.2.1))
    blame_by b (inr h) =
        let verdict = h.2 in
        let blame = verdict.2 in
        subst IsBlame (sym blame.2)
        (judged h.0.number h.0.sender h.0.receiver h.0.message h.0.parcel blame.0 h.1 (subst (IsJudged setting c h.0.receiver h.0.parcel) (err_of verdict.0 blame.0 blame.1) verdict.1))

    by_trouble : (source : Source) (trouble : Trouble) → Troubles setting c source trouble → IsAsked (record { source = source; trouble = trouble }) ⊎ IsWrong (record { source = source; trouble = trouble })
    by_trouble _ _ (asked at a frame t trouble stands asks_it) =
        inl (record { end = at; seen = a; frame = frame; part = t }, stands, (trouble, asks_complete a frame t trouble asks_it, refl))
    by_trouble _ _ (judged number sender receiver message parcel trouble is_pair is_judged) =
        inr (record { number = number; sender = sender; receiver = receiver; message = message; parcel = parcel }, is_pair, (Err trouble, is_judged, (trouble, refl, refl)))

    by_blame : (b : Blame) → IsBlame b → IsAsked b ⊎ IsWrong b
    by_blame b h = by_trouble b.source b.trouble h

    pub troubles : Finite IsBlame
    troubles = alike blame_by by_blame (either asks wrongs)
