-- The clock stays low.
use Rattle.std.proofs.Common.{◌≡◌, ◌≤◌, ◌<◌, ◌+◌, ◌*◌, ◌^◌, ℕ, zero, suc, List, [], ◌∷◌, length, Some, Result, Ok, Err, refl, sym, subst, ap, ◌∙◌, ◌⊎◌, inl, inr, arith}
use Rattle.std.specs.Prelude.{slice_get, slice_set}
use Rattle.std.proofs.lemmas.Option.{slice_get_within}
use Rattle.pz_bind_rules.specs.pz_syntax.declared.tokens.Pos.{Pos}
use Rattle.pz_bind_rules.specs.pz_syntax.ModelText.{HasFewMarks}
use Rattle.pz_bind_rules.specs.pz_classes_rules.Soundness.{IsSound}
use Rattle.pz_classes_openings.specs.OpeningRules.{Opens}
use Rattle.pz_bind_levels.specs.Places.{Address}
use Rattle.pz_bind_rules.specs.Nest.{processes, class_at}
use Rattle.pz_bind_rules.specs.Values.{values_at}
use Rattle.pz_offer.specs.pz_state.States.{initial}
use Rattle.pz_offer.specs.declared.end.End.{End}
use Rattle.pz_offer.specs.declared.trouble.Trouble.{Trouble}
use Rattle.pz_rules.specs.declared.action.Action.{Action}
use Rattle.pz_rules.specs.declared.limits.Edition.TheVariants.{Two}
use Rattle.pz_rules.specs.declared.moment.Moment.TheVariants.{Time}
use Rattle.pz_rules.specs.Terms.{Steps, Term, Terms}
use Rattle.pz_rules.specs.Settings.{Setting, Process, Context}
use Rattle.pz_rules.specs.Meanings.{and_then}
use Rattle.pz_rules.specs.Openable.{alone}
use Rattle.pz_rules.specs.InternalActions.{Performs}
use Rattle.pz_rules.specs.Messages.{Hands, Takes}
use Rattle.pz_rules.specs.Leaving.{settled}
use Rattle.pz_rules.specs.Delays as delays
use Rattle.pz_rules.specs.Delays.{Passes, PassesAll}
use Rattle.pz_rules.specs.Ports.{HasWires}
use Rattle.pz_rules.specs.Configurations.{Config, IsWhole}
use Rattle.pz_rules.specs.Starting.{IsStart}
use Rattle.pz_rules.specs.Steps.{Deed, Acts, with_process, with_both, Next, internal, communication, PassesTo}
use Rattle.pz_rules.specs.Moments.{IsMoment}
use Rattle.pz_rules.specs.Runs as runs
use Rattle.pz_rules.specs.Runs.{Event, Standing, Reaches}
use Rattle.pz_rules.specs.Laws.{WiresAreKnown}
use Rattle.pz_rules.specs.Clocks.{actions_in, AreShort, most_actions, ClocksStayLow}
use Rattle.pz_rules.specs.devices.Pending.{pending, list_pending}
use Rattle.pz_rules.specs.devices.Opened.{Holds, HoldAll, Brings, Bounds}
use Rattle.pz_rules.specs.devices.Room.{most_delays, OpensFew, HasRoom}
use Rattle.pz_rules.proofs.Locals.{some_is, no_some}
use Rattle.pz_rules.proofs.Elapsed.{there, stands_there, next_whole, passing_whole}
use Rattle.pz_rules.proofs.Kept.{set_get}
use Rattle.pz_rules.proofs.Pending.{fewer_pending}
use Rattle.pz_rules.proofs.Brought.{LeavesFew, Grows, LeavesGrown, performs_few, hands_few, takes_few, growing, settled_grows}
use Rattle.pz_rules.proofs.FewOpen.{few_bounds}
use Rattle.pz_rules.proofs.Starts.{of_process_class}
use Rattle.pz_rules.proofs.Crowd.{few_processes}

-- One or two processes of a list become others

pending_set : (ps : List Process) (i k : ℕ) (z p : Process) → slice_get ps i ≡ Some z → pending p.term ≤ pending z.term + k → list_pending (slice_set ps i p) ≤ list_pending ps + k
pending_set [] i k z p at h = no_some at
pending_set (x ∷ ps) zero k z p at h =
    let same : pending x.term ≡ pending z.term = ap (λ (q : Process). pending q.term) (some_is at) in
    omega (arith, same, h)
pending_set (x ∷ ps) (suc i) k z p at h = omega (arith, pending_set ps i k z p at h)

pending_set_both : (ps : List Process) (i j k : ℕ) (y z p q : Process) → slice_get ps i ≡ Some y → slice_get ps j ≡ Some z → pending p.term ≤ pending y.term + k → pending q.term ≤ pending z.term + k
    → list_pending (slice_set (slice_set ps i p) j q) ≤ list_pending ps + 2 * k
pending_set_both [] i j k y z p q at is h l = no_some at
pending_set_both (x ∷ ps) zero zero k y z p q at is h l =
    let same : pending x.term ≡ pending z.term = ap (λ (r : Process). pending r.term) (some_is is) in
    omega (arith, same, l)
pending_set_both (x ∷ ps) zero (suc j) k y z p q at is h l =
    let same : pending x.term ≡ pending y.term = ap (λ (r : Process). pending r.term) (some_is at) in
    omega (arith, same, h, pending_set ps j k z q is l)
pending_set_both (x ∷ ps) (suc i) zero k y z p q at is h l =
    let same : pending x.term ≡ pending z.term = ap (λ (r : Process). pending r.term) (some_is is) in
    omega (arith, same, l, pending_set ps i k y p at h)
pending_set_both (x ∷ ps) (suc i) (suc j) k y z p q at is h l = omega (arith, pending_set_both ps i j k y z p q at is h l)

-- An action, in whatever way statements open in a process of each class

module _ (setting : Setting) (P : ℕ → Steps → Type 0) where
  abbrev system : List Address
  system = processes setting.model

  abbrev class : Address → ℕ
  class = class_at setting.model

  abbrev AllHold : List Process → Type 0
  AllHold ps = (i : ℕ) (place : Address) (p : Process) → slice_get system i ≡ Some place → slice_get ps i ≡ Some p → Holds (P (class place)) p.term

  put_holds : (ps : List Process) (i : ℕ) (place : Address) (p : Process) → slice_get system i ≡ Some place → AllHold ps → Holds (P (class place)) p.term → AllHold (slice_set ps i p)
  put_holds ps i place p stands all h k other q at is = by (set_get ps i k p q is)
    where
      by : ((k ≡ i) × (q ≡ p)) ⊎ (slice_get ps k ≡ Some q) → Holds (P (class other)) q.term
      by (inl same) =
          let here : place ≡ other = some_is (sym stands ∙ ap (slice_get system) (sym same.0) ∙ at) in
          subst (λ (r : Process). Holds (P (class other)) r.term) (sym same.1) (subst (λ (x : Address). Holds (P (class x)) p.term) here h)
      by (inr old) = all k other q at old

  abbrev AllBounded : ℕ → Type 0
  AllBounded most = (i : ℕ) (place : Address) → slice_get system i ≡ Some place → Bounds setting (class place) (P (class place)) most

module _ (setting : Setting) (P : ℕ → Steps → Type 0) (most : ℕ) (bounds : AllBounded setting P most) (c : Config) (all : AllHold setting P c.processes) where
  -- a process that acts
  record HasGrown (i : ℕ) (p : Process) : Type 0 where
    place : Address
    stands : slice_get (processes setting.model) i ≡ Some place
    before : Process
    here : slice_get c.processes i ≡ Some before
    grows : Grows (P (class_at setting.model place)) most before.term p.term

  abbrev GrowsAt : ℕ → Result Process Trouble → Type 0
  GrowsAt i (Ok p) = HasGrown i p
  GrowsAt i (Err t) = Unit {0}

  abbrev BringsFew : Deed → Type 1
  BringsFew does = (a : Context) (Q : Steps → Type 0) (f : ℕ) (t : Term) (pos : Pos) (q : Result Process Trouble) → Bounds a.setting a.class Q most → does a f t pos q → Holds Q t → LeavesFew Q most q

  acts_grow : (does : Deed) → BringsFew does → (end : End) (q : Result Process Trouble) → Acts setting c does end q → GrowsAt end.process q
  acts_grow does few end q x =
      let place = x.stands.place in
      let Q : Steps → Type 0 = P (class_at setting.model place) in
      let here : Bounds x.seen.setting x.seen.class Q most = subst (λ (z : Context). Bounds z.setting z.class Q most) (sym x.stands.seen) (bounds end.process place x.stands.is_process) in
      let part = growing x.seen Q most here x.active (all end.process place x.process x.stands.is_process x.stands.is_here) in
      let left = few x.seen Q x.frame x.part x.pos x.left here x.acts part.holds in
      let outcome = settled_grows x.seen Q most here x.process.term x.pos end.place x.left left (λ y h. part.leaves 0 y h) in
      subst (GrowsAt end.process) (sym x.leaves) (there_grows (and_then x.left (settled x.seen x.pos x.process.term end.place)) outcome)
    where
      there_grows : (r : Result Process Trouble) → LeavesGrown (P (class_at setting.model x.stands.place)) most x.process.term r → GrowsAt end.process r
      there_grows (Ok p) h = record { place = x.stands.place; stands = x.stands.is_process; before = x.process; here = x.stands.is_here; grows = h }
      there_grows (Err t) h = tt

  -- what a configuration becomes
  abbrev Outcome : Result Config Trouble → Type 0
  Outcome (Ok next) = (next.clock ≡ c.clock) × AllHold setting P next.processes × (list_pending next.processes ≤ list_pending c.processes + 2 * most)
  Outcome (Err t) = Unit {0}

  internal_grows : (i : ℕ) (q : Result Process Trouble) → GrowsAt i q → Outcome (and_then q (λ p. Ok (with_process c i p)))
  internal_grows i (Ok p) h =
      let few = pending_set c.processes i most h.before p h.here h.grows.1 in
      (refl, put_holds setting P c.processes i h.place p h.stands all h.grows.0, omega (arith, few))
  internal_grows i (Err t) h = tt

  both_grow : (sender receiver : End) (q r : Result Process Trouble) → GrowsAt sender.process q → GrowsAt receiver.process r → Outcome (and_then q (λ p. and_then r (λ u. Ok (with_both c sender receiver p u))))
  both_grow sender receiver (Ok p) (Ok u) h k = (
    refl,
    put_holds setting P (slice_set c.processes sender.process p) receiver.process k.place u k.stands (put_holds setting P c.processes sender.process h.place p h.stands all h.grows.0) k.grows.0,
    pending_set_both c.processes sender.process receiver.process most h.before k.before p u h.here k.here h.grows.1 k.grows.1,
  )
  both_grow sender receiver (Ok p) (Err t) h k = tt
  both_grow sender receiver (Err t) r h k = tt

  outcome_grows : (action : Action) (q : Result Config Trouble) → Next setting c action q → Outcome q
  outcome_grows _ _ (internal end kind pos result x) = internal_grows end.process result (acts_grow Performs (λ a Q f t pos q b h k. performs_few a Q most b f t pos q h k) end result x)
  outcome_grows _ _ (communication number sender receiver message parcel sent taken x y) =
      both_grow sender receiver sent taken
      (acts_grow (λ a f. Hands a f parcel) (λ a Q f t pos q b h k. hands_few a Q most b f parcel t pos q h) sender sent x)
      (acts_grow (λ a f. Takes a f parcel) (λ a Q f t pos q b h k. takes_few a Q most b f parcel t pos q h) receiver taken y)

-- A passing of time

mutual
  passes_hold : (P : Steps → Type 0) (a : Context) (d f : ℕ) (t x : Term) → Passes a d f t x → Holds P t → Holds P x
  passes_hold P a d _ _ _ (delays.is_done f) h = h
  passes_hold P a d _ _ _ (delays.stays f s is) h = h
  passes_hold P a d _ _ _ (delays.begins f at e left lasts) h = tt
  passes_hold P a d _ _ _ (delays.goes_on f left at) h = tt
  passes_hold P a d _ _ _ (delays.in_sequence f t x rest p) h = (passes_hold P a d f t x p h.0, h.1)
  passes_hold P a d _ _ _ (delays.in_parallel f ts xs p) h = all_pass_hold P a d f ts xs p h
  passes_hold P a d _ _ _ (delays.in_select f ts xs p) h = all_pass_hold P a d f ts xs p h
  passes_hold P a d _ _ _ (delays.behind_true f test at t x is p) h = passes_hold P a d f t x p h
  passes_hold P a d _ _ _ (delays.behind_false f test at t is) h = h
  passes_hold P a d _ _ _ (delays.in_frame f number inputs results t x p) h = passes_hold P a d number t x p h
  passes_hold P a d _ _ _ (delays.in_abort f t x u y p q) h = (passes_hold P a d f t x p h.0, passes_hold P a d f u y q h.1)
  passes_hold P a d _ _ _ (delays.in_idle f t x u y again p q) h = (passes_hold P a d f t x p h.0, passes_hold P a d f u y q h.1, h.2)
  passes_hold P a d _ _ _ (delays.in_handling f t u y again p) h = (h.0, passes_hold P a d f u y p h.1, h.2)

  all_pass_hold : (P : Steps → Type 0) (a : Context) (d f : ℕ) (ts xs : Terms) → PassesAll a d f ts xs → HoldAll P ts → HoldAll P xs
  all_pass_hold P a d _ _ _ (delays.none f) h = h
  all_pass_hold P a d _ _ _ (delays.both f t x ts xs p q) h = (passes_hold P a d f t x p h.0, all_pass_hold P a d f ts xs q h.1)

passing_holds : (setting : Setting) (P : ℕ → Steps → Type 0) (c next : Config) (d : ℕ) → IsWhole setting c → AllHold setting P c.processes → PassesTo setting c d next → AllHold setting P next.processes
passing_holds setting P c next d whole all passes i place q at is =
    let within : i < length c.processes = subst (λ (n : ℕ). i < n) passes.all (slice_get_within next.processes i q is) in
    let p = there c.processes i within in
    let a = stands_there setting c i p.0 whole p.1 within in
    let one = passes.each i p.0 a.0 a.1 in
    let same : (let r : Process = record { term = one.0; state = p.0.state } in r) ≡ q = some_is (sym one.2 ∙ is) in
    subst (λ (r : Process). Holds (P (class_at setting.model place)) r.term) same (passes_hold (P (class_at setting.model place)) a.0 d 0 p.0.term one.0 one.1 (all i place p.0 at p.1))

-- The start: each process brings at most what opens once

module _ (setting : Setting) (c : Config) (P : ℕ → Steps → Type 0) (most : ℕ) (bounds : AllBounded setting P most) (start : IsStart setting c) where
  starts_few : (i : ℕ) (place : Address) (p : Process) → slice_get (processes setting.model) i ≡ Some place → slice_get c.processes i ≡ Some p → Brings (P (class_at setting.model place)) most p.term
  starts_few i place p at is =
      let s = start.each i place p at is in
      let b = bounds i place at in
      subst (λ (q : Process). Brings (P (class_at setting.model place)) most q.term) (sym s.stands) (b.opens (alone s.call) (initial (values_at setting.model place)) (b.starts s.call s.is_call))

  each_few : (i : ℕ) (p : Process) → slice_get c.processes i ≡ Some p → pending p.term ≤ most
  each_few i p is =
      let within : i < length (processes setting.model) = subst (λ (n : ℕ). i < n) start.all (slice_get_within c.processes i p is) in
      let place = there (processes setting.model) i within in
      (starts_few i place.0 p place.1 is).1

few_pending : (ps : List Process) → ((i : ℕ) (p : Process) → slice_get ps i ≡ Some p → pending p.term ≤ most_delays) → list_pending ps ≤ most_delays * length ps
few_pending [] each = omega arith
few_pending (p ∷ ps) each = omega (arith, each 0 p refl, few_pending ps (λ i q is. each (suc i) q is))

-- Room

-- what holds in a process of each class
abbrev IsFew : Setting → ℕ → Steps → Type 0
IsFew setting class = OpensFew setting.limits.edition setting.model class

all_bounded : (setting : Setting) → HasFewMarks setting.model → (setting.limits.edition ≡ Two → Opens setting.model) → AllBounded setting (IsFew setting) most_delays
all_bounded setting few opens i place at = few_bounds setting (class_at setting.model place) few opens (of_process_class setting.model i place at)

pub start_room : (setting : Setting) (c : Config) → IsSound setting.model → HasFewMarks setting.model → (setting.limits.edition ≡ Two → Opens setting.model) → IsStart setting c → HasRoom setting most_actions c
start_room setting c sound few opens start =
    let bounds = all_bounded setting few opens in
    let at_most = few_pending c.processes (each_few setting c (IsFew setting) most_delays bounds start) in
    let many = few_processes setting.model sound in
    let clock = start.clock in
    let all = start.all in
    record {
      sound = sound;
      few = few;
      opens = opens;
      whole = start.all;
      holds = λ i place p at is. (starts_few setting c (IsFew setting) most_delays bounds start i place p at is).0;
      low = omega (arith, at_most, many, clock, all);
    }

pub action_room : (setting : Setting) (c next : Config) (a : Action) (left : ℕ) → HasRoom setting (suc left) c → Next setting c a (Ok next) → HasRoom setting left next
action_room setting c next a left room h =
    let grown = outcome_grows setting (IsFew setting) most_delays (all_bounded setting room.few room.opens) c room.holds a (Ok next) h in
    let clock = grown.0 in
    let more = grown.2 in
    let low = room.low in
    record {
      sound = room.sound;
      few = room.few;
      opens = room.opens;
      whole = next_whole setting c a next room.whole h;
      holds = grown.1;
      low = omega (arith, clock, more, low);
    }

pub passing_room : (setting : Setting) (c next : Config) (d left : ℕ) → HasWires setting.model → HasRoom setting left c → IsMoment setting c (Time d) → PassesTo setting c d next → d < 2 ^ 64 → HasRoom setting left next
passing_room setting c next d left wires room is passes short =
    let fewer = fewer_pending setting c next d wires room.whole is passes in
    let clock = passes.clock in
    let low = room.low in
    record {
      sound = room.sound;
      few = room.few;
      opens = room.opens;
      whole = passing_whole setting c d next room.whole passes;
      holds = passing_holds setting (IsFew setting) c next d room.whole room.holds passes;
      low = omega (arith, fewer, clock, low, short);
    }

pub room_low : (setting : Setting) (c : Config) (left : ℕ) → HasRoom setting left c → c.clock < 2 ^ 127
room_low setting c left room = let low = room.low in omega (arith, low)

pub less_room : (setting : Setting) (c : Config) (more left : ℕ) → left ≤ more → HasRoom setting more c → HasRoom setting left c
less_room setting c more left less room =
    let low = room.low in
    record { sound = room.sound; few = room.few; opens = room.opens; whole = room.whole; holds = room.holds; low = omega (arith, low, less) }

-- Runs

reaches_low : WiresAreKnown → (setting : Setting) (c end : Config) (events : List Event) (standing : Standing) → HasRoom setting (actions_in events) c → Reaches setting c events end standing → AreShort events → end.clock < 2 ^ 127
reaches_low law setting _ _ _ _ room (runs.here c) short = room_low setting c 0 room
reaches_low law setting _ _ _ _ room (runs.acts c next end n k a events standing is choice h more) short =
    reaches_low law setting next end events standing (action_room setting c next a (actions_in events) room h) more short
reaches_low law setting _ _ _ _ room (runs.stops c n k a trouble is choice h) short = room_low setting c 1 room
reaches_low law setting _ _ _ _ room (runs.passes c next end d events standing is h more) short =
    reaches_low law setting next end events standing (passing_room setting c next d (actions_in events) (law setting.model room.sound) room is h short.0) more short.1

pub clock_low : WiresAreKnown → ClocksStayLow
clock_low law setting start end events standing sound few opens is run short acts =
    reaches_low law setting start end events standing (less_room setting start most_actions (actions_in events) acts (start_room setting start sound few opens is)) run short
