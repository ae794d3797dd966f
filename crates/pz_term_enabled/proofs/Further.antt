-- What is surveyed of the first processes and of one more.
use Rattle.std.proofs.Common.{◌≡◌, ◌<◌, ◌+◌, ◌^◌, ◌⊎◌, inl, inr, ℕ, Bool, true, false, ◌&&◌, List, [], ◌∷◌, map, length, Option, Some, None, refl, sym, subst, ap, ◌∙◌, arith}
use Rattle.std.specs.List.{Contains, filter_map}
use Rattle.std.specs.Option.{option_or}
use Rattle.std.specs.Prelude.{slice_get}
use Rattle.std.proofs.lemmas.Bool.{true≢false}
use Rattle.std.proofs.lemmas.Option.{same_Some, slice_get_within, get_or_from_slice_get}
use Rattle.std.proofs.lemmas.List.Elements.{All-head, All-contains}
use Rattle.pz_classes_code.specs.pz_syntax.Statements.{delay}
use Rattle.pz_rules.specs.pz_offer.declared.end.End.{End}
use Rattle.pz_rules.specs.pz_offer.declared.trouble.Trouble.{Trouble}
use Rattle.pz_rules.specs.pz_offer.PlaceOrder.{Place, PlaceBefore, EndBefore}
use Rattle.pz_rules.specs.declared.action.Action.{Action}
use Rattle.pz_rules.specs.Terms.{Term, done, leaf}
use Rattle.pz_rules.specs.Settings.{Setting, Process, Context}
use Rattle.pz_rules.specs.Leaving.{is_done}
use Rattle.pz_rules.specs.Delays.{Delays, not_begun}
use Rattle.pz_rules.specs.Asking.{Asks}
use Rattle.pz_rules.specs.Ports.{HasWires}
use Rattle.pz_rules.specs.Configurations.{Config, Stands}
use Rattle.pz_rules.specs.Offers.{PartAt}
use Rattle.pz_rules.specs.Moments.{Source, part, pair, Troubles, asked, judged, IsLeft}
use Rattle.pz_rules.specs.devices.Walk.{Noted, active_parts, active_delays, active_troubles}
use Rattle.pz_rules.specs.devices.Walks.{IsThere, Lists, InternalActionsAreListed, SendsAreListed, SendsHaveParcels, ReceivesAreListed, DelaysAreListed, TroublesAreListed}
use Rattle.pz_rules.specs.devices.Computed.{TestsAreComputed, TimesAreComputed}
use Rattle.pz_term_matching.specs.declared.ends.Sender.{Sender}
use Rattle.pz_term_matching.specs.declared.ends.Receiver.{Receiver}
use Rattle.pz_term_enabled.specs.declared.found.Found.{Found}
use Rattle.pz_term_enabled.specs.devices.Walked.{IsWalked, whats, has_begun, AllBeginShort}
use Rattle.pz_term_enabled.specs.declared.findings.Survey.{Survey}
use Rattle.pz_term_enabled.specs.Surveyed.{IsSender, IsReceiver}
use Rattle.pz_term_enabled.specs.devices.Adding.{end_at, action_of, sender_of, receiver_of, least_of, Adds}
use Rattle.pz_term_enabled.specs.devices.Below.{Listed, end_of, IsLeastOf, IsOffered, IsLeftBelow, IsAskedBelow, TellsDoneBelow, AreShortBelow, SurveyedBelow}
use Rattle.pz_term_enabled.proofs.Beginning.{part_begins, few_left}
use Rattle.pz_term_enabled.proofs.Lists.{Contains-cases, Contains-map, from_map, AllPairs-head}
use Rattle.pz_term_enabled.proofs.Least.{least_same, least_more}
use Rattle.pz_term_enabled.proofs.Listed.{below_cases, listed_more}
use Rattle.pz_term_enabled.proofs.OneProcess.{doings_here, sends_here, receives_here}
use Rattle.pz_term_enabled.proofs.Ends.{part_there, there, actions_listed, senders_listed, receivers_listed}

-- that a walk lists what is active
pub record WalkLaws : Type 0 where
  pub internal : InternalActionsAreListed
  pub sends : SendsAreListed
  pub parcels : SendsHaveParcels
  pub receives : ReceivesAreListed
  pub delays : DelaysAreListed
  pub troubles : TroublesAreListed
  pub tests_computed : TestsAreComputed
  pub times_computed : TimesAreComputed

place_asymmetric : (p q : Place) → PlaceBefore p q → PlaceBefore q p → ⊥
place_asymmetric p [] a b = a
place_asymmetric [] (j ∷ q) a b = b
place_asymmetric (i ∷ p) (j ∷ q) (inl a) (inl b) = omega (arith, a, b)
place_asymmetric (i ∷ p) (j ∷ q) (inl a) (inr (e, b)) = omega (arith, a, e)
place_asymmetric (i ∷ p) (j ∷ q) (inr (e, a)) (inl b) = omega (arith, e, b)
place_asymmetric (i ∷ p) (j ∷ q) (inr (e, a)) (inr (f, b)) = place_asymmetric p q a b

done_is : (t : Term) → is_done t ≡ true → t ≡ done
done_is done e = refl
done_is t e = absurd (true≢false (sym e))

module _ (setting : Setting) (c : Config) where
  -- the part that has a trouble, where that comes from a part
  record IsAsked (at : End) (trouble : Trouble) : Type 0 where
    pub seen : Context
    pub frame : ℕ
    pub it : Term
    pub active : PartAt setting c at seen frame it
    pub asks : Asks seen frame it trouble

  abbrev AskedAt : Source → Trouble → Type 0
  AskedAt (part at) t = IsAsked at t
  AskedAt (pair number sender receiver) t = Unit {0}

  asked_at : (source : Source) (t : Trouble) → Troubles setting c source t → AskedAt source t
  asked_at _ _ (asked at a f it trouble active asks) = record { seen = a; frame = f; it = it; active = active; asks = asks }
  asked_at _ _ (judged number sender receiver message parcel trouble is_pair is_judged) = tt

  -- what is found stands in a process
  pub part_within : (at : End) (a : Context) (f : ℕ) (t : Term) → PartAt setting c at a f t → at.process < length c.processes
  part_within at a f t x = slice_get_within c.processes at.process x.process x.stands.is_here

  pub trouble_within : (at : End) (t : Trouble) → Troubles setting c (part at) t → at.process < length c.processes
  trouble_within at t troubles = let x : IsAsked at t = asked_at (part at) t troubles in part_within at x.seen x.frame x.it x.active

  module _ (i : ℕ) (p : Process) (a : Context) (stands : Stands setting c i p a) where
    -- What is left of delays

    left_there : DelaysAreListed → (n : ℕ) (l : IsLeft setting c n) → l.at.process ≡ i → Contains (whats (active_delays a p.term)) n
    left_there law n l same =
        let is = there setting c i p a stands (λ (z : Context) (g : ℕ) (t : Term). Delays z g t n) l.at l.seen l.frame l.part same l.active l.delays in
        Contains-map (λ (m : Noted ℕ). m.what) (active_delays a p.term) (record { place = l.at.place; what = n }) ((law a p.term).every l.at.place n is)

    there_left : DelaysAreListed → (n : ℕ) → Contains (whats (active_delays a p.term)) n → IsLeftBelow setting c (i + 1) n
    there_left law n within =
        let m = from_map (λ (m : Noted ℕ). m.what) (active_delays a p.term) n within in
        let is : IsThere a p.term m.one.place (λ f t. Delays a f t m.one.what) = All-contains (λ (k : Noted ℕ). IsThere a p.term k.place (λ f t. Delays a f t k.what)) (active_delays a p.term) m.one (law a p.term).derivable m.within in
        record {
          is_left = record {
            at = end_at i m.one.place;
            seen = a;
            frame = is.frame;
            part = is.part;
            active = part_there setting c i p a stands m.one.place is.frame is.part is.active;
            delays = subst (λ (k : ℕ). Delays a is.frame is.part k) m.is is.it_holds;
          };
          below = omega arith;
        }

    least_further : DelaysAreListed → (delays : List ℕ) → delays ≡ whats (active_delays a p.term) → (o : Option ℕ) → IsLeastOf (IsLeftBelow setting c i) o → IsLeastOf (IsLeftBelow setting c (i + 1)) (least_of o delays)
    least_further law delays are o h =
        least_same (λ n. IsLeftBelow setting c i n ⊎ Contains delays n) (IsLeftBelow setting c (i + 1)) to (λ n x. from n x (below_cases x.is_left.at.process i x.below)) (least_of o delays)
        (least_more delays (IsLeftBelow setting c i) o h)
      where
        to : (n : ℕ) → IsLeftBelow setting c i n ⊎ Contains delays n → IsLeftBelow setting c (i + 1) n
        to n (inl x) = let less = x.below in record { is_left = x.is_left; below = omega (arith, less) }
        to n (inr within) = there_left law n (subst (λ (xs : List ℕ). Contains xs n) are within)

        from : (n : ℕ) (x : IsLeftBelow setting c (i + 1) n) → (x.is_left.at.process < i) ⊎ (x.is_left.at.process ≡ i) → IsLeftBelow setting c i n ⊎ Contains delays n
        from n x (inl less) = inl (record { is_left = x.is_left; below = less })
        from n x (inr same) = inr (subst (λ (xs : List ℕ). Contains xs n) (sym are) (left_there law n x.is_left same))

    -- Troubles

    abbrev AsksThere : Noted Trouble → Type 0
    AsksThere n = IsThere a p.term n.place (λ f t. Asks a f t n.what)

    asked_there : (at : End) (t : Trouble) → Troubles setting c (part at) t → at.process ≡ i → AsksThere (record { place = at.place; what = t })
    asked_there at t troubles same =
        let x : IsAsked at t = asked_at (part at) t troubles in
        there setting c i p a stands (λ (z : Context) (g : ℕ) (u : Term). Asks z g u t) at x.seen x.frame x.it same x.active x.asks

    -- nothing of the process is before the first
    not_among : (n it : Noted Trouble) (ns : List (Noted Trouble)) → Lists a p.term (λ t f u. Asks a f u t) (n ∷ ns) → PlaceBefore it.place n.place → (it ≡ n) ⊎ Contains ns it → ⊥
    not_among n it ns lists before (inl is) =
        let again : PlaceBefore n.place n.place = subst (λ (q : Place). PlaceBefore q n.place) (ap (λ (m : Noted Trouble). m.place) is) before in
        place_asymmetric n.place n.place again again
    not_among n it ns lists before (inr later) =
        place_asymmetric it.place n.place before
        (All-contains (λ (m : Noted Trouble). PlaceBefore n.place m.place) ns it (AllPairs-head (λ (m k : Noted Trouble). PlaceBefore m.place k.place) n ns lists.ordered) later)

    none_before : (n : Noted Trouble) (ns : List (Noted Trouble)) → Lists a p.term (λ t f u. Asks a f u t) (n ∷ ns) → IsAskedBelow setting c i None
        → (other : End) (t : Trouble) → Troubles setting c (part other) t → EndBefore other (end_at i n.place) → ⊥
    none_before n ns lists none other t troubles (inl less) = none other t troubles less
    none_before n ns lists none other t troubles (inr (same, before)) =
        let it : Noted Trouble = record { place = other.place; what = t } in
        not_among n it ns lists before (Contains-cases n ns it (lists.every other.place t (asked_there other t troubles same)))

    first_there : (ns : List (Noted Trouble)) → Lists a p.term (λ t f u. Asks a f u t) ns → IsAskedBelow setting c i None → IsAskedBelow setting c (i + 1) (slice_get (whats ns) 0)
    first_there [] lists none = λ at t troubles below. by at t troubles (below_cases at.process i below)
      where
        by : (at : End) (t : Trouble) → Troubles setting c (part at) t → (at.process < i) ⊎ (at.process ≡ i) → ⊥
        by at t troubles (inl less) = none at t troubles less
        by at t troubles (inr same) = let within = lists.every at.place t (asked_there at t troubles same) in let inside = within.1 in omega (arith, inside)
    first_there (n ∷ ns) lists none =
        let is : AsksThere n = All-head AsksThere n ns lists.derivable in
        record {
          at = end_at i n.place;
          occurs = asked (end_at i n.place) a is.frame is.part n.what (part_there setting c i p a stands n.place is.frame is.part is.active) is.it_holds;
          first = none_before n ns lists none;
        }

    first_further : TroublesAreListed → (troubles : List Trouble) → troubles ≡ whats (active_troubles a p.term) → (o : Option Trouble) → IsAskedBelow setting c i o → IsAskedBelow setting c (i + 1) (option_or o (slice_get troubles 0))
    first_further law troubles are (Some t) h = h
    first_further law troubles are None h =
        subst (λ (ts : List Trouble). IsAskedBelow setting c (i + 1) (slice_get ts 0)) (sym are) (first_there (active_troubles a p.term) (law a p.term) h)

    -- Whether nothing is left

    done_then : (b : Bool) → is_done p.term ≡ b → TellsDoneBelow setting c i true → TellsDoneBelow setting c (i + 1) b
    done_then true is h = λ k q below here. by k q here (below_cases k i below)
      where
        by : (k : ℕ) (q : Process) → slice_get c.processes k ≡ Some q → (k < i) ⊎ (k ≡ i) → q.term ≡ done
        by k q here (inl less) = h k q less here
        by k q here (inr same) =
            let one : q ≡ p = same_Some q p (sym here ∙ ap (λ (n : ℕ). slice_get c.processes n) same ∙ stands.is_here) in
            ap (λ (r : Process). r.term) one ∙ done_is p.term is
    done_then false is h = λ all.
        let one : p.term ≡ done = subst (λ (r : Process). r.term ≡ done) (get_or_from_slice_get c.processes i p p stands.is_here) (all i p (slice_get_within c.processes i p stands.is_here)) in
        absurd (true≢false (sym (ap is_done one) ∙ is))

    done_further : (b : Bool) → TellsDoneBelow setting c i b → TellsDoneBelow setting c (i + 1) (b && is_done p.term)
    done_further false h = h
    done_further true h = done_then (is_done p.term) refl h

    -- What delays that have not begun take

    times_further : TestsAreComputed → TimesAreComputed → AllBeginShort a (active_parts a 0 p.term) → AreShortBelow setting c i → AreShortBelow setting c (i + 1)
    times_further tests times begin so_far at b f pos time left x lasts below = by (below_cases at.process i below)
      where
        by : (at.process < i) ⊎ (at.process ≡ i) → left < 2 ^ 64
        by (inl less) = so_far at b f pos time left x lasts less
        by (inr same) =
            let is = there setting c i p a stands (λ (z : Context) (g : ℕ) (t : Term). Delays z g t left × (has_begun t ≡ false)) at b f (leaf (delay pos time)) same x (not_begun pos time left lasts, refl) in
            few_left times a is.frame is.part left is.it_holds.0 is.it_holds.1 (part_begins a tests 0 p.term at.place is.frame is.part is.active begin is.it_holds.1)

    -- All of it
    pub surveyed_further : WalkLaws → (wires : HasWires setting.model) (found : Found) (old new : Survey) → IsWalked a p.term found
        → Adds (λ port. wires.wire i port) i found (is_done p.term) old new → SurveyedBelow setting c i old → SurveyedBelow setting c (i + 1) new
    surveyed_further laws wires found old new walked adds so_far = record {
      internal = subst (λ (xs : List Action). Listed end_of (IsOffered setting c) (λ k. k < i + 1) xs) (sym adds.internal)
          (listed_more end_of (IsOffered setting c) i old.internal.items (map (action_of i) found.internal.items) so_far.internal
          (actions_listed setting c i p a stands found.internal.items (doings_here a p.term laws.internal found.internal.items walked.internal)));
      senders = subst (λ (xs : List Sender). Listed (λ (s : Sender). s.end) (IsSender setting c) (λ k. k < i + 1) xs) (sym adds.senders)
          (listed_more (λ (s : Sender). s.end) (IsSender setting c) i old.senders.items (filter_map (sender_of (λ port. wires.wire i port) i) found.sends.items) so_far.senders
          (senders_listed setting c i p a stands wires found.sends.items (sends_here a p.term laws.sends laws.parcels found.sends.items walked.sends)));
      receivers = subst (λ (xs : List Receiver). Listed (λ (r : Receiver). r.end) (IsReceiver setting c) (λ k. k < i + 1) xs) (sym adds.receivers)
          (listed_more (λ (r : Receiver). r.end) (IsReceiver setting c) i old.receivers.items (filter_map (receiver_of (λ port. wires.wire i port) i) found.receives.items) so_far.receivers
          (receivers_listed setting c i p a stands wires found.receives.items (receives_here a p.term laws.receives found.receives.items walked.receives)));
      least = subst (λ (o : Option ℕ). IsLeastOf (IsLeftBelow setting c (i + 1)) o) (sym adds.least) (least_further laws.delays found.delays.items walked.delays old.least so_far.least);
      trouble = subst (λ (o : Option Trouble). IsAskedBelow setting c (i + 1) o) (sym adds.trouble) (first_further laws.troubles found.troubles.items walked.troubles old.trouble so_far.trouble);
      done = subst (λ (b : Bool). TellsDoneBelow setting c (i + 1) b) (sym adds.done) (done_further old.done so_far.done);
      times = times_further laws.tests_computed laws.times_computed walked.times so_far.times;
    }
