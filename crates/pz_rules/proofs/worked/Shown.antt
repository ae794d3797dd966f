-- What a model shows event by event, and how the checker works it out.
use Rattle.std.proofs.Common.{◌≡◌, ◌≤◌, ◌⊎◌, inl, inr, ℕ, zero, suc, Bool, true, false, List, [], ◌∷◌, length, Option, Some, None, Result, Ok, refl, sym, subst, ap, ◌∙◌, arith}
use Rattle.std.specs.Prelude.{slice_get, nat_eq, nat_le, ◌&&◌}
use Rattle.std.specs.List.{All, Contains, list_any, list_all}
use Rattle.std.proofs.lemmas.Bool.{leb-true, and_parts, and_cases}
use Rattle.std.proofs.lemmas.List.Elements.{All-nil, All-cons, All-contains}
use Rattle.pz_bind_rules.specs.pz_classes_rules.Starts.{init}
use Rattle.pz_bind_levels.specs.Places.{Address}
use Rattle.pz_bind_rules.specs.Nest.{processes, class_at}
use Rattle.pz_offer.specs.pz_copy.Parcels.{ParcelView}
use Rattle.pz_offer.specs.declared.trouble.Trouble.{Trouble}
use Rattle.pz_rules.specs.declared.action.Action.{Action}
use Rattle.pz_rules.specs.declared.moment.Moment.{Moment}
use Rattle.pz_rules.specs.declared.moment.Moment.TheVariants.{Actions, Time, Finished, Deadlock}
use Rattle.pz_rules.specs.Terms.{Step, Term, done, height}
use Rattle.pz_rules.specs.Settings.{Setting, Process}
use Rattle.pz_rules.specs.Leaving.{is_done}
use Rattle.pz_rules.specs.Configurations.{Config}
use Rattle.pz_rules.specs.Offers.{IsOffers}
use Rattle.pz_rules.specs.Steps.{Next, PassesTo}
use Rattle.pz_rules.specs.Moments.{IsLeft, IsLeast, acting, passing, finished, deadlock, IsMoment}
use Rattle.pz_rules.specs.Starting.{begins_with, StartsAs, IsStart}
use Rattle.pz_rules.proofs.Locals.{some_is, no_some}
use Rattle.pz_rules.proofs.TooHigh.{NoneHigh, low_none}
use Rattle.pz_rules.proofs.Moments.{NoDelay, rank_two, rank_three, rank_four, rank_five}
use Rattle.pz_rules.proofs.Waiting.{next_config, passing_there}
use Rattle.pz_rules.proofs.worked.Wiring.{no_true, IsFlat}
use Rattle.pz_rules.proofs.worked.Ordered.{ordered, is_least, contains_number, at_least}
use Rattle.pz_rules.proofs.worked.Offered.{offered, offers_are, troubles, no_troubles, lefts, all_lefts, every_left}
use Rattle.pz_rules.proofs.worked.Followed.{parcel_sent, parcel_named, follows, follows_is}

-- What is shown

-- an event: the offers, the number of the one that is taken, from 0, and the configuration after it; or
-- how much time passes, and the configuration after it
pub data Shown : Type 0 where
  takes : List Action → ℕ → Config → Shown
  waits : ℕ → Config → Shown

module _ (setting : Setting) where
  -- these are the offers, and the one of this number leads to that configuration
  pub record Taken (c : Config) (offers : List Action) (number : ℕ) (next : Config) : Type 0 where
    pub moment : IsMoment setting c (Actions (length offers))
    pub offered : IsOffers setting c offers
    pub action : Action
    pub chosen : slice_get offers number ≡ Some action
    pub leads : Next setting c action (Ok next)

  -- so much time passes
  pub record Waited (c : Config) (time : ℕ) (next : Config) : Type 0 where
    pub moment : IsMoment setting c (Time time)
    pub leads : PassesTo setting c time next

  -- event by event from a configuration on, to one with that moment
  abbrev pub Shows : Config → List Shown → Moment → Type 0
  Shows c [] moment = IsMoment setting c moment
  Shows c (takes offers number next ∷ events) moment = Taken c offers number next × Shows next events moment
  Shows c (waits time next ∷ events) moment = Waited c time next × Shows next events moment

  -- from where the model starts
  pub record Trace (events : List Shown) (moment : Moment) : Type 0 where
    pub start : Config
    pub starts : IsStart setting start
    pub shows : Shows start events moment

-- Where a model starts, computed

module _ (setting : Setting) where
  abbrev first_process : Address → Option Step → Option Process
  first_process place None = None
  first_process place (Some s) = Some (begins_with setting place s)

  abbrev first_at : Address → Option Process
  first_at place = first_process place (init setting.model (class_at setting.model place))

  abbrev joined_to : Option Process → Option (List Process) → Option (List Process)
  joined_to None ps = None
  joined_to (Some p) None = None
  joined_to (Some p) (Some ps) = Some (p ∷ ps)

  abbrev first_processes : List Address → Option (List Process)
  first_processes [] = Some []
  first_processes (place ∷ places) = joined_to (first_at place) (first_processes places)

  pub record AllStart (places : List Address) (ps : List Process) : Type 0 where
    pub all : length ps ≡ length places
    pub each : (i : ℕ) (place : Address) (p : Process) → slice_get places i ≡ Some place → slice_get ps i ≡ Some p → StartsAs setting place p

  starts_as : (place : Address) (p : Process) (o : Option Step) → init setting.model (class_at setting.model place) ≡ o → first_process place o ≡ Some p → StartsAs setting place p
  starts_as place p None is e = no_some e
  starts_as place p (Some s) is e = record { call = s; is_call = is; stands = sym (some_is e) }

  all_start : (places : List Address) (ps : List Process) → first_processes places ≡ Some ps → AllStart places ps
  all_start [] ps e = record { all = ap length (sym (some_is e)); each = λ i place p at is. no_some at }
  all_start (q ∷ places) ps e = by (first_at q) refl (first_processes places) refl e (λ rs more. all_start places rs more)
    where
      by : (o : Option Process) → first_at q ≡ o → (r : Option (List Process)) → first_processes places ≡ r → joined_to o r ≡ Some ps → ((rs : List Process) → first_processes places ≡ Some rs → AllStart places rs) → AllStart (q ∷ places) ps
      by None is r rest found more = no_some found
      by (Some p) is None rest found more = no_some found
      by (Some p) is (Some rs) rest found more =
          let others = more rs rest in
          subst (AllStart (q ∷ places)) (some_is found) (record { all = ap suc others.all; each = one })
        where
          one : (i : ℕ) (place : Address) (z : Process) → slice_get (q ∷ places) i ≡ Some place → slice_get (p ∷ rs) i ≡ Some z → StartsAs setting place z
          one zero place z at here =
              subst (λ (x : Address). StartsAs setting x z) (some_is at) (subst (λ (y : Process). StartsAs setting q y) (some_is here) (starts_as q p (init setting.model (class_at setting.model q)) refl is))
          one (suc i) place z at here = (more rs rest).each i place z at here

  abbrev pub IsFirst : List Process → Type 0
  IsFirst ps = first_processes (processes setting.model) ≡ Some ps

  pub starts_there : (ps : List Process) → IsFirst ps → IsStart setting (record { clock = 0; processes = ps })
  starts_there ps is = let all = all_start (processes setting.model) ps is in record { clock = refl; all = all.all; each = all.each }

-- Moments, computed

done_is : (t : Term) → is_done t ≡ true → t ≡ done
done_is done is = refl
done_is t is = no_true is

module _ (setting : Setting) where
  -- whether all processes are done
  abbrev are_done : List Process → Bool
  are_done [] = true
  are_done (p ∷ ps) = is_done p.term && are_done ps

  -- whether no term is too high
  abbrev are_low : List Process → Bool
  are_low [] = true
  are_low (p ∷ ps) = nat_le (height p.term) setting.limits.height && are_low ps

  abbrev next_by : Config → Option Action → Option (Result Config Trouble)
  next_by c None = None
  next_by c (Some a) = follows setting c a

  abbrev sent_by : Config → Option Action → Option ParcelView
  sent_by c None = None
  sent_by c (Some a) = parcel_sent setting c a

  abbrev named_by : Config → Option Action → Option ParcelView
  named_by c None = None
  named_by c (Some a) = parcel_named setting c a

  -- All that is computed, as it is to be: no term that is too high; no trouble; the offers, in order; the parcel of the action; and
  -- what the action leads to. Where time passes, there is no offer, and so much is the least that is left.
  pub data Computed : Config → List Shown → Moment → Type 0 where
    acts : {c next : Config} {offers : List Action} {number : ℕ} {events : List Shown} {moment : Moment}
        → are_low c.processes ≡ true → troubles setting c ≡ [] → offered setting c ≡ offers → ordered offers ≡ true → sent_by c (slice_get offers number) ≡ named_by c (slice_get offers number)
        → next_by c (slice_get offers number) ≡ Some (Ok next) → Computed next events moment → Computed c (takes offers number next ∷ events) moment
    passes : {c next : Config} {time : ℕ} {events : List Shown} {moment : Moment}
        → are_low c.processes ≡ true → troubles setting c ≡ [] → offered setting c ≡ [] → is_least time (lefts setting c) ≡ true → next_config setting c time ≡ next
        → Computed next events moment → Computed c (waits time next ∷ events) moment
    ends : {c : Config} → are_low c.processes ≡ true → troubles setting c ≡ [] → offered setting c ≡ [] → lefts setting c ≡ [] → are_done c.processes ≡ true → Computed c [] Finished
    locks : {c : Config} → are_low c.processes ≡ true → troubles setting c ≡ [] → offered setting c ≡ [] → lefts setting c ≡ [] → are_done c.processes ≡ false → Computed c [] Deadlock

  module _ (flat : IsFlat setting.model) where
    no_offers : (c : Config) → offered setting c ≡ [] → IsOffers setting c []
    no_offers c none = offers_are setting c flat [] none refl

    no_delays : (c : Config) → lefts setting c ≡ [] → NoDelay setting c
    no_delays c none d h = let k = (subst (λ (ds : List ℕ). Contains ds d) none (every_left setting c d h)).1 in omega (arith, k)

    all_are_done : (ps : List Process) → are_done ps ≡ true → All (λ p. p.term ≡ done) ps
    all_are_done [] is = All-nil (λ p. p.term ≡ done)
    all_are_done (p ∷ ps) is = let parts = and_parts (is_done p.term) (are_done ps) is in All-cons (λ q. q.term ≡ done) p ps (done_is p.term parts.0) (all_are_done ps parts.1)

    not_done : (ps : List Process) → are_done ps ≡ false → All (λ p. p.term ≡ done) ps → ⊥
    not_done [] is all = no_true (sym is)
    not_done (p ∷ ps) is all = by (and_cases (is_done p.term) (are_done ps) is) (λ others. not_done ps others (λ k d within. all (suc k) d (omega (arith, within))))
      where
        by : (is_done p.term ≡ false) ⊎ (are_done ps ≡ false) → (are_done ps ≡ false → ⊥) → ⊥
        by (inl first) go = let e : p.term ≡ done = all 0 p (omega arith) in no_true (sym first ∙ ap is_done e)
        by (inr others) go = go others

    low_terms : (ps : List Process) → are_low ps ≡ true → (i : ℕ) (p : Process) → slice_get ps i ≡ Some p → height p.term ≤ setting.limits.height
    low_terms [] is i p here = no_some here
    low_terms (q ∷ ps) is zero p here = subst (λ (r : Process). height r.term ≤ setting.limits.height) (some_is here) (leb-true (height q.term) setting.limits.height (and_parts (nat_le (height q.term) setting.limits.height) (are_low ps) is).0)
    low_terms (q ∷ ps) is (suc i) p here = low_terms ps (and_parts (nat_le (height q.term) setting.limits.height) (are_low ps) is).1 i p here

    none_high : (c : Config) → are_low c.processes ≡ true → NoneHigh setting c
    none_high c is = low_none setting c (low_terms c.processes is)

    least : (c : Config) (d : ℕ) → is_least d (lefts setting c) ≡ true → IsLeast setting c d
    least c d is =
        let parts = and_parts (list_any (nat_eq d) (lefts setting c)) (list_all (nat_le d) (lefts setting c)) is in
        record {
          is_left = All-contains (IsLeft setting c) (lefts setting c) d (all_lefts setting c) (contains_number d (lefts setting c) parts.0);
          least = λ n h. All-contains (λ k. d ≤ k) (lefts setting c) n (at_least d (lefts setting c) parts.1) (every_left setting c n h);
        }

    taken_is : (c : Config) (offers : List Action) (number : ℕ) (next : Config) → are_low c.processes ≡ true → troubles setting c ≡ [] → offered setting c ≡ offers → ordered offers ≡ true
        → (o : Option Action) → slice_get offers number ≡ o → sent_by c o ≡ named_by c o → next_by c o ≡ Some (Ok next) → Taken setting c offers number next
    taken_is c offers number next low calm are in_order None chosen sent leads = no_some leads
    taken_is c [] number next low calm are in_order (Some a) chosen sent leads = no_some chosen
    taken_is c (x ∷ xs) number next low calm are in_order (Some a) chosen sent leads =
        let is = offers_are setting c flat (x ∷ xs) are in_order in
        record {
          moment = record { applies = acting (x ∷ xs) is (omega arith); first = rank_two setting c (none_high c low) (no_troubles setting c flat calm) };
          offered = is;
          action = a;
          chosen = chosen;
          leads = follows_is setting c a (Ok next) sent leads;
        }

    waited_is : (c : Config) (time : ℕ) (next : Config) → are_low c.processes ≡ true → troubles setting c ≡ [] → offered setting c ≡ [] → is_least time (lefts setting c) ≡ true → next_config setting c time ≡ next → Waited setting c time next
    waited_is c time next low calm none is leads = record {
      moment = record { applies = passing time (least c time is); first = rank_three setting c (none_high c low) (no_troubles setting c flat calm) (no_offers c none) };
      leads = subst (PassesTo setting c time) leads (passing_there setting c time (no_troubles setting c flat calm));
    }

    pub shown : (c : Config) (events : List Shown) (moment : Moment) → Computed c events moment → Shows setting c events moment
    shown _ _ _ (acts {c} {next} {offers} {number} {events} {moment} low calm are in_order sent leads rest) =
        (taken_is c offers number next low calm are in_order (slice_get offers number) refl sent leads, shown next events moment rest)
    shown _ _ _ (passes {c} {next} {time} {events} {moment} low calm none is leads rest) = (waited_is c time next low calm none is leads, shown next events moment rest)
    shown _ _ _ (ends {c} low calm none still all) =
        record { applies = finished (all_are_done c.processes all); first = rank_four setting c (none_high c low) (no_troubles setting c flat calm) (no_offers c none) (no_delays c still) }
    shown _ _ _ (locks {c} low calm none still more) =
        record { applies = deadlock; first = rank_five setting c (none_high c low) (no_troubles setting c flat calm) (no_offers c none) (no_delays c still) (not_done c.processes more) }

  pub traced : IsFlat setting.model → (ps : List Process) (events : List Shown) (moment : Moment) → IsFirst setting ps → Computed (record { clock = 0; processes = ps }) events moment → Trace setting events moment
  traced flat ps events moment first h = record { start = record { clock = 0; processes = ps }; starts = starts_there setting ps first; shows = shown flat (record { clock = 0; processes = ps }) events moment h }
