-- The moment is the first that applies.
use Rattle.std.proofs.Common.{◌≡◌, ◌≤◌, ℕ, suc, Bool, true, false, List, [], ◌∷◌, ◌++◌, length, get_or, Option, Some, None, refl, sym, subst, ap, arith}
use Rattle.std.specs.Prelude.{is_some, Vec, AllPairs, Contains}
use Rattle.std.specs.declared.alloc.Global.{Global}
use Rattle.std.proofs.lemmas.List.Elements.{All-append, All-weaker, Contains-get_or, Contains-append_left, Contains-append_right, All-contains}
use Rattle.std.proofs.lemmas.List.Kept.{AllPairs-cons}
use Rattle.pz_rules.specs.pz_offer.declared.trouble.Trouble.{Trouble}
use Rattle.pz_rules.specs.declared.action.Action.{Action}
use Rattle.pz_rules.specs.declared.action.Action.TheVariants.{Internal, Comm}
use Rattle.pz_rules.specs.declared.moment.Moment.{Moment}
use Rattle.pz_rules.specs.declared.moment.Moment.TheVariants.{Faulty}
use Rattle.pz_rules.specs.Settings.{Setting}
use Rattle.pz_rules.specs.Configurations.{Config}
use Rattle.pz_rules.specs.Heights.{IsLow}
use Rattle.pz_rules.specs.Offers.{Offers, Before, IsOffers}
use Rattle.pz_rules.specs.Moments as moments
use Rattle.pz_rules.specs.Moments.{Source, SourceBefore, part, pair, Troubles, IsLeastTrouble, IsLeft, IsFirstHigh, AllDone, Candidate, rank, IsMoment}
use Rattle.pz_rules.specs.Laws.{OneListOfOffers}
use Rattle.pz_term_enabled.specs.Surveyed.{IsInternal, AreInternal, IsLeastLeft, IsFirstAsked, IsAsked, TellsDone, IsSurveyed}
use Rattle.pz_term_enabled.specs.declared.findings.Survey.{Survey}
use Rattle.pz_term_enabled.specs.Looking.{AreActionsAt}
use Rattle.pz_term_enabled.specs.devices.Communications.{IsCommunication, AreCommunications, AddsCommunications, IsFirstJudged, OfAll}
use Rattle.pz_term_enabled.specs.devices.Deciding.{calm_moment, NoTrouble, IsTrouble, Decides}

-- Internal actions, and communications behind them

AllPairs-append : {X : Type 0} (R : X → X → Type 0) (xs ys : List X) → AllPairs R xs → AllPairs R ys → ((x y : X) → Contains xs x → Contains ys y → R x y) → AllPairs R (xs ++ ys)
AllPairs-append R [] ys first second across = second
AllPairs-append {X} R (x ∷ xs) ys first second across =
    AllPairs-cons R x (xs ++ ys)
    (All-append (R x) xs ys (λ k d within. first 0 (suc k) d (omega arith) (omega (arith, within))) (λ k d within. across x (get_or ys k d) (0, omega arith, refl) (Contains-get_or ys k d within)))
    (AllPairs-append R xs ys (λ i j d before within. first (suc i) (suc j) d (omega (arith, before)) (omega (arith, within))) second (λ y z there. across y z (suc there.0, omega (arith, there.1), there.2)))

module _ (setting : Setting) (c : Config) where
  internal_first : (a b : Action) → IsInternal a → IsCommunication b → Before a b
  internal_first (Internal at kind pos) (Comm wire sender receiver message parcel) x y = tt
  internal_first (Internal at kind pos) (Internal at' kind' pos') x y = absurd y
  internal_first (Comm wire sender receiver message parcel) b x y = absurd x

  every_offer : (xs ys : List Action) → AreInternal setting c xs → AreCommunications setting c ys → (a : Action) → Offers setting c a → Contains (xs ++ ys) a
  every_offer xs ys are_internal are (Internal at kind pos) offer = Contains-append_left xs ys (Internal at kind pos) (are_internal.every (Internal at kind pos) tt offer)
  every_offer xs ys are_internal are (Comm wire sender receiver message parcel) offer = Contains-append_right xs ys (Comm wire sender receiver message parcel) (are.every (Comm wire sender receiver message parcel) tt offer)

  offers_are : (xs ys : List Action) → AreInternal setting c xs → AreCommunications setting c ys → IsOffers setting c (xs ++ ys)
  offers_are xs ys x y = record {
    ordered = AllPairs-append Before xs ys x.ordered y.ordered (λ a b here there.
        internal_first a b (All-contains (λ z. IsInternal z × Offers setting c z) xs a x.derivable here).0 (All-contains (λ z. IsCommunication z × Offers setting c z) ys b y.derivable there).0);
    derivable = All-append (Offers setting c) xs ys
        (All-weaker (λ z. IsInternal z × Offers setting c z) (Offers setting c) (λ z h. h.1) xs x.derivable)
        (All-weaker (λ z. IsCommunication z × Offers setting c z) (Offers setting c) (λ z h. h.1) ys y.derivable);
    every = every_offer xs ys x y;
  }

  -- The least trouble, if there is one

  asked_least : (t : Trouble) → IsFirstAsked setting c t → IsLeastTrouble setting c t
  asked_least t x = record { source = part x.at; occurs = x.occurs; least = least }
    where
      least : (other : Source) (u : Trouble) → Troubles setting c other u → SourceBefore other (part x.at) → ⊥
      least (part e) u h before = x.first e u h before
      least (pair w s r) u h before = before

  judged_least : (t : Trouble) → IsAsked setting c None → IsFirstJudged setting c t → IsLeastTrouble setting c t
  judged_least t calm x = record { source = pair x.wire x.sender x.receiver; occurs = x.occurs; least = least }
    where
      least : (other : Source) (u : Trouble) → Troubles setting c other u → SourceBefore other (pair x.wire x.sender x.receiver) → ⊥
      least (part e) u h before = calm e u h
      least (pair w s r) u h before = x.first w s r u h before

  no_trouble : (old new : List Action) → IsAsked setting c None → AddsCommunications setting c old new → NoTrouble setting c
  no_trouble old new calm x (part e) u h = calm e u h
  no_trouble old new calm x (pair w s r) u h = x.calm w s r u h

  not_asked : (o : Option Trouble) → is_some o ≡ false → IsAsked setting c o → IsAsked setting c None
  not_asked None calm x = x
  not_asked (Some t) calm x = absurd (differ calm)
    where
      differ : is_some (Some t) ≡ false → ⊥
      differ e = cc

  least_asked : (o : Option Trouble) → is_some o ≡ true → IsAsked setting c o → IsTrouble setting c o
  least_asked None some x = cc
  least_asked (Some t) some x = asked_least t x

  -- What decides the moment

  some_no_offers : (found : Survey) (o : Option Trouble) → is_some o ≡ true → o ≡ None → IsOffers setting c found.internal.items
  some_no_offers found None some none = cc
  some_no_offers found (Some t) some none = cc

  pub asked_decides : (found : Survey) → IsSurveyed setting c found → is_some found.trouble ≡ true → Decides setting c found found.trouble
  asked_decides found x some = record { trouble_is = least_asked found.trouble some x.trouble; offers = some_no_offers found found.trouble some; least = x.least; done = x.done }

  judged_decides : (found : Survey) (v : Vec Action Global) (trouble : Option Trouble) → IsSurveyed setting c found → IsAsked setting c None → OfAll setting c found.internal.items v.items trouble
      → Decides setting c (record found { internal = v }) trouble
  judged_decides found v None x calm y = record {
    trouble_is = no_trouble found.internal.items v.items calm y;
    offers = λ none. subst (λ (l : List Action). IsOffers setting c l) (sym y.added) (offers_are found.internal.items y.more x.internal y.are);
    least = x.least;
    done = x.done;
  }
  judged_decides found v (Some t) x calm y = record { trouble_is = judged_least t calm y; offers = λ none. cc; least = x.least; done = x.done }

  pub pairs_decide : (found : Survey) (v : Vec Action Global) (trouble : Option Trouble) → IsSurveyed setting c found → is_some found.trouble ≡ false → OfAll setting c found.internal.items v.items trouble
      → Decides setting c (record found { internal = v }) trouble
  pairs_decide found v trouble x calm y = judged_decides found v trouble x (not_asked found.trouble calm x.trouble) y

  -- The first that applies

  module _ (low : IsLow setting c) where
    -- nothing is too high
    none_high : (t : Trouble) → IsFirstHigh setting c t → ⊥
    none_high t x = omega (arith, x.high, low x.number x.process x.stands.is_here)

    rank_one : (n : Moment) → Candidate setting c n → 1 ≤ rank n
    rank_one _ (moments.high t x) = absurd (none_high t x)
    rank_one _ (moments.faulty t x) = omega arith
    rank_one _ (moments.acting xs x some) = omega arith
    rank_one _ (moments.passing d x) = omega arith
    rank_one _ (moments.finished x) = omega arith
    rank_one _ moments.deadlock = omega arith

    faulty_is : (t : Trouble) → IsLeastTrouble setting c t → IsMoment setting c (Faulty t)
    faulty_is t x = record { applies = moments.faulty t x; first = rank_one }

    pub troubled_moment : (found : Survey) (trouble : Option Trouble) (t : Trouble) → trouble ≡ Some t → Decides setting c found trouble → IsMoment setting c (Faulty t)
    troubled_moment found trouble t is x = faulty_is t (subst (λ (o : Option Trouble). IsTrouble setting c o) is x.trouble_is)

    rank_two : NoTrouble setting c → (n : Moment) → Candidate setting c n → 2 ≤ rank n
    rank_two calm _ (moments.high t x) = absurd (none_high t x)
    rank_two calm _ (moments.faulty t x) = absurd (calm x.source t x.occurs)
    rank_two calm _ (moments.acting xs x some) = omega arith
    rank_two calm _ (moments.passing d x) = omega arith
    rank_two calm _ (moments.finished x) = omega arith
    rank_two calm _ moments.deadlock = omega arith

    module _ (law : OneListOfOffers) where
      no_offers : (xs : List Action) → IsOffers setting c [] → IsOffers setting c xs → 1 ≤ length xs → ⊥
      no_offers xs none is some = omega (arith, some, ap length (law setting c xs [] is none))

      module _ (calm : NoTrouble setting c) (none : IsOffers setting c []) where
        rank_three : (n : Moment) → Candidate setting c n → 3 ≤ rank n
        rank_three _ (moments.high t x) = absurd (none_high t x)
        rank_three _ (moments.faulty t x) = absurd (calm x.source t x.occurs)
        rank_three _ (moments.acting xs x some) = absurd (no_offers xs none x some)
        rank_three _ (moments.passing d x) = omega arith
        rank_three _ (moments.finished x) = omega arith
        rank_three _ moments.deadlock = omega arith

        rank_four : ((d : ℕ) → IsLeft setting c d → ⊥) → (n : Moment) → Candidate setting c n → 4 ≤ rank n
        rank_four still _ (moments.high t x) = absurd (none_high t x)
        rank_four still _ (moments.faulty t x) = absurd (calm x.source t x.occurs)
        rank_four still _ (moments.acting xs x some) = absurd (no_offers xs none x some)
        rank_four still _ (moments.passing d x) = absurd (still d x.is_left)
        rank_four still _ (moments.finished x) = omega arith
        rank_four still _ moments.deadlock = omega arith

        rank_five : ((d : ℕ) → IsLeft setting c d → ⊥) → (AllDone c → ⊥) → (n : Moment) → Candidate setting c n → 5 ≤ rank n
        rank_five still more _ (moments.high t x) = absurd (none_high t x)
        rank_five still more _ (moments.faulty t x) = absurd (calm x.source t x.occurs)
        rank_five still more _ (moments.acting xs x some) = absurd (no_offers xs none x some)
        rank_five still more _ (moments.passing d x) = absurd (still d x.is_left)
        rank_five still more _ (moments.finished x) = absurd (more x)
        rank_five still more _ moments.deadlock = omega arith

      calm_is : (xs : List Action) (least : Option ℕ) (done : Bool) → NoTrouble setting c → IsOffers setting c xs → IsLeastLeft setting c least → TellsDone setting c done → IsMoment setting c (calm_moment (length xs) least done)
      calm_is (x ∷ xs) least done calm is left tells = record { applies = moments.acting (x ∷ xs) is (omega arith); first = rank_two calm }
      calm_is [] (Some d) done calm is left tells = record { applies = moments.passing d left; first = rank_three calm is }
      calm_is [] None true calm is left tells = record { applies = moments.finished tells; first = rank_four calm is left }
      calm_is [] None false calm is left tells = record { applies = moments.deadlock; first = rank_five calm is left tells }

      pub found_moment : (found : Survey) (trouble : Option Trouble) → trouble ≡ None → Decides setting c found trouble → IsMoment setting c (calm_moment (length found.internal.items) found.least found.done)
      found_moment found trouble none x =
          calm_is found.internal.items found.least found.done (subst (λ (o : Option Trouble). IsTrouble setting c o) none x.trouble_is) (x.offers none) x.least x.done

  calm_actions : (xs : List Action) (least : Option ℕ) (done : Bool) → IsOffers setting c xs → AreActionsAt setting c (calm_moment (length xs) least done) xs
  calm_actions (x ∷ xs) least done is = is
  calm_actions [] (Some d) done is = refl
  calm_actions [] None true is = refl
  calm_actions [] None false is = refl

  pub found_actions : (found : Survey) (trouble : Option Trouble) → trouble ≡ None → Decides setting c found trouble → AreActionsAt setting c (calm_moment (length found.internal.items) found.least found.done) found.internal.items
  found_actions found trouble none x = calm_actions found.internal.items found.least found.done (x.offers none)
