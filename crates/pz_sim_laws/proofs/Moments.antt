-- The moment is the first that applies, and each offer has its number.
use Rattle.std.proofs.Common.{◌≡◌, ◌≤◌, ◌+◌, ◌-◌, ◌⊎◌, inl, inr, ℕ, zero, suc, List, [], ◌∷◌, ◌++◌, map, length, Option, Some, None, sym, subst, ap, ◌∙◌, length-append, arith}
use Rattle.std.specs.Prelude.{Contains, slice_get}
use Rattle.std.specs.Option.{option_or}
use Rattle.std.proofs.lemmas.List.{length-map}
use Rattle.std.proofs.lemmas.List.Elements.{Contains-append_left, Contains-append_right}
use Rattle.pz_tree_standing.specs.pz_offer.declared.trouble.Trouble.{Trouble}
use Rattle.pz_match.specs.Pairs.{Judged, taken, first_trouble}
use Rattle.pz_tree_standing.specs.pz_rules.declared.action.Action.{Action}
use Rattle.pz_tree_standing.specs.pz_rules.declared.action.Action.TheVariants.{Internal, Comm}
use Rattle.pz_tree_standing.specs.pz_rules.declared.moment.Moment.{Moment}
use Rattle.pz_tree_standing.specs.pz_rules.Settings.{Setting}
use Rattle.pz_tree_standing.specs.pz_rules.Heights.{IsLow}
use Rattle.pz_tree_standing.specs.pz_rules.Offers.{Offers, Before, IsOffers}
use Rattle.pz_tree_standing.specs.pz_rules.Moments as moments
use Rattle.pz_tree_standing.specs.pz_rules.Moments.{Source, SourceBefore, part, pair, Troubles, IsLeastTrouble, IsLeft, IsFirstHigh, AllDone, Candidate, rank, IsMoment}
use Rattle.pz_tree_standing.specs.pz_rules.Laws.{OneListOfOffers}
use Rattle.pz_tree_standing.specs.pz_rules.Runs.{IsChoice}
use Rattle.pz_tree_standing.specs.pz_rules.devices.Walk as walk
use Rattle.pz_tree_standing.specs.pz_rules.devices.Walk.{Noted, internal_actions}
use Rattle.pz_tree_standing.specs.pz_rules.devices.Walks.{InternalActionsAreListed, DelaysAreListed, TroublesAreListed}
use Rattle.pz_part_queries.specs.Laws.{OneVerdict}
use Rattle.pz_sim_totals.specs.declared.totals.Found.{Found}
use Rattle.pz_sim_totals.specs.Sums.{IsAction}
use Rattle.pz_sim_laws.specs.Members.{Member, config_of, AreMembers}
use Rattle.pz_sim_laws.specs.Couples.{communication, AreCouples}
use Rattle.pz_sim_laws.specs.Deciding.{total_of, total_of_all, calm, unless, offers_in, decided}
use Rattle.pz_sim_laws.proofs.Lists.{AllPairs-append, Contains-append_cases, all_by, got_cons, got_behind, got_mapped}
use Rattle.pz_sim_laws.proofs.Internals as internals
use Rattle.pz_sim_laws.proofs.Internals.{IsInternal, actions_from, counted, numbered, every_internal, internal_offered, internal_ordered}
use Rattle.pz_sim_laws.proofs.Pairing.{IsCommunication, IsJudgedFirst, communications, communications_ordered, is_communication, every_communication, judged_first}
use Rattle.pz_sim_laws.proofs.Sums.{IsLeastLeft, least_left, IsAsked, first_asked, TellsDone, tells_done}

module _ (setting : Setting) (clock : ℕ) (ms : List Member) (ps : List Judged) (are : AreMembers setting clock ms) (couples : AreCouples setting (config_of clock ms) ps) where
  -- Internal actions, and communications behind them

  module _ (listed : InternalActionsAreListed) (verdicts : OneVerdict) where
    abbrev behind : List Action
    behind = communications setting clock ms are verdicts ps couples

    abbrev pub all_offers : List Action
    all_offers = actions_from 0 ms ++ behind

    internal_first : (a b : Action) → IsInternal a → IsCommunication b → Before a b
    internal_first (Internal at kind pos) (Comm wire sender receiver message parcel) x y = tt
    internal_first (Internal at kind pos) (Internal at' kind' pos') x y = absurd y
    internal_first (Comm wire sender receiver message parcel) b x y = absurd x

    offered : (a : Action) → Contains all_offers a → Offers setting (config_of clock ms) a
    offered a there = by (Contains-append_cases (actions_from 0 ms) behind a there)
      where
        by : Contains (actions_from 0 ms) a ⊎ Contains behind a → Offers setting (config_of clock ms) a
        by (inl x) = (internal_offered setting clock ms are listed a x).offered
        by (inr x) = (is_communication setting clock ms are verdicts ps couples a x).1

    every_offer : (a : Action) → Offers setting (config_of clock ms) a → Contains all_offers a
    every_offer (Internal at kind pos) offer = Contains-append_left (actions_from 0 ms) behind (Internal at kind pos) (every_internal setting clock ms are listed (Internal at kind pos) tt offer)
    every_offer (Comm wire sender receiver message parcel) offer =
        Contains-append_right (actions_from 0 ms) behind (Comm wire sender receiver message parcel) (every_communication setting clock ms are verdicts ps couples (Comm wire sender receiver message parcel) tt offer)

    pub offers_are : IsOffers setting (config_of clock ms) all_offers
    offers_are = record {
      ordered = AllPairs-append Before (actions_from 0 ms) behind (internal_ordered setting clock ms are listed) (communications_ordered setting clock ms are verdicts ps couples) (λ a b here there.
          internal_first a b (internal_offered setting clock ms are listed a here).is_internal (is_communication setting clock ms are verdicts ps couples b there).0);
      derivable = all_by (Offers setting (config_of clock ms)) all_offers offered;
      every = every_offer;
    }

    pub offers_counted : length all_offers ≡ offers_in (total_of_all clock ms) ps
    offers_counted =
        let first = counted clock 0 ms in
        let second = length-map (taken ps) communication in
        length-append (actions_from 0 ms) behind ∙ (let e : length (actions_from 0 ms) + length behind ≡ (total_of_all clock ms).summary.internal + length (taken ps) = omega (arith, first, second) in e)

    -- by their numbers

    pub internal_numbered : (k : ℕ) (found : Found) (m : Member) (d : Noted walk.Doing) → IsAction (map (total_of clock) ms) k found → slice_get ms found.process ≡ Some m
        → slice_get (internal_actions m.seen m.term) found.number ≡ Some d
        → IsChoice setting (config_of clock ms) (offers_in (total_of_all clock ms) ps) k (Internal (record { process = found.process; place = d.place }) d.what.kind d.what.pos)
    internal_numbered k found m d is here got = record {
      offers = all_offers;
      all = offers_are;
      count = sym offers_counted;
      chosen = ap (slice_get all_offers) (sym is.before) ∙ got_cons (actions_from 0 ms) behind _ _ (numbered clock 0 found.process found.number ms m d here got)
          ∙ ap (λ (i : ℕ). Some (internals.action_of i d)) (let e : 0 + found.process ≡ found.process = omega arith in e);
    }

    pub communication_numbered : (j : ℕ) (p : Judged) → slice_get (taken ps) j ≡ Some p
        → IsChoice setting (config_of clock ms) (offers_in (total_of_all clock ms) ps) ((total_of_all clock ms).summary.internal + j) (communication p)
    communication_numbered j p got = record {
      offers = all_offers;
      all = offers_are;
      count = sym offers_counted;
      chosen = ap (λ (n : ℕ). slice_get all_offers (n + j)) (sym (counted clock 0 ms)) ∙ got_behind (actions_from 0 ms) behind j ∙ got_mapped communication (taken ps) j p got;
    }

  -- The least trouble, if there is one

  abbrev NoTrouble : Type 0
  NoTrouble = (source : Source) (t : Trouble) → Troubles setting (config_of clock ms) source t → ⊥

  abbrev IsTrouble : Option Trouble → Type 0
  IsTrouble None = NoTrouble
  IsTrouble (Some t) = IsLeastTrouble setting (config_of clock ms) t

  module _ (troubles : TroublesAreListed) (verdicts : OneVerdict) where
    asked_least : (t : Trouble) → IsAsked setting clock ms are troubles (Some t) → IsLeastTrouble setting (config_of clock ms) t
    asked_least t x = record { source = part x.at; occurs = x.occurs; least = least }
      where
        least : (other : Source) (u : Trouble) → Troubles setting (config_of clock ms) other u → SourceBefore other (part x.at) → ⊥
        least (part e) u h before = x.first e u h before
        least (pair w s r) u h before = before

    judged_least : (t : Trouble) → IsAsked setting clock ms are troubles None → IsJudgedFirst setting clock ms are verdicts ps couples (Some t) → IsLeastTrouble setting (config_of clock ms) t
    judged_least t none x = record { source = pair x.wire x.sender x.receiver; occurs = x.occurs; least = least }
      where
        least : (other : Source) (u : Trouble) → Troubles setting (config_of clock ms) other u → SourceBefore other (pair x.wire x.sender x.receiver) → ⊥
        least (part e) u h before = none e u h
        least (pair w s r) u h before = x.first w s r u h before

    trouble_by : (o q : Option Trouble) → IsAsked setting clock ms are troubles o → IsJudgedFirst setting clock ms are verdicts ps couples q → IsTrouble (option_or o q)
    trouble_by (Some t) q x y = asked_least t x
    trouble_by None (Some t) x y = judged_least t x y
    trouble_by None None x y = none
      where
        none : (source : Source) (t : Trouble) → Troubles setting (config_of clock ms) source t → ⊥
        none (part e) t h = x e t h
        none (pair w s r) t h = y w s r t h

    pub trouble_is : IsTrouble (option_or (total_of_all clock ms).summary.trouble (first_trouble ps))
    trouble_is = trouble_by (total_of_all clock ms).summary.trouble (first_trouble ps) (first_asked setting clock ms are troubles) (judged_first setting clock ms are verdicts ps couples)

  -- The first that applies

  module _ (low : IsLow setting (config_of clock ms)) where
    -- nothing is too high
    none_high : (t : Trouble) → IsFirstHigh setting (config_of clock ms) t → ⊥
    none_high t x = let high = x.high in let le = low x.number x.process x.stands.is_here in omega (arith, high, le)

    rank_one : (n : Moment) → Candidate setting (config_of clock ms) n → 1 ≤ rank n
    rank_one _ (moments.high t x) = absurd (none_high t x)
    rank_one _ (moments.faulty t x) = omega arith
    rank_one _ (moments.acting xs x some) = omega arith
    rank_one _ (moments.passing d x) = omega arith
    rank_one _ (moments.finished x) = omega arith
    rank_one _ moments.deadlock = omega arith

    rank_two : NoTrouble → (n : Moment) → Candidate setting (config_of clock ms) n → 2 ≤ rank n
    rank_two none _ (moments.high t x) = absurd (none_high t x)
    rank_two none _ (moments.faulty t x) = absurd (none x.source t x.occurs)
    rank_two none _ (moments.acting xs x some) = omega arith
    rank_two none _ (moments.passing d x) = omega arith
    rank_two none _ (moments.finished x) = omega arith
    rank_two none _ moments.deadlock = omega arith

    module _ (law : OneListOfOffers) where
      no_offers : (xs : List Action) → IsOffers setting (config_of clock ms) [] → IsOffers setting (config_of clock ms) xs → 1 ≤ length xs → ⊥
      no_offers xs none is some = omega (arith, some, ap length (law setting (config_of clock ms) xs [] is none))

      module _ (none : NoTrouble) (idle : IsOffers setting (config_of clock ms) []) where
        rank_three : (n : Moment) → Candidate setting (config_of clock ms) n → 3 ≤ rank n
        rank_three _ (moments.high t x) = absurd (none_high t x)
        rank_three _ (moments.faulty t x) = absurd (none x.source t x.occurs)
        rank_three _ (moments.acting xs x some) = absurd (no_offers xs idle x some)
        rank_three _ (moments.passing d x) = omega arith
        rank_three _ (moments.finished x) = omega arith
        rank_three _ moments.deadlock = omega arith

        rank_four : ((d : ℕ) → IsLeft setting (config_of clock ms) d → ⊥) → (n : Moment) → Candidate setting (config_of clock ms) n → 4 ≤ rank n
        rank_four still _ (moments.high t x) = absurd (none_high t x)
        rank_four still _ (moments.faulty t x) = absurd (none x.source t x.occurs)
        rank_four still _ (moments.acting xs x some) = absurd (no_offers xs idle x some)
        rank_four still _ (moments.passing d x) = absurd (still d x.is_left)
        rank_four still _ (moments.finished x) = omega arith
        rank_four still _ moments.deadlock = omega arith

        rank_five : ((d : ℕ) → IsLeft setting (config_of clock ms) d → ⊥) → (AllDone (config_of clock ms) → ⊥) → (n : Moment) → Candidate setting (config_of clock ms) n → 5 ≤ rank n
        rank_five still more _ (moments.high t x) = absurd (none_high t x)
        rank_five still more _ (moments.faulty t x) = absurd (none x.source t x.occurs)
        rank_five still more _ (moments.acting xs x some) = absurd (no_offers xs idle x some)
        rank_five still more _ (moments.passing d x) = absurd (still d x.is_left)
        rank_five still more _ (moments.finished x) = absurd (more x)
        rank_five still more _ moments.deadlock = omega arith

      module _ (delays : DelaysAreListed) where
        calm_is : (xs : List Action) (n : ℕ) → length xs ≡ n → NoTrouble → IsOffers setting (config_of clock ms) xs → (o : Option ℕ) → IsLeastLeft setting clock ms are delays o → (u : ℕ) → TellsDone clock ms u
            → IsMoment setting (config_of clock ms) (calm clock n o u)
        calm_is (x ∷ xs) n count none is o left u tells =
            subst (λ (k : ℕ). IsMoment setting (config_of clock ms) (calm clock k o u)) count (record { applies = moments.acting (x ∷ xs) is (omega arith); first = rank_two none })
        calm_is [] (suc n) count none is o left u tells = absurd (omega (arith, count))
        calm_is [] zero count none is (Some due) left u tells = record { applies = moments.passing (due - clock) left; first = rank_three none is }
        calm_is [] zero count none is None left zero tells = record { applies = moments.finished tells; first = rank_four none is left }
        calm_is [] zero count none is None left (suc u) tells = record { applies = moments.deadlock; first = rank_five none is left tells }

        by_trouble : (o : Option Trouble) (m : Moment) → IsTrouble o → (NoTrouble → IsMoment setting (config_of clock ms) m) → IsMoment setting (config_of clock ms) (unless o m)
        by_trouble (Some t) m x go = record { applies = moments.faulty t x; first = rank_one }
        by_trouble None m x go = go x

        pub moment_is : InternalActionsAreListed → TroublesAreListed → OneVerdict → IsMoment setting (config_of clock ms) (decided clock (total_of_all clock ms) ps)
        moment_is listed troubles verdicts =
            by_trouble (option_or (total_of_all clock ms).summary.trouble (first_trouble ps)) (calm clock (offers_in (total_of_all clock ms) ps) (total_of_all clock ms).summary.due (total_of_all clock ms).unfinished)
            (trouble_is troubles verdicts) (λ none.
            calm_is (all_offers listed verdicts) (offers_in (total_of_all clock ms) ps) (offers_counted listed verdicts) none (offers_are listed verdicts)
            (total_of_all clock ms).summary.due (least_left setting clock ms are delays) (total_of_all clock ms).unfinished (tells_done clock ms))
