-- What comes of pairs that are judged in order: the communications that are offered, or the first
-- trouble of a condition.
use Rattle.std.proofs.Common.{◌≡◌, ◌<◌, ◌≤◌, ◌+◌, ◌⊎◌, inl, inr, ℕ, Bool, true, false, List, [], ◌∷◌, ◌++◌, length, get_or, take, Option, Some, None, Result, Ok, Err, refl, sym, subst, ap, ◌∙◌, append_assoc, append-nil, arith}
use Rattle.std.specs.Prelude.{slice_get, is_some, All, AllPairs, Contains}
use Rattle.std.proofs.lemmas.Bool.{cases_lt}
use Rattle.std.proofs.lemmas.Option.{same_Some, slice_get_within, slice_get_read, slice_get-get_or, get_or_from_slice_get}
use Rattle.std.proofs.lemmas.List.{get_or_append_left, get_or_push, get_or-take, length-take-le, length_push, take_more}
use Rattle.std.proofs.lemmas.List.Elements.{All-contains, Contains-get_or, Contains-append_left, Contains-push, Contains-push_cases}
use Rattle.std.proofs.lemmas.List.Quantifiers.{all_pairs_push}
use Rattle.pz_rules.specs.pz_copy.Parcels.{ParcelView}
use Rattle.pz_rules.specs.pz_offer.declared.end.End.{End}
use Rattle.pz_rules.specs.pz_offer.declared.trouble.Trouble.{Trouble}
use Rattle.pz_rules.specs.declared.action.Action.{Action}
use Rattle.pz_rules.specs.declared.action.Action.TheVariants.{Comm}
use Rattle.pz_rules.specs.Settings.{Setting}
use Rattle.pz_rules.specs.Configurations.{Config}
use Rattle.pz_rules.specs.Offers as offers
use Rattle.pz_rules.specs.Offers.{IsPair, IsJudged, Offers, Before, PairBefore}
use Rattle.pz_rules.specs.Moments as moments
use Rattle.pz_rules.specs.Moments.{Source, pair, Troubles}
use Rattle.pz_term_processes.specs.pz_part_queries.Laws.{OneVerdict}
use Rattle.pz_term_matching.specs.declared.ends.Sender.{Sender}
use Rattle.pz_term_matching.specs.declared.ends.Receiver.{Receiver}
use Rattle.pz_term_matching.specs.declared.ends.Pair.{Pair}
use Rattle.pz_term_matching.specs.Matches as matches
use Rattle.pz_term_matching.specs.Matches.{AreMatches, Fits}
use Rattle.pz_term_enabled.specs.Surveyed.{AreSenders, AreReceivers}
use Rattle.pz_term_enabled.specs.devices.Judged as judged
use Rattle.pz_term_enabled.specs.devices.Judged.{communication_of, SaysTo, OfOne, Joins, AreJudged, AddsAll, FailsAt, OfPairs}
use Rattle.pz_term_enabled.specs.devices.Communications.{IsCommunication, AddsCommunications, IsFirstJudged, OfAll}
use Rattle.pz_term_enabled.proofs.Pairs.{pairs_got, contained_got, same_got, pair_asymmetric, sender_of, receiver_of, pair_is, Placed, placed, pair_before}
use Rattle.pz_term_enabled.proofs.Verdicts.{verdict_once}

-- all but the last of a list in order, and the last

front_pairs : {X : Type 0} (R : X → X → Type 0) (xs : List X) (y : X) → AllPairs R (xs ++ y ∷ []) → AllPairs R xs
front_pairs {X} R xs y pairs i j d less within =
    let before : i < length xs = omega (arith, less, within) in
    subst (λ (z : X). R (get_or xs i d) z) (get_or_append_left xs (y ∷ []) d j within)
    (subst (λ (z : X). R z (get_or (xs ++ y ∷ []) j d)) (get_or_append_left xs (y ∷ []) d i before)
    (pairs i j d less (omega (arith, within, length_push xs y))))

last_pairs : {X : Type 0} (R : X → X → Type 0) (xs : List X) (y x : X) → AllPairs R (xs ++ y ∷ []) → Contains xs x → R x y
last_pairs {X} R xs y x pairs (k, within, is) =
    subst (λ (z : X). R x z) (get_or_push xs y x (length xs) refl)
    (subst (λ (z : X). R z (get_or (xs ++ y ∷ []) (length xs) x)) (get_or_append_left xs (y ∷ []) x k within ∙ is)
    (pairs k (length xs) x within (omega (arith, length_push xs y))))

contained_before : {X : Type 0} (xs : List X) (x : X) (k n : ℕ) → k < length xs → get_or xs k x ≡ x → k < n → n ≤ length xs → Contains (take n xs) x
contained_before xs x k n within is before most = (k, omega (arith, before, length-take-le n xs most), get_or-take n xs k x before ∙ is)

ok_is : {a b : Bool} → (let r : Result Bool Trouble = Ok a in r) ≡ Ok b → a ≡ b
ok_is e = cc

ok_no_err : {b : Bool} {t : Trouble} → (let r : Result Bool Trouble = Ok b in r) ≡ Err t → ⊥
ok_no_err e = cc

module _ (setting : Setting) (c : Config) (senders : List Sender) (receivers : List Receiver) where
  -- a pair that is judged, whose communication is there if it is taken
  record Judged (p : Pair) (more : List Action) : Type 0 where
    sender : Sender
    receiver : Receiver
    joins : Joins setting c senders receivers p sender receiver
    takes : Bool
    says : SaysTo setting c sender receiver (Ok takes)
    added : takes ≡ true → Contains more (communication_of sender receiver)

  judged_push : (p : Pair) (more : List Action) (a : Action) → Judged p more → Judged p (more ++ a ∷ [])
  judged_push p more a j = record { sender = j.sender; receiver = j.receiver; joins = j.joins; takes = j.takes; says = j.says; added = λ is. Contains-append_left more (a ∷ []) (communication_of j.sender j.receiver) (j.added is) }

  joins_same : (p q : Pair) (s : Sender) (r : Receiver) → q ≡ p → Joins setting c senders receivers q s r → Joins setting c senders receivers p s r
  joins_same p q s r same joins = subst (λ (z : Pair). Joins setting c senders receivers z s r) same joins

  judged_of : {ps : List Pair} {more : List Action} → AreJudged setting c senders receivers ps more → (p : Pair) → Contains ps p → Judged p more
  judged_of judged.none p (k, within, is) = absurd (omega (arith, within))
  judged_of (judged.and_taken ps more q s r before joins says) p there = by (λ earlier. judged_of before p earlier) (Contains-push_cases ps q p there)
    where
      by : (Contains ps p → Judged p more) → Contains ps p ⊎ (q ≡ p) → Judged p (more ++ communication_of s r ∷ [])
      by rest (inl earlier) = judged_push p more (communication_of s r) (rest earlier)
      by rest (inr same) = record { sender = s; receiver = r; joins = joins_same p q s r same joins; takes = true; says = says; added = λ is. Contains-push more (communication_of s r) }
  judged_of (judged.and_refused ps more q s r before joins says) p there = by (λ earlier. judged_of before p earlier) (Contains-push_cases ps q p there)
    where
      never : false ≡ true → Contains more (communication_of s r)
      never e = cc

      by : (Contains ps p → Judged p more) → Contains ps p ⊎ (q ≡ p) → Judged p more
      by rest (inl earlier) = rest earlier
      by rest (inr same) = record { sender = s; receiver = r; joins = joins_same p q s r same joins; takes = false; says = says; added = never }

  -- the pair of a communication
  record Comes (ps : List Pair) (a : Action) : Type 0 where
    from : Pair
    within : Contains ps from
    sender : Sender
    receiver : Receiver
    joins : Joins setting c senders receivers from sender receiver
    says : SaysTo setting c sender receiver (Ok true)
    is : a ≡ communication_of sender receiver

  comes_push : (ps : List Pair) (q : Pair) (a : Action) → Comes ps a → Comes (ps ++ q ∷ []) a
  comes_push ps q a x = record { from = x.from; within = Contains-append_left ps (q ∷ []) x.from x.within; sender = x.sender; receiver = x.receiver; joins = x.joins; says = x.says; is = x.is }

  comes_of : {ps : List Pair} {more : List Action} → AreJudged setting c senders receivers ps more → (a : Action) → Contains more a → Comes ps a
  comes_of judged.none a (k, within, is) = absurd (omega (arith, within))
  comes_of (judged.and_taken ps more q s r before joins says) a there = by (λ earlier. comes_of before a earlier) (Contains-push_cases more (communication_of s r) a there)
    where
      by : (Contains more a → Comes ps a) → Contains more a ⊎ (communication_of s r ≡ a) → Comes (ps ++ q ∷ []) a
      by rest (inl earlier) = comes_push ps q a (rest earlier)
      by rest (inr same) = record { from = q; within = Contains-push ps q; sender = s; receiver = r; joins = joins; says = says; is = sym same }
  comes_of (judged.and_refused ps more q s r before joins says) a there = comes_push ps q a (comes_of before a there)

  module _ (are_senders : AreSenders setting c senders) (are_receivers : AreReceivers setting c receivers) where
    in_order : {ps : List Pair} {more : List Action} → AreJudged setting c senders receivers ps more → AllPairs (matches.Before senders) ps → AllPairs Before more
    in_order judged.none pairs = λ i j d less within. absurd (omega (arith, within))
    in_order (judged.and_refused ps more q s r before joins says) pairs = in_order before (front_pairs (matches.Before senders) ps q pairs)
    in_order (judged.and_taken ps more q s r before joins says) pairs =
        all_pairs_push Before more (communication_of s r) (in_order before (front_pairs (matches.Before senders) ps q pairs)) (λ k d within.
        let x = comes_of before (get_or more k d) (Contains-get_or more k d within) in
        subst (λ (a : Action). Before a (communication_of s r)) (sym x.is)
        (pair_before setting c senders receivers are_senders are_receivers x.from q x.sender s x.receiver r x.joins joins (last_pairs (matches.Before senders) ps q x.from pairs x.within)))

    module _ (law : OneVerdict) where
      -- the verdict of a pair of the rules that is among those that are judged
      record Told (wire : ℕ) (sender receiver : End) (message : List ℕ) (parcel : ParcelView) (more : List Action) : Type 0 where
        takes : Bool
        says : IsJudged setting c receiver parcel (Ok takes)
        added : takes ≡ true → Contains more (Comm wire sender receiver message parcel)

      told : {ps : List Pair} {more : List Action} → AreJudged setting c senders receivers ps more → (wire : ℕ) (sender receiver : End) (message : List ℕ) (parcel : ParcelView)
          → (x : Placed setting c senders receivers are_senders are_receivers wire sender receiver message parcel) → Contains ps x.at → Told wire sender receiver message parcel more
      told {ps} {more} are wire sender receiver message parcel x there =
          let j = judged_of are x.at there in
          let s : Sender = sender_of setting c wire sender message parcel in
          let r : Receiver = receiver_of setting c wire receiver message parcel in
          let from : j.sender ≡ s = same_Some j.sender s (sym j.joins.sends ∙ x.joins.sends) in
          let to : j.receiver ≡ r = same_Some j.receiver r (sym j.joins.receives ∙ x.joins.receives) in
          record {
            takes = j.takes;
            says = subst (λ (z : Receiver). SaysTo setting c s z (Ok j.takes)) to (subst (λ (z : Sender). SaysTo setting c z j.receiver (Ok j.takes)) from j.says);
            added = λ is. subst (λ (z : Receiver). Contains more (communication_of s z)) to (subst (λ (z : Sender). Contains more (communication_of z j.receiver)) from (j.added is));
          }

      calm_by : (ps : List Pair) (more : List Action) (wire : ℕ) (sender receiver : End) (t : Trouble) → AreJudged setting c senders receivers ps more
          → ((message : List ℕ) (parcel : ParcelView) (x : Placed setting c senders receivers are_senders are_receivers wire sender receiver message parcel) → Contains ps x.at) → Troubles setting c (pair wire sender receiver) t → ⊥
      calm_by ps more _ _ _ _ are there (moments.judged wire sender receiver message parcel t is_pair fails) =
          let x = placed setting c senders receivers are_senders are_receivers wire sender receiver message parcel is_pair in
          let y = told are wire sender receiver message parcel x (there message parcel x) in
          ok_no_err (verdict_once setting c law receiver parcel (Ok y.takes) (Err t) y.says fails)

      module _ (pairs : List Pair) (are_matches : AreMatches senders receivers pairs) where
        offered : (more : List Action) → AreJudged setting c senders receivers pairs more → (a : Action) → IsCommunication a → Offers setting c a → Contains more a
        offered more are _ is (offers.internal at a frame part kind pos active can) = absurd is
        offered more are _ is (offers.communication wire sender receiver message parcel is_pair takes) =
            let x = placed setting c senders receivers are_senders are_receivers wire sender receiver message parcel is_pair in
            let y = told are wire sender receiver message parcel x (are_matches.every x.at x.fits) in
            y.added (ok_is (verdict_once setting c law receiver parcel (Ok y.takes) (Ok true) y.says takes))

        is_offered : (more : List Action) → AreJudged setting c senders receivers pairs more → All (λ a. IsCommunication a × Offers setting c a) more
        is_offered more are k d within =
            let x = comes_of are (get_or more k d) (Contains-get_or more k d within) in
            let fits = All-contains (Fits senders receivers) pairs x.from are_matches.fit x.within in
            subst (λ (a : Action). IsCommunication a × Offers setting c a) (sym x.is) (
              tt,
              offers.communication x.sender.wire x.sender.end x.receiver.end x.sender.message x.sender.parcel
                  (pair_is setting c senders receivers are_senders are_receivers x.from x.sender x.receiver fits x.joins) x.says,
            )

        all_added : (old new : List Action) → AddsAll setting c senders receivers pairs old new → AddsCommunications setting c old new
        all_added old new x = record {
          more = x.more;
          added = x.added;
          are = record { ordered = in_order x.judged are_matches.ordered; derivable = is_offered x.more x.judged; every = offered x.more x.judged };
          calm = λ wire sender receiver t. calm_by pairs x.more wire sender receiver t x.judged (λ message parcel y. are_matches.every y.at y.fits);
        }

        -- a pair that is before one of these is among those before it
        among : (place : ℕ) (p q : Pair) (s s' : Sender) (r r' : Receiver) → slice_get pairs place ≡ Some p → Joins setting c senders receivers p s r → Joins setting c senders receivers q s' r' → (there : Contains pairs q)
            → PairBefore s'.wire s'.end r'.end s.wire s.end r.end → Contains (take place pairs) q
        among place p q s s' r r' is_p x y there before = by (cases_lt there.0 place) (cases_lt place there.0)
          where
            none : PairBefore s.wire s.end r.end s'.wire s'.end r'.end → ⊥
            none after = pair_asymmetric s.wire s'.wire s.end s'.end r.end r'.end after before

            by : (there.0 < place) ⊎ (place ≤ there.0) → (place < there.0) ⊎ (there.0 ≤ place) → Contains (take place pairs) q
            by (inl less) other = contained_before pairs q there.0 place there.1 there.2 less (omega (arith, slice_get_within pairs place p is_p))
            by (inr more) (inl less) =
                absurd (none (pair_before setting c senders receivers are_senders are_receivers p q s s' r r' x y (pairs_got (matches.Before senders) pairs place there.0 p q are_matches.ordered less is_p (contained_got pairs q there))))
            by (inr more) (inr most) =
                let same : p ≡ q = same_got pairs place there.0 p q (omega (arith, more, most)) is_p (contained_got pairs q there) in
                let from : s ≡ s' = same_Some s s' (sym x.sends ∙ ap (λ (z : Pair). slice_get senders z.sender) same ∙ y.sends) in
                let to : r ≡ r' = same_Some r r' (sym x.receives ∙ ap (λ (z : Pair). slice_get receivers z.receiver) same ∙ y.receives) in
                let again : PairBefore s'.wire s'.end r'.end s'.wire s'.end r'.end = subst (λ (z : Receiver). PairBefore s'.wire s'.end r'.end s'.wire s'.end z.end) to (subst (λ (z : Sender). PairBefore s'.wire s'.end r'.end z.wire z.end r.end) from before) in
                absurd (pair_asymmetric s'.wire s'.wire s'.end s'.end r'.end r'.end again again)

        first_fails : (t : Trouble) → FailsAt setting c senders receivers pairs t → IsFirstJudged setting c t
        first_fails t x =
            let there : Contains pairs x.pair = (x.place, slice_get_within pairs x.place x.pair x.is_pair, get_or_from_slice_get pairs x.place x.pair x.pair x.is_pair) in
            let fits = All-contains (Fits senders receivers) pairs x.pair are_matches.fit there in
            record {
              wire = x.sender.wire;
              sender = x.sender.end;
              receiver = x.receiver.end;
              occurs = moments.judged x.sender.wire x.sender.end x.receiver.end x.sender.message x.sender.parcel t (pair_is setting c senders receivers are_senders are_receivers x.pair x.sender x.receiver fits x.joins) x.fails;
              first = λ w s r u troubles before.
                  calm_by (take x.place pairs) x.more w s r u x.judged
                  (λ message parcel y. among x.place x.pair y.at x.sender (sender_of setting c w s message parcel) x.receiver (receiver_of setting c w r message parcel) x.is_pair x.joins y.joins (are_matches.every y.at y.fits) before) troubles;
            }

        pub comes_to : (old new : List Action) (trouble : Option Trouble) → OfPairs setting c senders receivers pairs old new trouble → OfAll setting c old new trouble
        comes_to old new None x = all_added old new x
        comes_to old new (Some t) x = first_fails t x

  -- one pair after the other

  pub none_yet : (pairs : List Pair) (old new : List Action) → new ≡ old → AddsAll setting c senders receivers (take 0 pairs) old new
  none_yet pairs old new same = record { more = []; added = same ∙ sym (append-nil old); judged = judged.none }

  module _ (pairs : List Pair) (i : ℕ) (d : Pair) (within : i < length pairs) where
    pub sender_within : All (Fits senders receivers) pairs → (get_or pairs i d).sender < length senders
    sender_within fit = let f = fit i d within in slice_get_within senders (get_or pairs i d).sender f.sender f.sends

    pub receiver_within : All (Fits senders receivers) pairs → (get_or pairs i d).receiver < length receivers
    receiver_within fit = let f = fit i d within in slice_get_within receivers (get_or pairs i d).receiver f.receiver f.receives

    -- the send and the receive that are read
    pub joins_read : (s : Sender) (r : Receiver) → All (Fits senders receivers) pairs → s ≡ get_or senders (get_or pairs i d).sender s → r ≡ get_or receivers (get_or pairs i d).receiver r → Joins setting c senders receivers (get_or pairs i d) s r
    joins_read s r fit from to = record {
      sends = slice_get_read senders (length senders) (get_or pairs i d).sender s refl (sender_within fit) from;
      receives = slice_get_read receivers (length receivers) (get_or pairs i d).receiver r refl (receiver_within fit) to;
    }

    module _ (s : Sender) (r : Receiver) (joins : Joins setting c senders receivers (get_or pairs i d) s r) (old mid new : List Action) where
      pub goes_on : (trouble : Option Trouble) → is_some trouble ≡ false → AddsAll setting c senders receivers (take i pairs) old mid → OfOne setting c s r mid new trouble → AddsAll setting c senders receivers (take (i + 1) pairs) old new
      goes_on _ calm x (judged.taken says added) = record {
        more = x.more ++ communication_of s r ∷ [];
        added = added ∙ ap (λ (l : List Action). l ++ communication_of s r ∷ []) x.added ∙ append_assoc old x.more (communication_of s r ∷ []);
        judged = subst (λ (ps : List Pair). AreJudged setting c senders receivers ps (x.more ++ communication_of s r ∷ [])) (sym (take_more pairs i d within)) (judged.and_taken (take i pairs) x.more (get_or pairs i d) s r x.judged joins says);
      }
      goes_on _ calm x (judged.refused says same) = record {
        more = x.more;
        added = same ∙ x.added;
        judged = subst (λ (ps : List Pair). AreJudged setting c senders receivers ps x.more) (sym (take_more pairs i d within)) (judged.and_refused (take i pairs) x.more (get_or pairs i d) s r x.judged joins says);
      }
      goes_on _ calm x (judged.failed t says) = absurd (differ calm)
        where
          differ : is_some (Some t) ≡ false → ⊥
          differ e = cc

      pub stops : (trouble : Option Trouble) → is_some trouble ≡ true → AddsAll setting c senders receivers (take i pairs) old mid → OfOne setting c s r mid new trouble → OfPairs setting c senders receivers pairs old new trouble
      stops _ some x (judged.taken says added) = cc
      stops _ some x (judged.refused says same) = cc
      stops _ some x (judged.failed t says) =
          record { place = i; pair = get_or pairs i d; is_pair = slice_get-get_or pairs i d within; more = x.more; judged = x.judged; sender = s; receiver = r; joins = joins; fails = says }
