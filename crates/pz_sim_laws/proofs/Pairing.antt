-- The pairs of a kept table are those of the rules: their communications, and the first trouble of a condition.
use Rattle.std.proofs.Common.{◌≡◌, ◌⊎◌, inl, inr, ℕ, Bool, true, false, List, [], ◌∷◌, map, length, Option, Some, None, Result, Ok, Err, refl, sym, subst, ap, ◌∙◌, arith}
use Rattle.std.specs.Prelude.{All, AllPairs, Contains}
use Rattle.std.proofs.lemmas.Bool.{true≢false}
use Rattle.std.proofs.lemmas.List.Kept.{AllPairs-filter}
use Rattle.pz_tree_standing.specs.pz_copy.Parcels.{ParcelView}
use Rattle.pz_tree_standing.specs.pz_offer.declared.end.End.{End}
use Rattle.pz_tree_standing.specs.pz_offer.declared.trouble.Trouble.{Trouble}
use Rattle.pz_tree_standing.specs.pz_offer.declared.ends.Verdict.{Verdict}
use Rattle.pz_tree_standing.specs.pz_offer.declared.ends.Verdict.TheVariants as says
use Rattle.pz_tree_standing.specs.pz_offer.PlaceOrder.{EndBefore}
use Rattle.pz_match.specs.declared.offers.Sender.{Sender}
use Rattle.pz_match.specs.declared.offers.Receiver.{Receiver}
use Rattle.pz_match.specs.Offers as match_offers
use Rattle.pz_match.specs.Pairs as match_pairs
use Rattle.pz_match.specs.Pairs.{Judged, ArePairs, taken, is_yes, is_trouble, first_or, first_trouble}
use Rattle.pz_tree_standing.specs.pz_rules.declared.action.Action.{Action}
use Rattle.pz_tree_standing.specs.pz_rules.declared.action.Action.TheVariants.{Internal, Comm}
use Rattle.pz_tree_standing.specs.pz_rules.Settings.{Setting}
use Rattle.pz_tree_standing.specs.pz_rules.Messages.{Receives}
use Rattle.pz_tree_standing.specs.pz_rules.Ports.{IsWire, HasWires}
use Rattle.pz_tree_standing.specs.pz_rules.Offers as offers
use Rattle.pz_tree_standing.specs.pz_rules.Offers.{IsPair, IsJudged, Offers, Before, PairBefore}
use Rattle.pz_tree_standing.specs.pz_rules.Moments as moments
use Rattle.pz_tree_standing.specs.pz_rules.Moments.{Source, pair, Troubles}
use Rattle.pz_tree_standing.specs.pz_rules.devices.Walks.{SendsAreListed, SendsHaveParcels, ReceivesAreListed}
use Rattle.pz_part_queries.specs.Laws.{OneVerdict}
use Rattle.pz_sim_laws.specs.Members.{Member, config_of, AreMembers}
use Rattle.pz_sim_laws.specs.Offering.{AreSenders, AreReceivers, in_all}
use Rattle.pz_sim_laws.specs.Couples.{answer, communication, IsCouple, IsRight, AreCouples, IsTruthful}
use Rattle.pz_sim_laws.proofs.Lists.{Contains-cases, Contains-none, Contains-first, Contains-later, AllPairs-head, AllPairs-tail, AllPairs-map, all_got, all_by, Contains-map, from_map, kept_there, from_kept}
use Rattle.pz_sim_laws.proofs.Rows.{IsSender, IsReceiver, sender_is, sender_there, receiver_is, receiver_there}
use Rattle.pz_sim_laws.proofs.Sums.{place_asymmetric}
use Rattle.pz_sim_laws.proofs.Verdicts.{verdict_once, right}

-- of two pairs no more than one is before the other

end_asymmetric : (a b : End) → EndBefore a b → EndBefore b a → ⊥
end_asymmetric a b (inl x) (inl y) = omega (arith, x, y)
end_asymmetric a b (inl x) (inr (e, y)) = omega (arith, x, e)
end_asymmetric a b (inr (e, x)) (inl y) = omega (arith, e, y)
end_asymmetric a b (inr (e, x)) (inr (f, y)) = place_asymmetric a.place b.place x y

end_irreflexive : (a b : End) → a ≡ b → EndBefore a b → ⊥
end_irreflexive a b same before =
    let h : EndBefore b b = subst (λ (x : End). EndBefore x b) same before in
    end_asymmetric b b h h

ends_asymmetric : (s s' r r' : End) → EndBefore s s' ⊎ ((s ≡ s') × EndBefore r r') → EndBefore s' s ⊎ ((s' ≡ s) × EndBefore r' r) → ⊥
ends_asymmetric s s' r r' (inl h) (inl k) = end_asymmetric s s' h k
ends_asymmetric s s' r r' (inl h) (inr (e, k)) = end_irreflexive s s' (sym e) h
ends_asymmetric s s' r r' (inr (e, h)) (inl k) = end_irreflexive s' s (sym e) k
ends_asymmetric s s' r r' (inr (e, h)) (inr (f, k)) = end_asymmetric r r' h k

pair_asymmetric : (w v : ℕ) (s s' r r' : End) → PairBefore w s r v s' r' → PairBefore v s' r' w s r → ⊥
pair_asymmetric w v s s' r r' (inl a) (inl b) = omega (arith, a, b)
pair_asymmetric w v s s' r r' (inl a) (inr (e, b)) = omega (arith, a, e)
pair_asymmetric w v s s' r r' (inr (e, a)) (inl b) = omega (arith, e, b)
pair_asymmetric w v s s' r r' (inr (e, a)) (inr (f, b)) = ends_asymmetric s s' r r' a b

judged_asymmetric : (p q : Judged) → match_pairs.Before p q → match_pairs.Before q p → ⊥
judged_asymmetric p q = pair_asymmetric p.sender.wire q.sender.wire p.sender.end q.sender.end p.receiver.end q.receiver.end

-- the first trouble of a list in order

-- its trouble, and none of those before it has one
abbrev IsFirstIn : List Judged → Option Trouble → Type 0
IsFirstIn ps None = (q : Judged) → Contains ps q → is_trouble q.verdict ≡ false
IsFirstIn ps (Some t) = (p : Judged) × Contains ps p × (p.verdict ≡ says.Trouble t) × ((q : Judged) → Contains ps q → is_trouble q.verdict ≡ true → match_pairs.Before q p → ⊥)

untroubled : (p : Judged) (ps : List Judged) → is_trouble p.verdict ≡ false → (o : Option Trouble) → IsFirstIn ps o → IsFirstIn (p ∷ ps) o
untroubled p ps calm None h = λ q there. by q (Contains-cases p ps q there)
  where
    by : (q : Judged) → (q ≡ p) ⊎ Contains ps q → is_trouble q.verdict ≡ false
    by q (inl same) = ap (λ (x : Judged). is_trouble x.verdict) same ∙ calm
    by q (inr later) = h q later
untroubled p ps calm (Some t) h = (h.0, Contains-later p ps h.0 h.1, h.2, λ q there has before. by q has before (Contains-cases p ps q there))
  where
    by : (q : Judged) → is_trouble q.verdict ≡ true → match_pairs.Before q h.0 → (q ≡ p) ⊎ Contains ps q → ⊥
    by q has before (inl same) = true≢false (sym has ∙ ap (λ (x : Judged). is_trouble x.verdict) same ∙ calm)
    by q has before (inr later) = h.3 q later has before

first_one : (p : Judged) (ps : List Judged) (t : Trouble) → p.verdict ≡ says.Trouble t → AllPairs match_pairs.Before (p ∷ ps) → IsFirstIn (p ∷ ps) (Some t)
first_one p ps t is ordered = (p, Contains-first p ps, is, λ q there has before. by q before (Contains-cases p ps q there))
  where
    by : (q : Judged) → match_pairs.Before q p → (q ≡ p) ⊎ Contains ps q → ⊥
    by q before (inl same) = let again : match_pairs.Before p p = subst (λ (x : Judged). match_pairs.Before x p) same before in judged_asymmetric p p again again
    by q before (inr later) = judged_asymmetric q p before (all_got (match_pairs.Before p) ps q (AllPairs-head match_pairs.Before p ps ordered) later)

first_by : (p : Judged) (ps : List Judged) (v : Verdict) → p.verdict ≡ v → AllPairs match_pairs.Before (p ∷ ps) → (o : Option Trouble) → IsFirstIn ps o → IsFirstIn (p ∷ ps) (first_or v o)
first_by p ps says.Yes is ordered o h = untroubled p ps (ap is_trouble is) o h
first_by p ps says.No is ordered o h = untroubled p ps (ap is_trouble is) o h
first_by p ps (says.Trouble t) is ordered o h = first_one p ps t is ordered

first_is : (ps : List Judged) → AllPairs match_pairs.Before ps → IsFirstIn ps (first_trouble ps)
first_is [] ordered = λ q there. absurd (Contains-none q there)
first_is (p ∷ ps) ordered = first_by p ps p.verdict refl ordered (first_trouble ps) (first_is ps (AllPairs-tail match_pairs.Before p ps ordered))

-- answers and verdicts

yes_of : (v : Verdict) → answer v ≡ Ok true → is_yes v ≡ true
yes_of says.Yes e = refl
yes_of says.No e = cc
yes_of (says.Trouble t) e = cc

is_taken : (v : Verdict) → is_yes v ≡ true → answer v ≡ Ok true
is_taken says.Yes e = refl
is_taken says.No e = absurd (true≢false (sym e))
is_taken (says.Trouble t) e = absurd (true≢false (sym e))

trouble_of : (v : Verdict) (t : Trouble) → answer v ≡ Err t → is_trouble v ≡ true
trouble_of says.Yes t e = cc
trouble_of says.No t e = cc
trouble_of (says.Trouble u) t e = refl

abbrev pub IsCommunication : Action → Type 0
IsCommunication (Internal at kind pos) = ⊥
IsCommunication (Comm wire sender receiver message parcel) = Unit {0}

-- the parts of a communication
pub record SameComm (wire : ℕ) (sender receiver : End) (message : List ℕ) (parcel : ParcelView) (p : Judged) : Type 0 where
  pub wire_is : p.sender.wire ≡ wire
  pub sender_is : p.sender.end ≡ sender
  pub receiver_is : p.receiver.end ≡ receiver
  pub message_is : p.sender.message ≡ message
  pub parcel_is : p.sender.parcel ≡ parcel

same_comm : (wire : ℕ) (sender receiver : End) (message : List ℕ) (parcel : ParcelView) (p : Judged) → communication p ≡ Comm wire sender receiver message parcel → SameComm wire sender receiver message parcel p
same_comm wire sender receiver message parcel p e = record { wire_is = cc; sender_is = cc; receiver_is = cc; message_is = cc; parcel_is = cc }

module _ (setting : Setting) (clock : ℕ) (ms : List Member) (are : AreMembers setting clock ms) where
  -- The pairs of a table

  module _ (sends : SendsAreListed) (parcels : SendsHaveParcels) (receives : ReceivesAreListed) (wires : HasWires setting.model)
      (srows : List (List Sender)) (rrows : List (List Receiver)) (ps : List Judged) (senders_are : AreSenders ms srows) (receivers_are : AreReceivers ms rrows) (pairs : ArePairs (in_all srows) (in_all rrows) ps) where
    pair_by : (s : Sender) (r : Receiver) → IsSender setting clock ms s → IsReceiver setting clock ms r → match_offers.Fits s r → IsPair setting (config_of clock ms) s.wire s.end r.end s.message s.parcel
    pair_by s r x y fits = record {
      sends_at = x.seen;
      sends_frame = x.frame;
      sends_part = x.part;
      sender_active = x.active;
      sends_pos = x.pos;
      sends_port = x.port;
      sends = x.sends;
      receives_at = y.seen;
      receives_frame = y.frame;
      receives_part = y.part;
      receiver_active = y.active;
      receives_pos = y.pos;
      receives_port = y.port;
      receives =
          subst (λ (n : ℕ). Receives y.part y.pos y.port s.message n) (sym fits.values)
          (subst (λ (m : List ℕ). Receives y.part y.pos y.port m r.count) (sym fits.message) y.receives);
      two = fits.two;
      sender_wire = x.over;
      receiver_wire = subst (λ (w : ℕ). IsWire setting.model r.end.process y.port w) (sym fits.wire) y.over;
    }

    couple_is : (p : Judged) → Contains ps p → IsCouple setting (config_of clock ms) p
    couple_is p there =
        pair_by p.sender p.receiver (sender_is setting clock ms are sends srows p.sender senders_are (all_got (λ (q : Judged). Contains (in_all srows) q.sender) ps p pairs.sends there))
        (receiver_is setting clock ms are receives rrows p.receiver receivers_are (all_got (λ (q : Judged). Contains (in_all rrows) q.receiver) ps p pairs.receives there))
        (all_got (λ (q : Judged). match_offers.Fits q.sender q.receiver) ps p pairs.fit there)

    every_couple : (wire : ℕ) (sender receiver : End) (message : List ℕ) (parcel : ParcelView) → IsPair setting (config_of clock ms) wire sender receiver message parcel
        → (p : Judged) × Contains ps p × (communication p ≡ Comm wire sender receiver message parcel)
    every_couple wire sender receiver message parcel x =
        let s : Sender = record { end = sender; wire = wire; message = message; parcel = parcel } in
        let r : Receiver = record { end = receiver; wire = wire; message = message; count = length parcel.values; conditional = false } in
        let is_sender : IsSender setting clock ms s =
        record { seen = x.sends_at; frame = x.sends_frame; part = x.sends_part; active = x.sender_active; pos = x.sends_pos; port = x.sends_port; sends = x.sends; over = x.sender_wire } in
        let is_receiver : IsReceiver setting clock ms r =
        record { seen = x.receives_at; frame = x.receives_frame; part = x.receives_part; active = x.receiver_active; pos = x.receives_pos; port = x.receives_port; receives = x.receives; over = x.receiver_wire } in
        let from = sender_there setting clock ms are sends parcels wires srows s senders_are is_sender in
        let to = receiver_there setting clock ms are receives wires rrows r receivers_are is_receiver in
        let fits : match_offers.Fits s to.one = record { wire = sym to.wire; message = sym to.message; values = sym to.count; two = λ e. x.two (e ∙ ap (λ (y : End). y.process) to.end) } in
        let found = pairs.every s to.one from to.within fits in
        (record { sender = s; receiver = to.one; verdict = found.0 }, found.1, ap (λ (y : End). Comm wire sender y message parcel) to.end)

    pub couples_are : All (IsTruthful ms) ps → AreCouples setting (config_of clock ms) ps
    couples_are truthful = record {
      ordered = pairs.ordered;
      are = all_by (IsCouple setting (config_of clock ms)) ps couple_is;
      right = all_by (IsRight setting (config_of clock ms)) ps (λ p there.
          right setting clock ms are receives rrows p receivers_are (all_got (λ (q : Judged). Contains (in_all rrows) q.receiver) ps p pairs.receives there) (all_got (IsTruthful ms) ps p truthful there));
      every = every_couple;
    }

  -- What they come to

  module _ (law : OneVerdict) (ps : List Judged) (couples : AreCouples setting (config_of clock ms) ps) where
    pub record Told (wire : ℕ) (sender receiver : End) (message : List ℕ) (parcel : ParcelView) (v : Result Bool Trouble) : Type 0 where
      pub one : Judged
      pub within : Contains ps one
      pub is : communication one ≡ Comm wire sender receiver message parcel
      pub same : SameComm wire sender receiver message parcel one
      pub says : answer one.verdict ≡ v

    pub told : (wire : ℕ) (sender receiver : End) (message : List ℕ) (parcel : ParcelView) (v : Result Bool Trouble) → IsPair setting (config_of clock ms) wire sender receiver message parcel
        → IsJudged setting (config_of clock ms) receiver parcel v → Told wire sender receiver message parcel v
    told wire sender receiver message parcel v is_pair judged =
        let found = couples.every wire sender receiver message parcel is_pair in
        let p = found.0 in
        let same = same_comm wire sender receiver message parcel p found.2 in
        let it : IsJudged setting (config_of clock ms) p.receiver.end p.sender.parcel (answer p.verdict) = all_got (IsRight setting (config_of clock ms)) ps p couples.right found.1 in
        let here : IsJudged setting (config_of clock ms) receiver parcel (answer p.verdict) =
        subst (λ (q : ParcelView). IsJudged setting (config_of clock ms) receiver q (answer p.verdict)) same.parcel_is
        (subst (λ (e : End). IsJudged setting (config_of clock ms) e p.sender.parcel (answer p.verdict)) same.receiver_is it) in
        record { one = p; within = found.1; is = found.2; same = same; says = verdict_once setting clock ms are law receiver parcel (answer p.verdict) v here judged }

    -- communications

    abbrev pub communications : List Action
    communications = map communication (taken ps)

    pub communications_ordered : AllPairs Before communications
    communications_ordered = AllPairs-map communication match_pairs.Before Before (taken ps) (λ x y before. before) (AllPairs-filter match_pairs.Before (λ (p : Judged). is_yes p.verdict) ps couples.ordered)

    pub is_communication : (a : Action) → Contains communications a → IsCommunication a × Offers setting (config_of clock ms) a
    is_communication a there =
        let from = from_map communication (taken ps) a there in
        let p = from.one in
        let kept = from_kept (λ (q : Judged). is_yes q.verdict) ps p from.within in
        subst (λ (b : Action). IsCommunication b × Offers setting (config_of clock ms) b) from.is (
          tt,
          offers.communication p.sender.wire p.sender.end p.receiver.end p.sender.message p.sender.parcel (all_got (IsCouple setting (config_of clock ms)) ps p couples.are kept.0)
              (subst (λ (v : Result Bool Trouble). IsJudged setting (config_of clock ms) p.receiver.end p.sender.parcel v) (is_taken p.verdict kept.1) (all_got (IsRight setting (config_of clock ms)) ps p couples.right kept.0)),
        )

    pub every_communication : (a : Action) → IsCommunication a → Offers setting (config_of clock ms) a → Contains communications a
    every_communication _ is (offers.internal at a frame part kind pos active can) = absurd is
    every_communication _ is (offers.communication wire sender receiver message parcel is_pair judged) =
        let x = told wire sender receiver message parcel (Ok true) is_pair judged in
        subst (λ (b : Action). Contains communications b) x.is (Contains-map communication (taken ps) x.one (kept_there (λ (q : Judged). is_yes q.verdict) ps x.one x.within (yes_of x.one.verdict x.says)))

    -- the first trouble of a condition

    pub record IsFirstJudged (t : Trouble) : Type 0 where
      pub wire : ℕ
      pub sender : End
      pub receiver : End
      pub occurs : Troubles setting (config_of clock ms) (pair wire sender receiver) t
      pub first : (w : ℕ) (s r : End) (u : Trouble) → Troubles setting (config_of clock ms) (pair w s r) u → PairBefore w s r wire sender receiver → ⊥

    abbrev pub IsJudgedFirst : Option Trouble → Type 0
    IsJudgedFirst None = (wire : ℕ) (sender receiver : End) (t : Trouble) → Troubles setting (config_of clock ms) (pair wire sender receiver) t → ⊥
    IsJudgedFirst (Some t) = IsFirstJudged t

    -- the pair of a trouble
    record Troubled (wire : ℕ) (sender receiver : End) : Type 0 where
      pub one : Judged
      pub within : Contains ps one
      pub wire_is : one.sender.wire ≡ wire
      pub sender_is : one.sender.end ≡ sender
      pub receiver_is : one.receiver.end ≡ receiver
      pub has : is_trouble one.verdict ≡ true

    abbrev TroubledAt : Source → Type 0
    TroubledAt (moments.part at) = Unit {0}
    TroubledAt (pair wire sender receiver) = Troubled wire sender receiver

    troubled_at : (source : Source) (t : Trouble) → Troubles setting (config_of clock ms) source t → TroubledAt source
    troubled_at _ _ (moments.asked at a f it trouble active asks) = tt
    troubled_at _ _ (moments.judged wire sender receiver message parcel trouble is_pair fails) =
        let x = told wire sender receiver message parcel (Err trouble) is_pair fails in
        record { one = x.one; within = x.within; wire_is = x.same.wire_is; sender_is = x.same.sender_is; receiver_is = x.same.receiver_is; has = trouble_of x.one.verdict trouble x.says }

    troubled : (wire : ℕ) (sender receiver : End) (t : Trouble) → Troubles setting (config_of clock ms) (pair wire sender receiver) t → Troubled wire sender receiver
    troubled wire sender receiver t x = troubled_at (pair wire sender receiver) t x

    before_same : (q p : Judged) (wire : ℕ) (sender receiver : End) → q.sender.wire ≡ wire → q.sender.end ≡ sender → q.receiver.end ≡ receiver
        → PairBefore wire sender receiver p.sender.wire p.sender.end p.receiver.end → match_pairs.Before q p
    before_same q p wire sender receiver w s r before =
        subst (λ (k : ℕ). PairBefore k q.sender.end q.receiver.end p.sender.wire p.sender.end p.receiver.end) (sym w)
        (subst (λ (e : End). PairBefore wire e q.receiver.end p.sender.wire p.sender.end p.receiver.end) (sym s)
        (subst (λ (e : End). PairBefore wire sender e p.sender.wire p.sender.end p.receiver.end) (sym r) before))

    judged_first_of : (o : Option Trouble) → IsFirstIn ps o → IsJudgedFirst o
    judged_first_of None h = λ wire sender receiver t x.
        let y = troubled wire sender receiver t x in
        true≢false (sym y.has ∙ h y.one y.within)
    judged_first_of (Some t) h =
        let p = h.0 in
        record {
          wire = p.sender.wire;
          sender = p.sender.end;
          receiver = p.receiver.end;
          occurs = moments.judged p.sender.wire p.sender.end p.receiver.end p.sender.message p.sender.parcel t (all_got (IsCouple setting (config_of clock ms)) ps p couples.are h.1)
              (subst (λ (v : Verdict). IsJudged setting (config_of clock ms) p.receiver.end p.sender.parcel (answer v)) h.2 (all_got (IsRight setting (config_of clock ms)) ps p couples.right h.1));
          first = λ w s r u x before.
              let y = troubled w s r u x in
              h.3 y.one y.within y.has (before_same y.one p w s r y.wire_is y.sender_is y.receiver_is before);
        }

    pub judged_first : IsJudgedFirst (first_trouble ps)
    judged_first = judged_first_of (first_trouble ps) (first_is ps couples.ordered)
