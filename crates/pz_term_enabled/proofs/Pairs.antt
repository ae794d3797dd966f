-- The pairs of sends and receives that fit are those of the rules, in their order.
use Rattle.std.proofs.Common.{◌≡◌, ◌<◌, ◌⊎◌, inl, inr, ℕ, List, [], ◌∷◌, length, get_or, Option, Some, unwrap_or, refl, sym, subst, ap, ◌∙◌, arith}
use Rattle.std.specs.Prelude.{◌≢◌, slice_get, All, AllPairs, Contains}
use Rattle.std.specs.Option.{option_map}
use Rattle.std.proofs.lemmas.Option.{same_Some, slice_get_within, slice_get-get_or, get_or_from_slice_get}
use Rattle.pz_rules.specs.pz_copy.Parcels.{ParcelView}
use Rattle.pz_rules.specs.pz_offer.declared.end.End.{End}
use Rattle.pz_rules.specs.pz_offer.PlaceOrder.{Place, PlaceBefore, EndBefore}
use Rattle.pz_rules.specs.Settings.{Setting}
use Rattle.pz_rules.specs.Messages.{Receives}
use Rattle.pz_rules.specs.Ports.{IsWire}
use Rattle.pz_rules.specs.Configurations.{Config}
use Rattle.pz_rules.specs.Offers.{IsPair, PairBefore}
use Rattle.pz_term_matching.specs.declared.ends.Sender.{Sender}
use Rattle.pz_term_matching.specs.declared.ends.Receiver.{Receiver}
use Rattle.pz_term_matching.specs.declared.ends.Pair.{Pair}
use Rattle.pz_term_matching.specs.Matches.{Fits, wire_of}
use Rattle.pz_term_matching.specs.Matches as matches
use Rattle.pz_term_enabled.specs.Surveyed.{IsSender, AreSenders, IsReceiver, AreReceivers}
use Rattle.pz_term_enabled.specs.devices.Judged.{Joins}

-- elements of a list by their places

pub all_got : {X : Type 0} (P : X → Type 0) (xs : List X) (i : ℕ) (x : X) → All P xs → slice_get xs i ≡ Some x → P x
all_got P xs i x all got = subst P (get_or_from_slice_get xs i x x got) (all i x (slice_get_within xs i x got))

pub pairs_got : {X : Type 0} (R : X → X → Type 0) (xs : List X) (i j : ℕ) (x y : X) → AllPairs R xs → i < j → slice_get xs i ≡ Some x → slice_get xs j ≡ Some y → R x y
pairs_got {X} R xs i j x y pairs less at_i at_j =
    subst (λ (z : X). R x z) (get_or_from_slice_get xs j y x at_j)
    (subst (λ (z : X). R z (get_or xs j x)) (get_or_from_slice_get xs i x x at_i) (pairs i j x less (slice_get_within xs j y at_j)))

pub contained_got : {X : Type 0} (xs : List X) (x : X) (there : Contains xs x) → slice_get xs there.0 ≡ Some x
contained_got xs x there = slice_get-get_or xs there.0 x there.1 ∙ ap (λ z. Some z) there.2

pub same_got : {X : Type 0} (xs : List X) (i j : ℕ) (x y : X) → i ≡ j → slice_get xs i ≡ Some x → slice_get xs j ≡ Some y → x ≡ y
same_got xs i j x y same at_i at_j = same_Some x y (sym at_i ∙ ap (λ (k : ℕ). slice_get xs k) same ∙ at_j)

-- of two pairs no more than one is before the other

place_asymmetric : (p q : Place) → PlaceBefore p q → PlaceBefore q p → ⊥
place_asymmetric p [] a b = a
place_asymmetric [] (j ∷ q) a b = b
place_asymmetric (i ∷ p) (j ∷ q) (inl a) (inl b) = omega (arith, a, b)
place_asymmetric (i ∷ p) (j ∷ q) (inl a) (inr (e, b)) = omega (arith, a, e)
place_asymmetric (i ∷ p) (j ∷ q) (inr (e, a)) (inl b) = omega (arith, e, b)
place_asymmetric (i ∷ p) (j ∷ q) (inr (e, a)) (inr (f, b)) = place_asymmetric p q a b

end_asymmetric : (a b : End) → EndBefore a b → EndBefore b a → ⊥
end_asymmetric a b (inl x) (inl y) = omega (arith, x, y)
end_asymmetric a b (inl x) (inr (e, y)) = omega (arith, x, e)
end_asymmetric a b (inr (e, x)) (inl y) = omega (arith, e, y)
end_asymmetric a b (inr (e, x)) (inr (f, y)) = place_asymmetric a.place b.place x y

end_irreflexive : (a b : End) → a ≡ b → EndBefore a b → ⊥
end_irreflexive a b same before =
    let h : EndBefore b b = subst (λ (x : End). EndBefore x b) same before in
    end_asymmetric b b h h

ends_asymmetric : (s s' r r' : End) → EndBefore s s' ⊎ ((s ≡ s') × EndBefore r r') → EndBefore s' s ⊎ ((s' ≡ s) × EndBefore r' r) → ⊥
ends_asymmetric s s' r r' (inl h) (inl k) = end_asymmetric s s' h k
ends_asymmetric s s' r r' (inl h) (inr (e, k)) = end_irreflexive s s' (sym e) h
ends_asymmetric s s' r r' (inr (e, h)) (inl k) = end_irreflexive s' s (sym e) k
ends_asymmetric s s' r r' (inr (e, h)) (inr (f, k)) = end_asymmetric r r' h k

pub pair_asymmetric : (w v : ℕ) (s s' r r' : End) → PairBefore w s r v s' r' → PairBefore v s' r' w s r → ⊥
pair_asymmetric w v s s' r r' (inl a) (inl b) = omega (arith, a, b)
pair_asymmetric w v s s' r r' (inl a) (inr (e, b)) = omega (arith, a, e)
pair_asymmetric w v s s' r r' (inr (e, a)) (inl b) = omega (arith, e, b)
pair_asymmetric w v s s' r r' (inr (e, a)) (inr (f, b)) = ends_asymmetric s s' r r' a b

module _ (setting : Setting) (c : Config) where
  pair_by : (s : Sender) (r : Receiver) → IsSender setting c s → IsReceiver setting c r → s.wire ≡ r.wire → s.message ≡ r.message → length s.parcel.values ≡ r.count → s.end.process ≢ r.end.process
      → IsPair setting c s.wire s.end r.end s.message s.parcel
  pair_by s r x y wire message values two = record {
    sends_at = x.seen;
    sends_frame = x.frame;
    sends_part = x.part;
    sender_active = x.active;
    sends_pos = x.pos;
    sends_port = x.port;
    sends = x.sends;
    receives_at = y.seen;
    receives_frame = y.frame;
    receives_part = y.part;
    receiver_active = y.active;
    receives_pos = y.pos;
    receives_port = y.port;
    receives =
        subst (λ (n : ℕ). Receives y.part y.pos y.port s.message n) (sym values)
        (subst (λ (m : List ℕ). Receives y.part y.pos y.port m r.count) (sym message) y.receives);
    two = two;
    sender_wire = x.over;
    receiver_wire = subst (λ (w : ℕ). IsWire setting.model r.end.process y.port w) (sym wire) y.over;
  }

  -- the send and the receive of a pair of the rules
  abbrev pub sender_of : ℕ → End → List ℕ → ParcelView → Sender
  sender_of w s message parcel = record { end = s; wire = w; message = message; parcel = parcel }

  abbrev pub receiver_of : ℕ → End → List ℕ → ParcelView → Receiver
  receiver_of w r message parcel = record { end = r; wire = w; message = message; count = length parcel.values }

  is_sender : (w : ℕ) (s r : End) (message : List ℕ) (parcel : ParcelView) → IsPair setting c w s r message parcel → IsSender setting c (sender_of w s message parcel)
  is_sender w s r message parcel x =
      record { seen = x.sends_at; frame = x.sends_frame; part = x.sends_part; active = x.sender_active; pos = x.sends_pos; port = x.sends_port; sends = x.sends; over = x.sender_wire }

  is_receiver : (w : ℕ) (s r : End) (message : List ℕ) (parcel : ParcelView) → IsPair setting c w s r message parcel → IsReceiver setting c (receiver_of w r message parcel)
  is_receiver w s r message parcel x =
      record { seen = x.receives_at; frame = x.receives_frame; part = x.receives_part; active = x.receiver_active; pos = x.receives_pos; port = x.receives_port; receives = x.receives; over = x.receiver_wire }

  module _ (senders : List Sender) (receivers : List Receiver) (are_senders : AreSenders setting c senders) (are_receivers : AreReceivers setting c receivers) where
    -- a pair that fits is one of the rules
    pub pair_is : (p : Pair) (s : Sender) (r : Receiver) → Fits senders receivers p → Joins setting c senders receivers p s r → IsPair setting c s.wire s.end r.end s.message s.parcel
    pair_is p s r fits joins =
        let from : fits.sender ≡ s = same_Some fits.sender s (sym fits.sends ∙ joins.sends) in
        let to : fits.receiver ≡ r = same_Some fits.receiver r (sym fits.receives ∙ joins.receives) in
        subst (λ (x : Receiver). IsPair setting c s.wire s.end x.end s.message s.parcel) to
        (subst (λ (x : Sender). IsPair setting c x.wire x.end fits.receiver.end x.message x.parcel) from
        (pair_by fits.sender fits.receiver (all_got (IsSender setting c) senders p.sender fits.sender are_senders.derivable fits.sends) (all_got (IsReceiver setting c) receivers p.receiver fits.receiver are_receivers.derivable fits.receives) fits.wire fits.message fits.values fits.two))

    -- a pair of the rules, by the places of its send and its receive
    pub record Placed (w : ℕ) (s r : End) (message : List ℕ) (parcel : ParcelView) : Type 0 where
      pub at : Pair
      pub joins : Joins setting c senders receivers at (sender_of w s message parcel) (receiver_of w r message parcel)
      pub fits : Fits senders receivers at

    pub placed : (w : ℕ) (s r : End) (message : List ℕ) (parcel : ParcelView) → IsPair setting c w s r message parcel → Placed w s r message parcel
    placed w s r message parcel x =
        let from = are_senders.every (sender_of w s message parcel) (is_sender w s r message parcel x) in
        let to = are_receivers.every (receiver_of w r message parcel) (is_receiver w s r message parcel x) in
        let sends = contained_got senders (sender_of w s message parcel) from in
        let receives = contained_got receivers (receiver_of w r message parcel) to in
        record {
          at = record { sender = from.0; receiver = to.0 };
          joins = record { sends = sends; receives = receives };
          fits = record { sender = sender_of w s message parcel; receiver = receiver_of w r message parcel; sends = sends; receives = receives; wire = refl; message = refl; values = refl; two = x.two };
        }

    wire_is : (i : ℕ) (s : Sender) → slice_get senders i ≡ Some s → wire_of senders i ≡ s.wire
    wire_is i s got = ap (λ (o : Option Sender). unwrap_or (option_map (λ (x : Sender). x.wire) o) 0) got

    -- their order is that of the rules
    pub pair_before : (p q : Pair) (s s' : Sender) (r r' : Receiver) → Joins setting c senders receivers p s r → Joins setting c senders receivers q s' r' → matches.Before senders p q → PairBefore s.wire s.end r.end s'.wire s'.end r'.end
    pair_before p q s s' r r' x y (inl less) = inl (omega (arith, less, wire_is p.sender s x.sends, wire_is q.sender s' y.sends))
    pair_before p q s s' r r' x y (inr (e, inl less)) =
        inr (sym (wire_is p.sender s x.sends) ∙ e ∙ wire_is q.sender s' y.sends, inl (pairs_got (λ (a b : Sender). EndBefore a.end b.end) senders p.sender q.sender s s' are_senders.ordered less x.sends y.sends))
    pair_before p q s s' r r' x y (inr (e, inr (same, less))) =
        inr (
          sym (wire_is p.sender s x.sends) ∙ e ∙ wire_is q.sender s' y.sends,
          inr (
            ap (λ (z : Sender). z.end) (same_got senders p.sender q.sender s s' same x.sends y.sends),
            pairs_got (λ (a b : Receiver). EndBefore a.end b.end) receivers p.receiver q.receiver r r' are_receivers.ordered less x.receives y.receives,
          ),
        )
