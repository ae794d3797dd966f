-- Offers over the wires of which the net speaks are offers by the rules.
use Rattle.std.proofs.Common.{◌≡◌, ◌<◌, ℕ, suc, List, [], ◌∷◌, length, get_or, Option, Some, None, sym, ap, subst, ◌∙◌, arith}
use Rattle.std.specs.Prelude.{slice_get, All}
use Rattle.std.proofs.lemmas.List.{length-map}
use Rattle.std.proofs.lemmas.Option.{same_Some, slice_get-get_or}
use Rattle.pz_rules.specs.pz_syntax.Classes.{ModelTree}
use Rattle.pz_rules.specs.pz_syntax.declared.names.Id.{Id}
use Rattle.pz_rules.specs.pz_classes_rules.Members.{ports, spelled}
use Rattle.pz_bind_levels.specs.Places.{Address}
use Rattle.pz_rules.specs.pz_bind_rules.Nest.{processes, class_at}
use Rattle.pz_rules.specs.pz_bind_rules.Connections.{end, IsIn, IsInNone}
use Rattle.pz_bind.specs.devices.Nets.{IsNet}
use Rattle.pz_bind.specs.declared.net.Net.{Net}
use Rattle.pz_rules.specs.pz_copy.Packing.{IsParcelOf}
use Rattle.pz_rules.specs.pz_offer.declared.ends.SendOffer.{SendOffer}
use Rattle.pz_rules.specs.pz_offer.declared.ends.ReceiveOffer.{ReceiveOffer}
use Rattle.pz_rules.specs.Fitting.{TermFits}
use Rattle.pz_rules.specs.Messages.{Receives, receives}
use Rattle.pz_rules.specs.Ports.{IsWire}
use Rattle.pz_rules.specs.Settings.{Context}
use Rattle.pz_rules.specs.Terms.{Term}
use Rattle.pz_rules.specs.devices.Ends.{ActivePartsFit}
use Rattle.pz_rules.specs.devices.Walk.{Noted, active_sends, active_receives}
use Rattle.pz_rules.specs.devices.Walk as walk
use Rattle.pz_rules.specs.devices.Walks.{IsThere, Offering, offering, SendsAreListed, ReceivesAreListed}
use Rattle.pz_rules.specs.Laws.{part_of}
use Rattle.pz_tree_acting.specs.pz_tree_nodes.Listing.{Each}
use Rattle.pz_tree_offering.specs.declared.offers.ActiveSend.{ActiveSend}
use Rattle.pz_tree_offering.specs.declared.offers.ActiveReceive.{ActiveReceive}
use Rattle.pz_tree_offering.specs.Offers.{AreSends, has_condition, AreReceives}
use Rattle.pz_tree_acting.specs.pz_tree_standing.Woken.{is_clocked}
use Rattle.pz_tree.specs.Asking.{ReachesWire, IsSendOffer, AreSendOffers, IsReceiveOffer, AreReceiveOffers}
use Rattle.pz_tree.specs.devices.Wires.{WireRule, AreSentOver, AreReceivedOver}

head_of : {X : Type 0} (P : X → Type 0) (x : X) (xs : List X) → All P (x ∷ xs) → P x
head_of P x xs all = all 0 x (omega arith)

rest_of : {X : Type 0} (P : X → Type 0) (x : X) (xs : List X) → All P (x ∷ xs) → All P xs
rest_of P x xs all = λ k d within. all (suc k) d (omega (arith, within))

-- the ports of a class, by number
named_at : (m : ModelTree) (class port : ℕ) → port < length (ports m class) → slice_get (spelled (ports m class)) port ≡ Some (get_or (spelled (ports m class)) port [])
named_at m class port within =
    slice_get-get_or (spelled (ports m class)) port [] (subst (λ (n : ℕ). port < n) (sym (length-map (ports m class) (λ (x : Id). x.name))) within)

module _ (m : ModelTree) (net : Net) (i : ℕ) (known : IsNet m net) (place : Address) (at : slice_get (processes m) i ≡ Some place) where
  -- a port that is in no channel has no wire
  no_wire : (port : ℕ) (name : List ℕ) → slice_get (spelled (ports m (class_at m place))) port ≡ Some name → IsInNone m (end place name) → (wire : ℕ) → IsWire m i port wire → ⊥
  no_wire port name named none wire is =
      let here : is.place ≡ place = same_Some is.place place (sym is.is_process ∙ at) in
      let same : is.name ≡ name = same_Some is.name name (sym is.named ∙ ap (λ (l : Address). slice_get (spelled (ports m (class_at m l))) port) here ∙ named) in
      let first = is.has_wire.reached.first in
      none first (subst (λ (n : List ℕ). IsIn m (end place n) first) same (subst (λ (l : Address). IsIn m (end l is.name) first) here is.has_wire.reached.starts))

  wire_reached : (port : ℕ) (wire : Option ℕ) → port < length (ports m (class_at m place)) → WireRule net i port wire → ReachesWire m i port wire
  wire_reached port None within rule =
      let name = get_or (spelled (ports m (class_at m place))) port [] in
      let named = named_at m (class_at m place) port within in
      no_wire port name named (rule m place name known at named)
  wire_reached port (Some wire) within rule =
      let name = get_or (spelled (ports m (class_at m place))) port [] in
      let named = named_at m (class_at m place) port within in
      record { place = place; is_process = at; name = name; named = named; has_wire = rule m place name known at named }

  -- ---------------------------------------------------------- what an active part sends or receives fits the class

  send_port : (inner : ℕ) (a : Context) (f : ℕ) (part : Term) (x : walk.ActiveSend) → Offering a f part x → TermFits m (class_at m place) inner part → x.port < length (ports m (class_at m place))
  send_port inner a f _ _ (offering pos port name args block values s gives) fits = fits.0

  receive_port : (inner : ℕ) (part : Term) (x : walk.ActiveReceive) → Receives part x.pos x.port x.message x.count → TermFits m (class_at m place) inner part → x.port < length (ports m (class_at m place))
  receive_port inner part x is fits = by part x.pos x.port x.message x.count is fits
    where
      by : (part : Term) → (pos : _) (port : ℕ) (message : List ℕ) (count : ℕ) → Receives part pos port message count → TermFits m (class_at m place) inner part → port < length (ports m (class_at m place))
      by _ _ _ _ _ (receives pos port name into condition block) fits = fits.0

  module _ (a : Context) (model : a.setting.model ≡ m) (process : a.process ≡ i) (t : Term) (fits : TermFits m (class_at m place) 0 t) (law : ActivePartsFit) where
    reached_in : (port : ℕ) (wire : Option ℕ) → ReachesWire m i port wire → ReachesWire a.setting.model a.process port wire
    reached_in port wire r = subst (λ (n : ModelTree). ReachesWire n a.process port wire) (sym model) (subst (λ (k : ℕ). ReachesWire m k port wire) (sym process) r)

    all_sent : (xs : List SendOffer) (ys : List ActiveSend) (ns : List (Noted walk.ActiveSend)) → AreSentOver net i xs ys → AreSends ys ns
        → All (λ n. IsThere a t n.place (λ f part. Offering a f part n.what)) ns → Each (IsSendOffer a) xs ns
    all_sent [] [] [] over are there = tt
    all_sent [] [] (n ∷ ns) over are there = absurd are
    all_sent [] (y ∷ ys) ns over are there = absurd over
    all_sent (x ∷ xs) [] ns over are there = absurd over
    all_sent (x ∷ xs) (y ∷ ys) [] over are there = absurd are
    all_sent (x ∷ xs) (y ∷ ys) (n ∷ ns) over are there =
        let one = head_of (λ (k : Noted walk.ActiveSend). IsThere a t k.place (λ f part. Offering a f part k.what)) n ns there in
        let fit = law m (class_at m place) 0 a 0 t n.place one.frame one.part one.active fits in
        let within = send_port fit.0 a one.frame one.part n.what one.it_holds fit.1 in (
          record {
            place = over.0.place ∙ are.0.place;
            wire = reached_in n.what.port x.wire (wire_reached n.what.port x.wire within (subst (λ (port : ℕ). WireRule net i port x.wire) are.0.port over.0.wire));
            message = over.0.message ∙ are.0.message;
            parcel = subst (IsParcelOf n.what.state n.what.values) (sym over.0.parcel) are.0.parcel;
          },
          all_sent xs ys ns over.1 are.1 (rest_of (λ (k : Noted walk.ActiveSend). IsThere a t k.place (λ f part. Offering a f part k.what)) n ns there),
        )

    pub sent_offers : SendsAreListed → (xs : List SendOffer) (ys : List ActiveSend) → AreSentOver net i xs ys → AreSends ys (active_sends a t) → AreSendOffers a t xs
    sent_offers listed xs ys over are = all_sent xs ys (active_sends a t) over are (listed a t).derivable

    all_received : (xs : List ReceiveOffer) (ys : List ActiveReceive) (ns : List (Noted walk.ActiveReceive)) → AreReceivedOver net i xs ys → AreReceives t ys ns
        → All (λ n. IsThere a t n.place (λ f part. Receives part n.what.pos n.what.port n.what.message n.what.count)) ns → Each (IsReceiveOffer a t) xs ns
    all_received [] [] [] over are there = tt
    all_received [] [] (n ∷ ns) over are there = absurd are
    all_received [] (y ∷ ys) ns over are there = absurd over
    all_received (x ∷ xs) [] ns over are there = absurd over
    all_received (x ∷ xs) (y ∷ ys) [] over are there = absurd are
    all_received (x ∷ xs) (y ∷ ys) (n ∷ ns) over are there =
        let one = head_of (λ (k : Noted walk.ActiveReceive). IsThere a t k.place (λ f part. Receives part k.what.pos k.what.port k.what.message k.what.count)) n ns there in
        let fit = law m (class_at m place) 0 a 0 t n.place one.frame one.part one.active fits in
        let within = receive_port fit.0 one.part n.what one.it_holds fit.1 in
        let where_is = sym over.0.place in (
          record {
            place = over.0.place ∙ are.0.place;
            wire = reached_in n.what.port x.wire (wire_reached n.what.port x.wire within (subst (λ (port : ℕ). WireRule net i port x.wire) are.0.port over.0.wire));
            message = over.0.message ∙ are.0.message;
            count = over.0.count ∙ are.0.count;
            conditional = over.0.conditional ∙ are.0.conditional ∙ ap (λ p. has_condition (part_of t p)) where_is;
            clocked = over.0.clocked ∙ are.0.clocked ∙ ap (λ p. is_clocked (part_of t p)) where_is;
          },
          all_received xs ys ns over.1 are.1 (rest_of (λ (k : Noted walk.ActiveReceive). IsThere a t k.place (λ f part. Receives part k.what.pos k.what.port k.what.message k.what.count)) n ns there),
        )

    pub received_offers : ReceivesAreListed → (xs : List ReceiveOffer) (ys : List ActiveReceive) → AreReceivedOver net i xs ys → AreReceives t ys (active_receives a t) → AreReceiveOffers a t xs
    received_offers listed xs ys over are = all_received xs ys (active_receives a t) over are (listed a t).derivable
