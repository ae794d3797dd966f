-- What all processes offer over wires is what the rules derive.
use Rattle.std.proofs.Common.{◌≡◌, ◌<◌, ◌⊎◌, inl, inr, ℕ, List, [], ◌∷◌, Option, Some, None, refl, sym, subst, ap, ◌∙◌}
use Rattle.std.specs.Prelude.{slice_get, Contains, AllPairs}
use Rattle.std.specs.Option.{option_map_or}
use Rattle.std.proofs.lemmas.Option.{same_Some, slice_get_within}
use Rattle.pz_tree_standing.specs.pz_syntax.declared.tokens.Pos.{Pos}
use Rattle.pz_tree_standing.specs.pz_copy.Parcels.{ParcelView}
use Rattle.pz_tree_standing.specs.pz_copy.Packing.{IsParcelOf}
use Rattle.pz_tree_standing.specs.pz_offer.declared.ends.SendOffer.{SendOffer}
use Rattle.pz_tree_standing.specs.pz_offer.declared.ends.ReceiveOffer.{ReceiveOffer}
use Rattle.pz_tree_standing.specs.pz_offer.PlaceOrder.{Place, PlaceBefore}
use Rattle.pz_match.specs.declared.offers.Sender.{Sender}
use Rattle.pz_match.specs.declared.offers.Receiver.{Receiver}
use Rattle.pz_match.specs.Offers.{sender, senders, receiver}
use Rattle.pz_tree_standing.specs.pz_rules.Terms.{Term}
use Rattle.pz_tree_standing.specs.pz_rules.Settings.{Setting, Context}
use Rattle.pz_tree_standing.specs.pz_rules.Active.{IsActive}
use Rattle.pz_tree_standing.specs.pz_rules.Messages.{Sends, sends, Receives}
use Rattle.pz_tree_standing.specs.pz_rules.Ports.{IsWire, HasWires}
use Rattle.pz_tree_standing.specs.pz_rules.Offers.{PartAt}
use Rattle.pz_tree_standing.specs.pz_rules.devices.Walk as walk
use Rattle.pz_tree_standing.specs.pz_rules.devices.Walk.{Noted, active_sends, active_receives}
use Rattle.pz_tree_standing.specs.pz_rules.devices.Walks.{IsThere, Offering, offering, SendsAreListed, SendsHaveParcels, ReceivesAreListed}
use Rattle.pz_sim_laws.specs.Members.{Member, config_of, AreMembers}
use Rattle.pz_sim_laws.specs.Offering.{ReachesWire, IsSendOffer, IsReceiveOffer, AreSendOffers, AreReceiveOffers, AreSenders, AreReceivers, in_all}
use Rattle.pz_sim_laws.proofs.Lists.{Contains-cases, Contains-none, Contains-first, some_there, all_got, in_one, from_one, given_by, gives_there, zip_left, zip_right, zip_ordered}
use Rattle.pz_sim_laws.proofs.Standing.{end_at, stands_of, part_of_member, in_member}

-- the one over a wire, if there is one
module _ {Y : Type 0} (f : ℕ → Y) where
  pub over_wire : (o : Option ℕ) (y : Y) → Contains (option_map_or (λ w. f w ∷ []) o []) y → (w : ℕ) × (o ≡ Some w) × (f w ≡ y)
  over_wire None y there = absurd (Contains-none y there)
  over_wire (Some w) y there = by (Contains-cases (f w) [] y there)
    where
      by : (y ≡ f w) ⊎ Contains [] y → (v : ℕ) × (Some w ≡ Some v) × (f v ≡ y)
      by (inl same) = (w, refl, sym same)
      by (inr none) = absurd (Contains-none y none)

  pub wire_there : (o : Option ℕ) (w : ℕ) → o ≡ Some w → Contains (option_map_or (λ w. f w ∷ []) o []) (f w)
  wire_there None w e = cc
  wire_there (Some v) w e = subst (λ (u : ℕ). Contains (f v ∷ []) (f u)) (same_Some v w e) (Contains-first (f v) [])

-- an active send over a wire, with the parcel that it would hand over
pub record IsSender (setting : Setting) (clock : ℕ) (ms : List Member) (s : Sender) : Type 0 where
  pub seen : Context
  pub frame : ℕ
  pub part : Term
  pub active : PartAt setting (config_of clock ms) s.end seen frame part
  pub pos : Pos
  pub port : ℕ
  pub sends : Sends seen frame part pos port s.message s.parcel
  pub over : IsWire setting.model s.end.process port s.wire

-- an active receive over a wire
pub record IsReceiver (setting : Setting) (clock : ℕ) (ms : List Member) (r : Receiver) : Type 0 where
  pub seen : Context
  pub frame : ℕ
  pub part : Term
  pub active : PartAt setting (config_of clock ms) r.end seen frame part
  pub pos : Pos
  pub port : ℕ
  pub receives : Receives part pos port r.message r.count
  pub over : IsWire setting.model r.end.process port r.wire

sends_of : (a : Context) (f : ℕ) (part : Term) (w : walk.ActiveSend) (parcel : ParcelView) → Offering a f part w → IsParcelOf w.state w.values parcel → Sends a f part w.pos w.port w.message parcel
sends_of a f _ _ parcel (offering at port name args block values s gives) packed = sends at port name args block values s parcel gives packed

-- a send, as the walk notes it
record IsNoted (a : Context) (f : ℕ) (part : Term) (pos : Pos) (port : ℕ) (message : List ℕ) (parcel : ParcelView) : Type 0 where
  pub what : walk.ActiveSend
  pub offers : Offering a f part what
  pub pos_is : what.pos ≡ pos
  pub port_is : what.port ≡ port
  pub message_is : what.message ≡ message
  pub packed : IsParcelOf what.state what.values parcel

noted_send : (a : Context) (f : ℕ) (part : Term) (pos : Pos) (port : ℕ) (message : List ℕ) (parcel : ParcelView) → Sends a f part pos port message parcel → IsNoted a f part pos port message parcel
noted_send a f _ _ _ _ _ (sends at port name args block values s parcel gives packed) = record {
  what = record { pos = at; port = port; message = name.name; values = values; state = s };
  offers = offering at port name args block values s gives;
  pos_is = refl;
  port_is = refl;
  message_is = refl;
  packed = packed;
}

-- the orders of what is offered

pub sends_ordered : SendsAreListed → (m : Member) (xs : List SendOffer) → AreSendOffers m xs → AllPairs (λ x y. PlaceBefore x.place y.place) xs
sends_ordered law m xs are =
    zip_ordered (IsSendOffer m.seen.setting.model m.seen.process) (λ (x y : SendOffer). PlaceBefore x.place y.place) (λ (n k : Noted walk.ActiveSend). PlaceBefore n.place k.place)
    (λ x y n k one other before. subst (λ (q : Place). PlaceBefore q y.place) (sym one.place) (subst (λ (q : Place). PlaceBefore n.place q) (sym other.place) before))
    xs (active_sends m.seen m.term) are (law m.seen m.term).ordered

pub receives_ordered : ReceivesAreListed → (m : Member) (xs : List ReceiveOffer) → AreReceiveOffers m xs → AllPairs (λ x y. PlaceBefore x.place y.place) xs
receives_ordered law m xs are =
    zip_ordered (IsReceiveOffer m.seen m.term) (λ (x y : ReceiveOffer). PlaceBefore x.place y.place) (λ (n k : Noted walk.ActiveReceive). PlaceBefore n.place k.place)
    (λ x y n k one other before. subst (λ (q : Place). PlaceBefore q y.place) (sym one.place) (subst (λ (q : Place). PlaceBefore n.place q) (sym other.place) before))
    xs (active_receives m.seen m.term) are (law m.seen m.term).ordered

-- a receive over a wire, in the row of its process
pub record InRow (ms : List Member) (r : Receiver) : Type 0 where
  pub number : ℕ
  pub member : Member
  pub is : slice_get ms number ≡ Some member
  pub offer : ReceiveOffer
  pub noted : Noted walk.ActiveReceive
  pub within : Contains (active_receives member.seen member.term) noted
  pub stands_for : IsReceiveOffer member.seen member.term offer noted
  pub wire : offer.wire ≡ Some r.wire
  pub receiver_is : receiver number offer r.wire ≡ r

pub in_row : (ms : List Member) (rows : List (List Receiver)) (r : Receiver) → AreReceivers ms rows → Contains (in_all rows) r → InRow ms r
in_row ms rows r are there =
    let one = in_one rows r there in
    let some = some_there ms one.number (subst (λ (n : ℕ). one.number < n) are.all (slice_get_within rows one.number one.row one.is)) in
    let m = some.0 in
    let of = are.each one.number m one.row some.1 one.is in
    let given = given_by (λ (x : ReceiveOffer). option_map_or (λ w. receiver one.number x w ∷ []) x.wire []) of.offers r (subst (λ (row : List Receiver). Contains row r) of.over_wires one.within) in
    let over = over_wire (receiver one.number given.one) given.one.wire r given.gives in
    let pair = zip_left (IsReceiveOffer m.seen m.term) of.offers (active_receives m.seen m.term) of.are given.one given.within in
    let wire : over.0 ≡ r.wire = ap (λ (x : Receiver). x.wire) over.2 in
    record {
      number = one.number;
      member = m;
      is = some.1;
      offer = given.one;
      noted = pair.other;
      within = pair.within;
      stands_for = pair.pairs;
      wire = over.1 ∙ ap (λ (w : ℕ). Some w) wire;
      receiver_is = ap (λ (w : ℕ). receiver one.number given.one w) (sym wire) ∙ over.2;
    }

module _ (setting : Setting) (clock : ℕ) (ms : List Member) (are : AreMembers setting clock ms) where
  -- the wire of a port of a member
  wire_of : (i : ℕ) (m : Member) (port : ℕ) (o : Option ℕ) → slice_get ms i ≡ Some m → ReachesWire m.seen.setting.model m.seen.process port o → ReachesWire setting.model i port o
  wire_of i m port o is h = subst (λ (b : Context). ReachesWire b.setting.model b.process port o) (stands_of setting clock ms are i m is).seen h

  wire_is : (i port w : ℕ) (o : Option ℕ) → HasWires setting.model → ReachesWire setting.model i port o → IsWire setting.model i port w → o ≡ Some w
  wire_is i port w None wires h is = absurd (h w is)
  wire_is i port w (Some v) wires h is = sym (wires.only i port v h) ∙ wires.only i port w is

  -- Sends

  pub sender_is : SendsAreListed → (rows : List (List Sender)) (s : Sender) → AreSenders ms rows → Contains (in_all rows) s → IsSender setting clock ms s
  sender_is law rows s are_so there =
      let one = in_one rows s there in
      let some = some_there ms one.number (subst (λ (n : ℕ). one.number < n) are_so.all (slice_get_within rows one.number one.row one.is)) in
      let m = some.0 in
      let of = are_so.each one.number m one.row some.1 one.is in
      let given = given_by (λ (x : SendOffer). option_map_or (λ w. sender one.number x w ∷ []) x.wire []) of.offers s (subst (λ (row : List Sender). Contains row s) of.over_wires one.within) in
      let over = over_wire (sender one.number given.one) given.one.wire s given.gives in
      let pair = zip_left (IsSendOffer m.seen.setting.model m.seen.process) of.offers (active_sends m.seen m.term) of.are given.one given.within in
      let n = pair.other in
      let x = given.one in
      let it : IsThere m.seen m.term n.place (λ f part. Offering m.seen f part n.what) =
      all_got (λ (k : Noted walk.ActiveSend). IsThere m.seen m.term k.place (λ f part. Offering m.seen f part k.what)) (active_sends m.seen m.term) n (law m.seen m.term).derivable pair.within in
      let sent : Sends m.seen it.frame it.part n.what.pos n.what.port n.what.message x.parcel = sends_of m.seen it.frame it.part n.what x.parcel it.it_holds pair.pairs.parcel in
      subst (λ (y : Sender). IsSender setting clock ms y) over.2 (record {
        seen = m.seen;
        frame = it.frame;
        part = it.part;
        active = part_of_member setting clock ms are one.number m x.place it.frame it.part some.1 (subst (λ (q : Place). IsActive m.seen m.term q it.frame it.part) (sym pair.pairs.place) it.active);
        pos = n.what.pos;
        port = n.what.port;
        sends = subst (λ (l : List ℕ). Sends m.seen it.frame it.part n.what.pos n.what.port l x.parcel) (sym pair.pairs.message) sent;
        over = wire_of one.number m n.what.port (Some over.0) some.1 (subst (λ (o : Option ℕ). ReachesWire m.seen.setting.model m.seen.process n.what.port o) over.1 pair.pairs.wire);
      })

  pub sender_there : SendsAreListed → SendsHaveParcels → HasWires setting.model → (rows : List (List Sender)) (s : Sender) → AreSenders ms rows → IsSender setting clock ms s → Contains (in_all rows) s
  sender_there law parcels wires rows s are_so is =
      let i = s.end.process in
      let x = in_member setting clock ms are (λ (b : Context) (g : ℕ) (t : Term). Sends b g t is.pos is.port s.message s.parcel) s.end is.seen is.frame is.part is.active is.sends in
      let m = x.member in
      let row = some_there rows i (subst (λ (n : ℕ). i < n) (sym are_so.all) (slice_get_within ms i m x.is)) in
      let of = are_so.each i m row.0 x.is row.1 in
      let noted = noted_send m.seen x.is_there.frame x.is_there.part is.pos is.port s.message s.parcel x.is_there.it_holds in
      let n : Noted walk.ActiveSend = record { place = s.end.place; what = noted.what } in
      let listed : Contains (active_sends m.seen m.term) n = (law m.seen m.term).every s.end.place noted.what (record { frame = x.is_there.frame; part = x.is_there.part; active = x.is_there.active; it_holds = noted.offers }) in
      let pair = zip_right (IsSendOffer m.seen.setting.model m.seen.process) of.offers (active_sends m.seen m.term) of.are n listed in
      let one = pair.one in
      let only = (parcels m.seen x.is_there.frame x.is_there.part noted.what noted.offers).1.only in
      let parcel : one.parcel ≡ s.parcel =
      only one.parcel (sends_of m.seen x.is_there.frame x.is_there.part noted.what one.parcel noted.offers pair.pairs.parcel)
      ∙ sym (only s.parcel (sends_of m.seen x.is_there.frame x.is_there.part noted.what s.parcel noted.offers noted.packed)) in
      let reaches : ReachesWire setting.model i is.port one.wire = subst (λ (port : ℕ). ReachesWire setting.model i port one.wire) noted.port_is (wire_of i m noted.what.port one.wire x.is pair.pairs.wire) in
      let wire : one.wire ≡ Some s.wire = wire_is i is.port s.wire one.wire wires reaches is.over in
      let same : sender i one s.wire ≡ s =
      ap (λ (q : Place). let y : Sender = record { end = end_at i q; wire = s.wire; message = one.message; parcel = one.parcel } in y) pair.pairs.place
      ∙ ap (λ (l : List ℕ). let y : Sender = record { end = s.end; wire = s.wire; message = l; parcel = one.parcel } in y) (pair.pairs.message ∙ noted.message_is)
      ∙ ap (λ (p : ParcelView). let y : Sender = record { end = s.end; wire = s.wire; message = s.message; parcel = p } in y) parcel in
      from_one rows i row.0 s row.1 (subst (λ (l : List Sender). Contains l s) (sym of.over_wires) (subst (λ (y : Sender). Contains (senders i of.offers) y) same
      (gives_there (λ (y : SendOffer). option_map_or (λ w. sender i y w ∷ []) y.wire []) of.offers one (sender i one s.wire) pair.within (wire_there (sender i one) one.wire s.wire wire))))

  -- Receives

  pub receiver_is : ReceivesAreListed → (rows : List (List Receiver)) (r : Receiver) → AreReceivers ms rows → Contains (in_all rows) r → IsReceiver setting clock ms r
  receiver_is law rows r are_so there =
      let x = in_row ms rows r are_so there in
      let m = x.member in
      let n = x.noted in
      let it : IsThere m.seen m.term n.place (λ f part. Receives part n.what.pos n.what.port n.what.message n.what.count) =
      all_got (λ (k : Noted walk.ActiveReceive). IsThere m.seen m.term k.place (λ f part. Receives part k.what.pos k.what.port k.what.message k.what.count)) (active_receives m.seen m.term) n (law m.seen m.term).derivable x.within in
      subst (λ (y : Receiver). IsReceiver setting clock ms y) x.receiver_is (record {
        seen = m.seen;
        frame = it.frame;
        part = it.part;
        active = part_of_member setting clock ms are x.number m x.offer.place it.frame it.part x.is (subst (λ (q : Place). IsActive m.seen m.term q it.frame it.part) (sym x.stands_for.place) it.active);
        pos = n.what.pos;
        port = n.what.port;
        receives = subst (λ (k : ℕ). Receives it.part n.what.pos n.what.port x.offer.message k) (sym x.stands_for.count)
            (subst (λ (l : List ℕ). Receives it.part n.what.pos n.what.port l n.what.count) (sym x.stands_for.message) it.it_holds);
        over = wire_of x.number m n.what.port (Some r.wire) x.is (subst (λ (o : Option ℕ). ReachesWire m.seen.setting.model m.seen.process n.what.port o) x.wire x.stands_for.wire);
      })

  -- one with these ends and marks
  pub record Received (rows : List (List Receiver)) (r : Receiver) : Type 0 where
    pub one : Receiver
    pub within : Contains (in_all rows) one
    pub end : one.end ≡ r.end
    pub wire : one.wire ≡ r.wire
    pub message : one.message ≡ r.message
    pub count : one.count ≡ r.count

  pub receiver_there : ReceivesAreListed → HasWires setting.model → (rows : List (List Receiver)) (r : Receiver) → AreReceivers ms rows → IsReceiver setting clock ms r → Received rows r
  receiver_there law wires rows r are_so is =
      let i = r.end.process in
      let x = in_member setting clock ms are (λ (b : Context) (g : ℕ) (t : Term). Receives t is.pos is.port r.message r.count) r.end is.seen is.frame is.part is.active is.receives in
      let m = x.member in
      let row = some_there rows i (subst (λ (n : ℕ). i < n) (sym are_so.all) (slice_get_within ms i m x.is)) in
      let of = are_so.each i m row.0 x.is row.1 in
      let what : walk.ActiveReceive = record { pos = is.pos; port = is.port; message = r.message; count = r.count } in
      let n : Noted walk.ActiveReceive = record { place = r.end.place; what = what } in
      let listed : Contains (active_receives m.seen m.term) n = (law m.seen m.term).every r.end.place what x.is_there in
      let pair = zip_right (IsReceiveOffer m.seen m.term) of.offers (active_receives m.seen m.term) of.are n listed in
      let one = pair.one in
      let wire : one.wire ≡ Some r.wire = wire_is i is.port r.wire one.wire wires (wire_of i m is.port one.wire x.is pair.pairs.wire) is.over in
      record {
        one = receiver i one r.wire;
        within = from_one rows i row.0 (receiver i one r.wire) row.1 (subst (λ (l : List Receiver). Contains l (receiver i one r.wire)) (sym of.over_wires)
            (gives_there (λ (y : ReceiveOffer). option_map_or (λ w. receiver i y w ∷ []) y.wire []) of.offers one (receiver i one r.wire) pair.within (wire_there (receiver i one) one.wire r.wire wire)));
        end = ap (λ (q : Place). end_at i q) pair.pairs.place;
        wire = refl;
        message = pair.pairs.message;
        count = pair.pairs.count;
      }
