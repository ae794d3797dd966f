-- What a tree says that it offers is what its process offers.
use Rattle.std.proofs.Common.{◌≡◌, ℕ, suc, true, false, List, [], ◌∷◌, Option, Some, None, Ok, refl, sym, subst, ap, ◌∙◌, arith}
use Rattle.std.specs.Prelude.{Contains, All}
use Rattle.std.specs.List.{AllZip}
use Rattle.std.proofs.lemmas.Bool.{true≢false}
use Rattle.pz_rules.specs.pz_syntax.Classes.{ModelTree}
use Rattle.pz_rules.specs.pz_syntax.declared.tokens.Pos.{Pos}
use Rattle.pz_rules.specs.pz_copy.Parcels.{ParcelView}
use Rattle.pz_rules.specs.pz_offer.declared.ends.SendOffer.{SendOffer}
use Rattle.pz_rules.specs.pz_offer.declared.ends.ReceiveOffer.{ReceiveOffer}
use Rattle.pz_rules.specs.pz_offer.PlaceOrder.{Place}
use Rattle.pz_rules.specs.Terms.{Term}
use Rattle.pz_rules.specs.Settings.{Context}
use Rattle.pz_rules.specs.Active as active
use Rattle.pz_rules.specs.Active.{Active, IsActive}
use Rattle.pz_rules.specs.Laws.{part_of}
use Rattle.pz_rules.specs.Messages as messages
use Rattle.pz_rules.specs.Messages.{Receives, Judges}
use Rattle.pz_rules.specs.devices.Walk as walk
use Rattle.pz_rules.specs.devices.Walk.{Noted, active_sends, active_receives}
use Rattle.pz_rules.specs.devices.Walks.{IsThere, ReceivesAreListed}
use Rattle.pz_tree.specs.pz_tree_nodes.Listing.{Each}
use Rattle.pz_tree.specs.pz_tree_offering.Offers.{has_condition}
use Rattle.pz_tree.specs.Asking as asking
use Rattle.pz_sim_laws.specs.Offering as offering

-- the wire of a port is said in the same way
wire_so : (m : ModelTree) (i port : ℕ) (o : Option ℕ) → asking.ReachesWire m i port o → offering.ReachesWire m i port o
wire_so m i port None h = h
wire_so m i port (Some wire) h = h

sends_zip : (a : Context) (xs : List SendOffer) (ns : List (Noted walk.ActiveSend)) → Each (asking.IsSendOffer a) xs ns → AllZip (offering.IsSendOffer a.setting.model a.process) xs ns
sends_zip a [] [] each = tt
sends_zip a [] (n ∷ ns) each = each
sends_zip a (x ∷ xs) [] each = each
sends_zip a (x ∷ xs) (n ∷ ns) each =
    let one = each.0 in
    (record { place = one.place; wire = wire_so a.setting.model a.process n.what.port x.wire one.wire; message = one.message; parcel = one.parcel }, sends_zip a xs ns each.1)

pub sends_are : (a : Context) (t : Term) (xs : List SendOffer) → asking.AreSendOffers a t xs → offering.AreSendOffers (record { seen = a; term = t }) xs
sends_are a t xs are = sends_zip a xs (active_sends a t) are

-- the part at a place
part_at : {a : Context} {f : ℕ} {t : Term} {place : Place} {g : ℕ} {x : Term} → Active a f t place g x → x ≡ part_of t place
part_at (active.here f t) = refl
part_at (active.inside f t i place g x reached k) = part_at k

-- a receive without a condition takes each parcel
takes_all : (a : Context) (f : ℕ) (x : Term) (pos : Pos) (port : ℕ) (message : List ℕ) (count : ℕ) (parcel : ParcelView) → Receives x pos port message count → has_condition x ≡ false → Judges a f parcel x (Ok true)
takes_all a f _ _ _ _ _ parcel (messages.receives at port name into None block) e = messages.free at port name into block
takes_all a f _ _ _ _ _ parcel (messages.receives at port name into (Some c) block) e = absurd (true≢false e)

contains_got : {X : Type 0} (P : X → Type 0) (xs : List X) (x : X) → All P xs → Contains xs x → P x
contains_got P xs x all (k, within, is) = subst P is (all k x within)

module _ (law : ReceivesAreListed) (a : Context) (t : Term) where
  -- what is active at the place of a noted receive is a receive
  free_so : (x : ReceiveOffer) (n : Noted walk.ActiveReceive) → Contains (active_receives a t) n → asking.IsReceiveOffer a t x n → x.conditional ≡ false → (f : ℕ) (part : Term) (parcel : ParcelView) → IsActive a t n.place f part
      → Judges a f parcel part (Ok true)
  free_so x n there one free f part parcel is_active =
      let it : IsThere a t n.place (λ g y. Receives y n.what.pos n.what.port n.what.message n.what.count) =
      contains_got (λ (k : Noted walk.ActiveReceive). IsThere a t k.place (λ g y. Receives y k.what.pos k.what.port k.what.message k.what.count)) (active_receives a t) n (law a t).derivable there in
      let same : it.part ≡ part = part_at it.active ∙ sym (part_at is_active) in
      let none : has_condition part ≡ false = ap has_condition (part_at is_active ∙ ap (part_of t) (sym one.place)) ∙ sym one.conditional ∙ free in
      takes_all a f part n.what.pos n.what.port n.what.message n.what.count parcel (subst (λ (y : Term). Receives y n.what.pos n.what.port n.what.message n.what.count) same it.it_holds) none

  receives_zip : (xs : List ReceiveOffer) (ns : List (Noted walk.ActiveReceive)) → ((n : Noted walk.ActiveReceive) → Contains ns n → Contains (active_receives a t) n) → Each (asking.IsReceiveOffer a t) xs ns
      → AllZip (offering.IsReceiveOffer a t) xs ns
  receives_zip [] [] among each = tt
  receives_zip [] (n ∷ ns) among each = each
  receives_zip (x ∷ xs) [] among each = each
  receives_zip (x ∷ xs) (n ∷ ns) among each =
      let one = each.0 in (
        record {
          place = one.place;
          wire = wire_so a.setting.model a.process n.what.port x.wire one.wire;
          message = one.message;
          count = one.count;
          free = free_so x n (among n (0, omega arith, refl)) one;
        },
        receives_zip xs ns (λ k there. among k (suc there.0, omega (arith, there.1), there.2)) each.1,
      )

  pub receives_are : (xs : List ReceiveOffer) → asking.AreReceiveOffers a t xs → offering.AreReceiveOffers (record { seen = a; term = t }) xs
  receives_are xs are = receives_zip xs (active_receives a t) (λ n there. there) are
