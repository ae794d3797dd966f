-- What is noted in a walk: exactly what the rules derive of the active parts, by place.
use Rattle.std.proofs.Common.{◌≡◌, ℕ, Option, Some, None, sym, subst, ap}
use Rattle.std.specs.List.{AllPairs, Contains}
use Rattle.std.proofs.lemmas.List.Elements.{All-contains}
use Rattle.pz_offer.specs.PlaceOrder.{Place, PlaceBefore}
use Rattle.pz_rules.specs.Terms.{Term}
use Rattle.pz_rules.specs.Settings.{Context}
use Rattle.pz_rules.specs.Active.{Active}
use Rattle.pz_rules.specs.devices.Walk.{ActivePart, active_parts, Noted, noted_at, noted}
use Rattle.pz_rules.proofs.Lists.{Contains-filter_map, AllPairs-filter_map, kept_from}
use Rattle.pz_rules.proofs.Locals.{some_is, no_some}
use Rattle.pz_rules.proofs.Walked.{IsPart, PartBefore, part_at, listed, sound, ordered}

abbrev pub NotedBefore : {X : Type 0} → Noted X → Noted X → Type 0
NotedBefore m n = PlaceBefore m.place n.place

module _ {X : Type 0} (a : Context) (h : ℕ → Term → Option X) (f : ℕ) (t : Term) where
  abbrev note : ActivePart → Option (Noted X)
  note p = noted_at p.place (h p.frame p.part)

  -- an active part of which this is noted
  pub record NotedAt (n : Noted X) : Type 0 where
    pub frame : ℕ
    pub part : Term
    pub active : Active a f t n.place frame part
    pub is : h frame part ≡ Some n.what

  pub noted_complete : (place : Place) (g : ℕ) (x : Term) (y : X) → Active a f t place g x → h g x ≡ Some y → Contains (noted h (active_parts a f t)) (record { place = place; what = y })
  noted_complete place g x y active is = Contains-filter_map note (active_parts a f t) (part_at place g x) _ (listed a f t place g x active) (ap (noted_at place) is)

  place_of : (place : Place) (o : Option X) (n : Noted X) → noted_at place o ≡ Some n → (n.place ≡ place) × (o ≡ Some n.what)
  place_of place None n is = no_some is
  place_of place (Some x) n is = (ap (λ (m : Noted X). m.place) (sym (some_is is)), ap (λ (m : Noted X). Some m.what) (some_is is))

  pub noted_sound : (n : Noted X) → Contains (noted h (active_parts a f t)) n → NotedAt n
  noted_sound n within =
      let k = kept_from note (active_parts a f t) n within in
      let where_it_is = place_of k.from.place (h k.from.frame k.from.part) n k.is in
      record {
        frame = k.from.frame;
        part = k.from.part;
        active = subst (λ (p : Place). Active a f t p k.from.frame k.from.part) (sym where_it_is.0) (All-contains (IsPart a f t) (active_parts a f t) k.from (sound a f t) k.within);
        is = where_it_is.1;
      }

  before : (p q : ActivePart) (m n : Noted X) → note p ≡ Some m → note q ≡ Some n → PartBefore p q → NotedBefore m n
  before p q m n is_m is_n first =
      let one = place_of p.place (h p.frame p.part) m is_m in
      let other = place_of q.place (h q.frame q.part) n is_n in
      subst (λ (x : Place). PlaceBefore x n.place) (sym one.0) (subst (λ (y : Place). PlaceBefore p.place y) (sym other.0) first)

  pub noted_ordered : AllPairs NotedBefore (noted h (active_parts a f t))
  noted_ordered = AllPairs-filter_map note PartBefore NotedBefore (active_parts a f t) before (ordered a f t)
