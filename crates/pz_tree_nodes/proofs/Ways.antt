-- The way down a place, level by level.
use Rattle.std.proofs.Common.{◌≡◌, ◌<◌, ◌+◌, ℕ, Option, [], ◌∷◌, length, drop, refl, ap, sym, ◌∙◌, subst, arith}
use Rattle.std.proofs.lemmas.List.{drop_all}
use Rattle.pz_nodes_shapes.specs.Rose.{Map}
use Rattle.pz_rules.specs.pz_offer.PlaceOrder.{Place}
use Rattle.pz_rules.specs.Active as active
use Rattle.pz_rules.specs.Active.{Active}
use Rattle.pz_rules.specs.Laws.{part_of}
use Rattle.pz_rules.specs.Terms.{Term, child, frame_in}
use Rattle.pz_tree_standing.specs.Heads.{What}
use Rattle.pz_tree_nodes.specs.Seeking.{frame_at, StandsUnder, IsBareUnder, SeekRule, ActiveAtPlace}
use Rattle.pz_tree_nodes.specs.devices.Levels.{PastRule, ChildRule}

-- from here, the rest of a place leads where the place leads
pub record IsOn (m : Map What) (f : ℕ) (t : Term) (place : Place) (key : Option ℕ) (frame clock : ℕ) (rest : Place) : Type 0 where
  pub part : Term
  pub stands : StandsUnder m key clock part
  pub bare : IsBareUnder m key
  pub leads : part_of t place ≡ part_of part rest
  pub framed : frame_at f t place ≡ frame_at frame part rest

abbrev pub WayRule : Map What → Option ℕ → ℕ → ℕ → Place → Option ℕ → ℕ → ℕ → Place → Type 0
WayRule m root f c place key frame clock rest = (t : Term) → StandsUnder m root c t → IsOn m f t place key frame clock rest

module _ (m : Map What) (root : Option ℕ) (f c : ℕ) (place : Place) where
  pub sets_out : (key : Option ℕ) (frame clock : ℕ) → PastRule m root c key clock → frame ≡ f → WayRule m root f c place key frame clock place
  sets_out key frame clock past e t u = let p = past t u in record {
    part = t;
    stands = p.0;
    bare = p.1;
    leads = refl;
    framed = ap (λ z. frame_at z t place) (sym e);
  }

  pub goes_on : (key below next : Option ℕ) (frame inner on clock local now i number : ℕ) → drop i place ≡ number ∷ drop (i + 1) place
      → WayRule m root f c place key frame clock (drop i place) → ChildRule m key frame clock number below inner local → PastRule m below local next now → on ≡ inner
      → WayRule m root f c place next on now (drop (i + 1) place)
  goes_on key below next frame inner on clock local now i number is way kid past e t u =
      let w = way t u in
      let k = kid w.part w.stands w.bare in
      let p = past (child w.part number) k.0 in
      record {
        part = child w.part number;
        stands = p.0;
        bare = p.1;
        leads = w.leads ∙ ap (part_of w.part) is;
        framed = w.framed ∙ ap (frame_at frame w.part) is ∙ ap (λ z. frame_at z (child w.part number) (drop (i + 1) place)) (sym (e ∙ k.1));
      }

  pub arrived : (key : Option ℕ) (frame clock i : ℕ) → length place < i + 1 → WayRule m root f c place key frame clock (drop i place) → SeekRule m root f c place key frame clock
  arrived key frame clock i past way t u =
      let w = way t u in
      let none : drop i place ≡ [] = drop_all i place (omega (arith, past)) in
      record {
        part = subst (StandsUnder m key clock) (sym (w.leads ∙ ap (part_of w.part) none)) w.stands;
        in_frame = sym (w.framed ∙ ap (frame_at frame w.part) none);
        bare = w.bare;
      }

pub active_at : ActiveAtPlace
active_at a _ _ _ _ _ (active.here f t) = (refl, refl)
active_at a _ _ _ _ _ (active.inside f t i place g part r k) = active_at a (frame_in t f) (child t i) place g part k
