-- The way to the internal action of number k.
use Rattle.std.proofs.Common.{◌≡◌, ◌≤◌, ◌+◌, ℕ, [], ◌∷◌, ◌++◌, Option, Some, None, refl, ap, sym, ◌∙◌, subst, arith, append_assoc, append-nil}
use Rattle.std.specs.Prelude.{option_map, slice_get}
use Rattle.pz_rules.specs.pz_offer.PlaceOrder.{Place}
use Rattle.pz_rules.specs.pz_state.declared.state.FrameId.{FrameId}
use Rattle.pz_nodes_shapes.specs.Rose.{Map}
use Rattle.pz_nodes_shapes.specs.Seen.{seen}
use Rattle.pz_rules.specs.Laws.{part_of}
use Rattle.pz_rules.specs.Settings.{Context}
use Rattle.pz_rules.specs.Terms.{Term, done, leaf, wait, sequence, parallel, select, guarded, frame, abort, idle, handling, child, frame_in, height}
use Rattle.pz_rules.specs.devices.Walk.{Noted, does}
use Rattle.pz_tree_nodes.specs.declared.node.What.{What}
use Rattle.pz_tree_nodes.specs.View.{what_view}
use Rattle.pz_tree_nodes.specs.declared.found.ActingPart.{ActingPart}
use Rattle.pz_tree_nodes.specs.declared.kth.Next.TheVariants.{Nowhere, Acts, Into}
use Rattle.pz_tree_nodes.specs.declared.heads.Doing.{Doing}
use Rattle.pz_tree_nodes.specs.declared.parts.Spot.{Spot}
use Rattle.pz_tree_nodes.specs.Seeking.{frame_at, IsBareUnder}
use Rattle.pz_tree_nodes.specs.Standing.{StandsRight, RightUnder}
use Rattle.pz_tree_nodes.specs.Choosing.{actions_in, doing_of, ChoiceRule, ChosenRule}
use Rattle.pz_tree_nodes.specs.devices.Levels.{PastRightRule}
use Rattle.pz_tree_nodes.specs.devices.Onward.{further, below, doing_view, NextRule}
use Rattle.pz_tree_nodes.proofs.Tops.{stands_too}

-- ---------------------------------------------------------- places, one after another

pub part_further : (t : Term) (p q : Place) → part_of t (p ++ q) ≡ part_of (part_of t p) q
part_further t [] q = refl
part_further t (i ∷ p) q = part_further (child t i) p q

pub frame_further : (f : ℕ) (t : Term) (p q : Place) → frame_at f t (p ++ q) ≡ frame_at (frame_at f t p) (part_of t p) q
frame_further f t [] q = refl
frame_further f t (i ∷ p) q = frame_further (frame_in t f) (child t i) p q

pub high : (t : Term) → 1 ≤ height t
high done = omega arith
high (leaf s) = omega arith
high (wait left at) = omega arith
high (sequence t rest) = omega arith
high (parallel ts) = omega arith
high (select ts) = omega arith
high (guarded test at t) = omega arith
high (frame number inputs results t) = omega arith
high (abort t u) = omega arith
high (idle t u again) = omega arith
high (handling t u again) = omega arith

module _ {X : Type 0} where
  below_root : (o : Option (Noted X)) → o ≡ option_map (below []) o
  below_root None = refl
  below_root (Some n) = refl

  below_more : (place : Place) (i : ℕ) (o : Option (Noted X)) → option_map (below place) (option_map (further i) o) ≡ option_map (below (place ++ i ∷ [])) o
  below_more place i None = refl
  below_more place i (Some n) = ap (λ p. Some (record { place = p; what = n.what })) (sym (append_assoc place (i ∷ []) n.place))

-- ---------------------------------------------------------- the way

-- the part at this place has it as its action of number `left`
pub record IsOnWay (a : Context) (m : Map What) (f : ℕ) (t : Term) (levels k : ℕ) (place : Place) (spot : Spot) (left level : ℕ) : Type 0 where
  pub framed : spot.frame.0 ≡ frame_at f t place
  pub right : RightUnder a m spot.frame.0 spot.key spot.clock (part_of t place)
  pub bare : IsBareUnder (seen what_view m) spot.key
  pub low : height (part_of t place) + level ≤ levels
  pub same : slice_get (actions_in a f t) k ≡ option_map (below place) (slice_get (actions_in a spot.frame.0 (part_of t place)) left)

abbrev pub WayRule : Map What → Option ℕ → ℕ → ℕ → ℕ → ℕ → Place → Spot → ℕ → ℕ → Type 0
WayRule m root f c levels k place spot left level = (a : Context) (t : Term) → RightUnder a m f root c t → height t ≤ levels → IsOnWay a m f t levels k place spot left level

module _ (m : Map What) (root : Option ℕ) (f c levels k : ℕ) where
  pub sets_out : (place : Place) (spot : Spot) → place ≡ [] → PastRightRule m root f c spot.key spot.clock → spot.frame.0 ≡ f → WayRule m root f c levels k place spot k 0
  sets_out place spot none past e a t u l =
      let p = past a t u in
      subst (λ z. IsOnWay a m f t levels k z spot k 0) (sym none) (record {
        framed = e;
        right = subst (λ z. RightUnder a m z spot.key spot.clock t) (sym e) p.0;
        bare = p.1;
        low = (let q : height t + 0 ≤ levels = omega (arith, l) in q);
        same = below_root (slice_get (actions_in a f t) k) ∙ ap (λ z. option_map (below []) (slice_get (actions_in a z t) k)) (sym e);
      })

  pub goes_on : (place onward : Place) (spot next : Spot) (left rest level i : ℕ) → onward ≡ place ++ i ∷ [] → WayRule m root f c levels k place spot left level
      → NextRule m spot.key spot.frame.0 spot.clock left (Into i next rest) → WayRule m root f c levels k onward next rest (level + 1)
  goes_on place onward spot next left rest level i is way rule a t u l =
      let w = way a t u l in
      let g = rule a (part_of t place) w.right w.bare in
      let part : child (part_of t place) i ≡ part_of t (place ++ i ∷ []) = sym (part_further t place (i ∷ [])) in
      let frame_too : next.frame.0 ≡ frame_at f t (place ++ i ∷ []) = g.in_frame ∙ ap (frame_in (part_of t place)) w.framed ∙ sym (frame_further f t place (i ∷ [])) in
      subst (λ z. IsOnWay a m f t levels k z next rest (level + 1)) (sym is) (record {
        framed = frame_too;
        right = subst (RightUnder a m next.frame.0 next.key next.clock) part g.right;
        bare = g.bare;
        low = subst (λ z. height z + (level + 1) ≤ levels) part (let q : height (child (part_of t place) i) + (level + 1) ≤ levels = omega (arith, w.low, g.lower) in q);
        same = w.same ∙ ap (option_map (below place)) g.same ∙ below_more place i (slice_get (actions_in a next.frame.0 (child (part_of t place) i)) rest)
            ∙ ap (λ z. option_map (below (place ++ i ∷ [])) (slice_get (actions_in a next.frame.0 z) rest)) part;
      })

  module _ (place : Place) (spot : Spot) (left level : ℕ) (way : WayRule m root f c levels k place spot left level) where
    pub nowhere : NextRule m spot.key spot.frame.0 spot.clock left Nowhere → ChoiceRule m root f c levels k None
    nowhere rule a t u l = let w = way a t u l in sym (w.same ∙ ap (option_map (below place)) (rule a (part_of t place) w.right w.bare))

    pub too_deep : levels ≤ level → ChoiceRule m root f c levels k None
    too_deep past a t u l = let w = way a t u l in absurd (omega (arith, w.low, past, high (part_of t place)))

    module _ (own : ℕ) (d : Doing) (x : ActingPart) (at : x.part.place ≡ place) (key : x.part.key ≡ own) (frame_is : x.part.frame ≡ spot.frame) (clock_is : x.part.clock ≡ spot.clock)
        (kind : x.kind ≡ d.kind) (pos : x.pos ≡ d.pos) (rule : NextRule m spot.key spot.frame.0 spot.clock left (Acts own d)) where
      same_doing : doing_of x ≡ doing_view d
      same_doing = λ i. record { kind = kind i; pos = pos i }

      pub chosen : ChoiceRule m root f c levels k (Some x)
      chosen a t u l = let w = way a t u l in
          (λ i. Some (record { place = at i; what = same_doing i }))
          ∙ ap (λ p. Some (record { place = p; what = doing_view d })) (sym (append-nil place))
          ∙ sym (w.same ∙ ap (option_map (below place)) (rule a (part_of t place) w.right w.bare).2)

      pub acting : ChosenRule m root f c levels (Some x)
      acting a t u l =
          let w = way a t u l in
          let leads = rule a (part_of t place) w.right w.bare in
          let own_key : spot.key ≡ Some x.part.key = leads.0 ∙ ap Some (sym key) in
          let number : spot.frame.0 ≡ x.part.frame.0 = ap (λ (z : FrameId). z.0) (sym frame_is) in
          let part : part_of t place ≡ part_of t x.part.place = ap (part_of t) (sym at) in
          let right : StandsRight a m x.part.frame.0 x.part.key x.part.clock (part_of t x.part.place) =
          subst (RightUnder a m x.part.frame.0 (Some x.part.key) x.part.clock) part
          (subst (λ z. RightUnder a m x.part.frame.0 (Some x.part.key) z (part_of t place)) (sym clock_is)
          (subst (λ z. RightUnder a m z (Some x.part.key) spot.clock (part_of t place)) number
          (subst (λ z. RightUnder a m spot.frame.0 z spot.clock (part_of t place)) own_key w.right))) in
          record {
            part = record {
              found = record {
                part = stands_too a m x.part.frame.0 x.part.key x.part.clock (part_of t x.part.place) right;
                in_frame = sym number ∙ w.framed ∙ ap (frame_at f t) (sym at);
                bare = subst (IsBareUnder (seen what_view m)) own_key w.bare;
              };
              right = right;
            };
            does = (λ i. does a (sym number i) (sym part i)) ∙ leads.1 ∙ ap Some (sym same_doing);
          }
