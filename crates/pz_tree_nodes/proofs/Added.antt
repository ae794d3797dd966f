-- Parts that are listed, one child after another.
use Rattle.std.proofs.Common.{◌≡◌, ◌<◌, ◌≤◌, ◌+◌, ℕ, zero, suc, List, [], ◌∷◌, ◌++◌, map, length, Option, Some, None, refl, ap, sym, ◌∙◌, subst, arith, append_assoc, append-nil}
use Rattle.std.specs.List.{cons_option}
use Rattle.pz_rules.specs.pz_offer.PlaceOrder.{Place}
use Rattle.pz_nodes_shapes.specs.Rose.{Map}
use Rattle.pz_nodes_shapes.specs.Seen.{seen}
use Rattle.pz_rules.specs.Settings.{Context}
use Rattle.pz_rules.specs.Terms.{Term, Terms, no_terms, and, child, frame_in, term_at, count}
use Rattle.pz_rules.specs.devices.Walk.{Noted, noted_at, active_parts, noted}
use Rattle.pz_tree_standing.specs.Heads.{Head}
use Rattle.pz_tree_nodes.specs.declared.node.What.{What}
use Rattle.pz_tree_nodes.specs.View.{what_view}
use Rattle.pz_tree_nodes.specs.declared.found.Part.{Part}
use Rattle.pz_tree_nodes.specs.Seeking.{IsBareUnder}
use Rattle.pz_tree_nodes.specs.Standing.{StandsRight}
use Rattle.pz_tree_nodes.specs.Listing.{Each}
use Rattle.pz_tree_nodes.specs.devices.Adding.{IsBelow, AreBelow, Adds}
use Rattle.pz_tree_nodes.specs.devices.Onward.{further}
use Rattle.pz_tree_nodes.proofs.Cut.{notes_at, kid_notes}
use Rattle.pz_tree_nodes.proofs.Tops.{stands_too}

pub each_both : {X Y : Type 0} (R : X → Y → Type 0) (xs : List X) (ns : List Y) (ys : List X) (ms : List Y) → Each R xs ns → Each R ys ms → Each R (xs ++ ys) (ns ++ ms)
each_both R [] [] ys ms first second = second
each_both R [] (n ∷ ns) ys ms first second = absurd first
each_both R (x ∷ xs) [] ys ms first second = absurd first
each_both R (x ∷ xs) (n ∷ ns) ys ms first second = (first.0, each_both R xs ns ys ms first.1 second)

module _ {X : Type 0} (a : Context) (m : Map What) (q : ℕ → Term → Option X) where
  -- ---------------------------------------------------------- lists

  pub adds_none : (f : ℕ) (t : Term) (place : Place) (ns : List (Noted X)) (old : List Part) → ns ≡ [] → Adds a m q f t place ns old old
  adds_none f t place ns old e = record { more = []; added = sym (append-nil old); are = subst (AreBelow a m q f t place []) (sym e) tt }

  pub adds_both : (f : ℕ) (t : Term) (place : Place) (ns ms : List (Noted X)) (old mid new : List Part) → Adds a m q f t place ns old mid → Adds a m q f t place ms mid new → Adds a m q f t place (ns ++ ms) old new
  adds_both f t place ns ms old mid new first second = record {
    more = first.more ++ second.more;
    added = second.added ∙ ap (λ l. l ++ second.more) first.added ∙ append_assoc old first.more second.more;
    are = each_both (IsBelow a m q f t place) first.more ns second.more ms first.are second.are;
  }

  -- ---------------------------------------------------------- of a child

  are_further : (f : ℕ) (t : Term) (place : Place) (i : ℕ) (xs : List Part) (ns : List (Noted X)) → AreBelow a m q (frame_in t f) (child t i) (place ++ i ∷ []) xs ns → AreBelow a m q f t place xs (map (further i) ns)
  are_further f t place i [] [] are = tt
  are_further f t place i [] (n ∷ ns) are = absurd are
  are_further f t place i (x ∷ xs) [] are = absurd are
  are_further f t place i (x ∷ xs) (n ∷ ns) are = (
    record {
      at_place = are.0.at_place ∙ append_assoc place (i ∷ []) n.place;
      found = record { part = are.0.found.part; in_frame = are.0.found.in_frame; bare = are.0.found.bare };
      right = are.0.right;
      has = are.0.has;
    },
    are_further f t place i xs ns are.1,
  )

  pub adds_further : (f : ℕ) (t : Term) (place inner : Place) (i : ℕ) (ns : List (Noted X)) (old new : List Part) → inner ≡ place ++ i ∷ [] → Adds a m q (frame_in t f) (child t i) inner ns old new → Adds a m q f t place (map (further i) ns) old new
  adds_further f t place inner i ns old new e adds = record {
    more = adds.more;
    added = adds.added;
    are = are_further f t place i adds.more ns (subst (λ z. AreBelow a m q (frame_in t f) (child t i) z adds.more ns) e adds.are);
  }

  -- ---------------------------------------------------------- the first children

  module _ (f : ℕ) (h : Head) where
    abbrev pub front : ℕ → ℕ → Terms → List (Noted X)
    front zero i ts = []
    front (suc n) i no_terms = []
    front (suc n) i (and t ts) = notes_at q a f h i t ++ front n (suc i) ts

    pub front_more : (n i : ℕ) (ts : Terms) → n < count ts → front (suc n) i ts ≡ front n i ts ++ notes_at q a f h (i + n) (term_at ts n)
    front_more n i no_terms l = absurd (omega (arith, l))
    front_more zero i (and t ts) l = let e : i ≡ i + 0 = omega arith in append-nil (notes_at q a f h i t) ∙ ap (λ z. notes_at q a f h z t) e
    front_more (suc n) i (and t ts) l =
        let e : suc i + n ≡ i + suc n = omega arith in
        ap (λ ns. notes_at q a f h i t ++ ns) (front_more n (suc i) ts (omega (arith, l)))
        ∙ sym (append_assoc (notes_at q a f h i t) (front n (suc i) ts) (notes_at q a f h (suc i + n) (term_at ts n)))
        ∙ ap (λ z. notes_at q a f h i t ++ front n (suc i) ts ++ notes_at q a f h z (term_at ts n)) e

    pub front_all : (n i : ℕ) (ts : Terms) → count ts ≤ n → front n i ts ≡ kid_notes q a f h i ts
    front_all zero i no_terms l = refl
    front_all (suc n) i no_terms l = refl
    front_all zero i (and t ts) l = absurd (omega (arith, l))
    front_all (suc n) i (and t ts) l = ap (λ ns. notes_at q a f h i t ++ ns) (front_all n (suc i) ts (omega (arith, l)))

  -- ---------------------------------------------------------- a part itself

  one_noted : (o : Option X) (n : ℕ) → n ≡ length (cons_option (noted_at [] o) []) → (n ≡ 0 → ⊥) → (x : X) × (o ≡ Some x)
  one_noted None n e some = absurd (some e)
  one_noted (Some x) n e some = (x, refl)

  pub adds_itself : (f k c : ℕ) (t : Term) (place : Place) (old new : List Part) (x : Part) (n : ℕ) → noted q (active_parts a f t) ≡ cons_option (noted_at [] (q f t)) []
      → n ≡ length (noted q (active_parts a f t)) → (n ≡ 0 → ⊥) → StandsRight a m f k c t → IsBareUnder (seen what_view m) (Some k)
      → x.place ≡ place → x.key ≡ k → x.frame.0 ≡ f → x.clock ≡ c → new ≡ old ++ x ∷ [] → Adds a m q f t place (noted q (active_parts a f t)) old new
  adds_itself f k c t place old new x n alone counts some right bare at key in_frame clock grown =
      let it = one_noted (q f t) n (counts ∙ ap length alone) some in
      let is : noted q (active_parts a f t) ≡ record { place = []; what = it.0 } ∷ [] = alone ∙ ap (λ o. cons_option (noted_at [] o) []) it.1 in
      let here : StandsRight a m x.frame.0 x.key x.clock t =
      subst (λ z. StandsRight a m x.frame.0 x.key z t) (sym clock) (subst (λ z. StandsRight a m x.frame.0 z c t) (sym key) (subst (λ z. StandsRight a m z k c t) (sym in_frame) right)) in
      subst (λ ns. Adds a m q f t place ns old new) (sym is) (record {
        more = x ∷ [];
        added = grown;
        are = (
          record {
            at_place = at ∙ sym (append-nil place);
            found = record {
              part = stands_too a m x.frame.0 x.key x.clock t here;
              in_frame = in_frame;
              bare = subst (λ z. IsBareUnder (seen what_view m) (Some z)) (sym key) bare;
            };
            right = here;
            has = ap (λ z. q z t) in_frame ∙ it.1;
          },
          tt,
        );
      })
