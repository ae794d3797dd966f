-- Parts that are taken one after another.
use Rattle.std.proofs.Common.{◌≡◌, ℕ, List, [], ◌∷◌, ◌++◌, Option, refl, sym, ◌∙◌, subst, append_assoc, append-nil}
use Rattle.pz_tree_nodes.specs.pz_rules.Settings.{Context}
use Rattle.pz_tree_nodes.specs.pz_rules.Terms.{Term}
use Rattle.pz_tree_nodes.specs.pz_rules.devices.Walk.{Noted}
use Rattle.pz_nodes_shapes.specs.Rose.{Map}
use Rattle.pz_tree_nodes.specs.declared.node.What.{What}
use Rattle.pz_tree_nodes.specs.declared.found.Part.{Part}
use Rattle.pz_tree_nodes.specs.Listing.{Each, IsOf, AreOf}
use Rattle.pz_tree_nodes.proofs.Added.{each_both}

module _ {X Y : Type 0} (a : Context) (m : Map What) (h : ℕ → Term → Option X) (f : ℕ) (t : Term) (R : Y → Noted X → Type 0) where
  -- of what is noted, so much is there, and the others are still to be taken
  pub record SoFar (ns : List (Noted X)) (ys : List Y) (left : List Part) : Type 0 where
    pub done : List (Noted X)
    pub rest : List (Noted X)
    pub split : ns ≡ done ++ rest
    pub are : Each R ys done
    pub others : AreOf a m h f t left rest

  pub none_yet : (ns : List (Noted X)) (xs : List Part) (ys : List Y) → ys ≡ [] → AreOf a m h f t xs ns → SoFar ns ys xs
  none_yet ns xs ys none are = record { done = []; rest = ns; split = refl; are = subst (λ z. Each R z []) (sym none) tt; others = are }

  -- of what is noted one is there
  pub record Takes (n : Noted X) (ys zs : List Y) : Type 0 where
    pub one : Y
    pub grown : zs ≡ ys ++ one ∷ []
    pub holds : R one n

  module _ (ns : List (Noted X)) (ys zs : List Y) (x : Part) (left rest : List Part) (is : left ≡ x ∷ rest) (takes : (n : Noted X) → IsOf a m h f t x n → Takes n ys zs) where
    one_more : (done todo : List (Noted X)) → ns ≡ done ++ todo → Each R ys done → AreOf a m h f t (x ∷ rest) todo → SoFar ns zs rest
    one_more done [] split are others = absurd others
    one_more done (n ∷ todo) split are others =
        let it = takes n others.0 in
        record {
          done = done ++ n ∷ [];
          rest = todo;
          split = split ∙ sym (append_assoc done (n ∷ []) todo);
          are = subst (λ z. Each R z (done ++ n ∷ [])) (sym it.grown) (each_both R ys done (it.one ∷ []) (n ∷ []) are (it.holds, tt));
          others = others.1;
        }

    pub taken : SoFar ns ys left → SoFar ns zs rest
    taken so = one_more so.done so.rest so.split so.are (subst (λ z. AreOf a m h f t z so.rest) is so.others)

  pub all_taken : (ns : List (Noted X)) (ys : List Y) (left : List Part) → left ≡ [] → SoFar ns ys left → Each R ys ns
  all_taken ns ys left none so = subst (Each R ys) (sym (so.split ∙ no_more so.rest (subst (λ z. AreOf a m h f t z so.rest) none so.others))) so.are
    where
      no_more : (todo : List (Noted X)) → AreOf a m h f t [] todo → so.done ++ todo ≡ so.done
      no_more [] others = append-nil so.done
      no_more (n ∷ todo) others = absurd others
