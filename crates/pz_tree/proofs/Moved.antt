-- Each of a list becomes another, one after the other.
use Rattle.std.proofs.Common.{◌≡◌, List, [], ◌∷◌, ◌++◌, sym, subst, append_assoc, append-nil}
use Rattle.pz_tree_acting.specs.pz_tree_nodes.Listing.{Each}

module _ {X Y : Type 0} (R : Y → X → Type 0) where
  -- what comes of those that are left, behind what there is, comes of all
  abbrev pub SoFar : List X → List Y → List X → Type 0
  SoFar all ys left = (more : List Y) → Each R more left → Each R (ys ++ more) all

  pub none_yet : (all left : List X) (ys : List Y) → ys ≡ [] → left ≡ all → SoFar all ys left
  none_yet all left ys none same more each = subst (λ (zs : List Y). Each R (zs ++ more) all) (sym none) (subst (Each R more) same each)

  pub one_more : (all left rest : List X) (ys zs : List Y) (x : X) (y : Y) → left ≡ x ∷ rest → zs ≡ ys ++ y ∷ [] → R y x → SoFar all ys left → SoFar all zs rest
  one_more all left rest ys zs x y is grown holds so more each =
      subst (λ (ws : List Y). Each R (ws ++ more) all) (sym grown)
      (subst (λ (ws : List Y). Each R ws all) (sym (append_assoc ys (y ∷ []) more))
      (so (y ∷ more) (subst (Each R (y ∷ more)) (sym is) (holds, each))))

  pub all_moved : (all left : List X) (ys : List Y) → left ≡ [] → SoFar all ys left → Each R ys all
  all_moved all left ys none so = subst (λ (ws : List Y). Each R ws all) (append-nil ys) (so [] (subst (Each R []) (sym none) tt))
