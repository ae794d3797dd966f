-- The parents of classes, and the lines that they make.
use Rattle.std.proofs.Common.{◌≡◌, refl, ap, ℕ, zero, suc, List, [], ◌∷◌, map, Option, Some, None, slice_get, sym, ◌∙◌}
use Rattle.std.specs.Option.{option_map_or, option_and_then}
use Rattle.pz_classes_code.specs.pz_syntax.declared.clusters.Decl.{Decl}
use Rattle.pz_classes_code.specs.pz_syntax.Classes.{DeclTree, ModelTree}
use Rattle.pz_classes_code.specs.pz_syntax.ClassView.{decl_view}
use Rattle.pz_classes_rules.specs.Ancestors.{followed, parent, parent_of}
use Rattle.pz_classes_lineage.specs.Parents.{parent_in}

joined : (f : DeclTree → Option ℕ) (ds : List Decl) (i : ℕ) → option_and_then (λ p. p) (slice_get (map (λ d. f (decl_view d)) ds) i) ≡ option_and_then f (slice_get (map decl_view ds) i)
joined f [] i = refl
joined f (d ∷ ds) zero = refl
joined f (d ∷ ds) (suc i) = joined f ds i

-- the list of parents, with none for Array in front
pub parents_are : (m : ModelTree) (ds : List Decl) (parents : List (Option ℕ)) → m.decls ≡ map decl_view ds → parents ≡ None ∷ map (λ d. parent_of m (decl_view d)) ds
    → (c : ℕ) → parent_in parents c ≡ parent m c
parents_are m ds parents here are zero = rw are refl
parents_are m ds parents here are (suc i) = rw are (joined (parent_of m) ds i ∙ ap (λ (l : List DeclTree). option_and_then (parent_of m) (slice_get l i)) (sym here))

-- two ways up that agree lead along the same line
followed_same : (up over : ℕ → Option ℕ) → ((c : ℕ) → up c ≡ over c) → (n c : ℕ) → followed up n c ≡ followed over n c
followed_same up over agree zero c = refl
followed_same up over agree (suc n) c = rw (agree c) (ap (λ (line : List ℕ). c ∷ line) (above (over c) (followed_same up over agree n)))
  where
    above : (p : Option ℕ) → ((k : ℕ) → followed up n k ≡ followed over n k) → option_map_or (followed up n) p [] ≡ option_map_or (followed over n) p []
    above None rest = refl
    above (Some p) rest = rest p

pub line_same : (up over : ℕ → Option ℕ) → ((c : ℕ) → up c ≡ over c) → (most n c : ℕ) → most ≡ n → followed up most c ≡ followed over n c
line_same up over agree most n c same = rw same (followed_same up over agree n c)
