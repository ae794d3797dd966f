-- The parents and the ancestors of classes in a grown model.
use Rattle.std.proofs.Common.{◌≡◌, ◌≢◌, refl, ap, ◌∙◌, ℕ, zero, suc, [], ◌∷◌, length, Option, Some, None, arith}
use Rattle.std.specs.List.{AllByRecursion}
use Rattle.std.specs.Option.{option_map, option_map_or, option_and_then}
use Rattle.pz_env_tree.specs.pz_syntax.declared.names.Id.{Id}
use Rattle.pz_env_tree.specs.pz_syntax.declared.clusters.SystemDecl.{SystemDecl}
use Rattle.pz_env_tree.specs.pz_syntax.Classes.{DeclTree, ProcessClassTree, ModelTree}
use Rattle.pz_env_tree.specs.pz_classes_rules.Numbers.{declaration}
use Rattle.pz_env_tree.specs.pz_classes_rules.Ancestors.{extended, parent_named, parent_of, parent, followed, ancestors}
use Rattle.pz_env_tree.specs.pz_classes_rules.Reached.{AncestorsAreReached}
use Rattle.pz_env_tree.specs.pz_classes_rules.Soundness.{IsSound}
use Rattle.pz_env_grown.proofs.WaysUp.{followed_same}
use Rattle.pz_env_grown.proofs.Parents.{parent_within, no_further}
use Rattle.pz_env_grown.proofs.Kept.{parent_of_same}
use Rattle.pz_env_sound.proofs.Grown.{grown_decl, of_grown, grown, decls_counted, declaration_new, declaration_other, class_kept}

pub extended_same : (f : SystemDecl → SystemDecl) (d : DeclTree) → extended (grown_decl f d) ≡ extended d
extended_same = of_grown extended (λ s t. refl)

module _ (f : SystemDecl → SystemDecl) (e : ProcessClassTree) (m : ModelTree) (sound : IsSound m) where
  pub parent_same : (c : ℕ) → c ≢ suc (length m.decls) → parent (grown m f e) c ≡ parent m c
  parent_same c other = ap (option_and_then (parent_of (grown m f e))) (declaration_other f e m c other) ∙ by_decl (declaration m c) refl
    where
      by_decl : (o : Option DeclTree) → declaration m c ≡ o
          → option_and_then (parent_of (grown m f e)) (option_map (grown_decl f) o) ≡ option_and_then (parent_of m) o
      by_decl None at = refl
      by_decl (Some d) at = parent_of_same m (grown m f e) sound (class_kept f e m) c d (grown_decl f d) at (extended_same f d)

  parents_other : (c p : ℕ) → parent m c ≡ Some p → p ≢ suc (length m.decls)
  parents_other c p is last = let low = parent_within m c p is in omega (arith, low, last)

  module _ (reached : AncestorsAreReached) where
    pub ancestors_same : (c : ℕ) → c ≢ suc (length m.decls) → ancestors (grown m f e) c ≡ ancestors m c
    ancestors_same c other =
        ap (λ (n : ℕ). followed (parent (grown m f e)) (suc n) c) (decls_counted f e m)
        ∙ followed_same (parent m) (parent (grown m f e)) (λ k. k ≢ suc (length m.decls)) parent_same parents_other (suc (suc (length m.decls))) c other
        ∙ no_further m sound reached c (suc (suc (length m.decls))) (omega arith)

  -- the new class is not among the ancestors of another
  followed_other : (n c : ℕ) → c ≢ suc (length m.decls) → AllByRecursion (λ (k : ℕ). k ≢ suc (length m.decls)) (followed (parent m) n c)
  followed_other zero c other = tt
  followed_other (suc n) c other = (other, by_parent (parent m c) refl (followed_other n))
    where
      by_parent : (o : Option ℕ) → parent m c ≡ o
          → ((p : ℕ) → p ≢ suc (length m.decls) → AllByRecursion (λ (k : ℕ). k ≢ suc (length m.decls)) (followed (parent m) n p))
          → AllByRecursion (λ (k : ℕ). k ≢ suc (length m.decls)) (option_map_or (followed (parent m) n) o [])
      by_parent None is rest = tt
      by_parent (Some p) is rest = rest p (parents_other c p is)

  pub ancestors_other : (c : ℕ) → c ≢ suc (length m.decls) → AllByRecursion (λ (k : ℕ). k ≢ suc (length m.decls)) (ancestors m c)
  ancestors_other c other = followed_other (suc (length m.decls)) c other

  -- The new class has no ancestor but itself.
  module _ (alone : e.parent ≡ None) where
    pub parent_new : parent (grown m f e) (suc (length m.decls)) ≡ None
    parent_new =
        ap (option_and_then (parent_of (grown m f e))) (declaration_new f e m)
        ∙ ap (option_and_then (λ (x : Id). parent_named (grown m f e) x.name)) alone

    pub ancestors_new : ancestors (grown m f e) (suc (length m.decls)) ≡ suc (length m.decls) ∷ []
    ancestors_new = ap (λ (o : Option ℕ). suc (length m.decls) ∷ option_map_or (followed (parent (grown m f e)) (length (grown m f e).decls)) o []) parent_new
