-- A model whose system is given more, and that declares one more process class behind all others:
-- which number and which name is whose.
use Rattle.std.proofs.Common.{◌≡◌, ◌≢◌, refl, sym, ap, ◌∙◌, ℕ, zero, suc, ◌+◌, Bool, true, false, List, [], ◌∷◌, ◌++◌, map, length, Option, Some, None, slice_get, arith}
use Rattle.std.specs.Option.{option_map, option_map_or, option_and_then}
use Rattle.std.proofs.lemmas.Bool.{false≢true}
use Rattle.std.proofs.lemmas.Slice.Eq.{bytes_eq-Decides}
use Rattle.pz_env_tree.specs.pz_syntax.declared.clusters.SystemDecl.{SystemDecl}
use Rattle.pz_env_tree.specs.pz_syntax.Classes.{DeclTree, ProcessClassTree, data_class, process_class, cluster_class, system, ModelTree}
use Rattle.pz_env_tree.specs.pz_classes_rules.Numbers.{declaration, class}
use Rattle.pz_env_tree.specs.pz_classes_rules.Kinds.{is_data, is_process, is_cluster, is_declared_as}
use Rattle.pz_env_grown.specs.Growth.{Alike}
use Rattle.pz_env_grown.proofs.Numbers.{none_some, some_same, declared_within}
use Rattle.pz_env_grown.proofs.Alike.{of_alike}
use Rattle.pz_env_grown.proofs.Behind.{keeps_named, behind_named, behind_there, changed, long}

abbrev pub grown_decl : (SystemDecl → SystemDecl) → DeclTree → DeclTree
grown_decl f (data_class c) = data_class c
grown_decl f (process_class c) = process_class c
grown_decl f (cluster_class c) = cluster_class c
grown_decl f (system s) = system (f s)

abbrev pub grown : ModelTree → (SystemDecl → SystemDecl) → ProcessClassTree → ModelTree
grown m f e = record { decls = map (grown_decl f) m.decls ++ process_class e ∷ [] }

pub like_grown : (f : SystemDecl → SystemDecl) (d : DeclTree) → Alike d (grown_decl f d)
like_grown f (data_class c) = Alike.same (data_class c)
like_grown f (process_class c) = Alike.same (process_class c)
like_grown f (cluster_class c) = Alike.same (cluster_class c)
like_grown f (system s) = Alike.systems s (f s)

-- what is the same of every system is the same of a declaration that has grown
pub of_grown : {A : Type 0} (own : DeclTree → A) → ((s t : SystemDecl) → own (system s) ≡ own (system t)) → (f : SystemDecl → SystemDecl)
    (d : DeclTree) → own (grown_decl f d) ≡ own d
of_grown own still f d = sym (of_alike own still d (grown_decl f d) (like_grown f d))

module _ (f : SystemDecl → SystemDecl) (e : ProcessClassTree) where
  -- what stands at a number: what stood there, or the new class
  pub data Stands (ds : List DeclTree) (i : ℕ) (d : DeclTree) : Type 0 where
    old : (was : DeclTree) → slice_get ds i ≡ Some was → d ≡ grown_decl f was → Stands ds i d
    new : i ≡ length ds → d ≡ process_class e → Stands ds i d

  stands : (ds : List DeclTree) (i : ℕ) (d : DeclTree) → slice_get (map (grown_decl f) ds ++ process_class e ∷ []) i ≡ Some d
      → Stands ds i d
  stands [] zero d is = new refl (sym (some_same (process_class e) d is))
  stands [] (suc i) d is = absurd (none_some d is)
  stands (x ∷ ds) zero d is = old x refl (sym (some_same (grown_decl f x) d is))
  stands (x ∷ ds) (suc i) d is = on (stands ds i d is)
    where
      on : Stands ds i d → Stands (x ∷ ds) (suc i) d
      on (old was there same) = old was there same
      on (new number same) = new (ap (λ (k : ℕ). suc k) number) same

  at_other : (ds : List DeclTree) (i : ℕ) → i ≢ length ds
      → slice_get (map (grown_decl f) ds ++ process_class e ∷ []) i ≡ option_map (grown_decl f) (slice_get ds i)
  at_other [] zero other = absurd (other refl)
  at_other [] (suc i) other = refl
  at_other (x ∷ ds) zero other = refl
  at_other (x ∷ ds) (suc i) other = at_other ds i (λ is. other (ap (λ (k : ℕ). suc k) is))

  module _ (m : ModelTree) where
    pub decls_counted : length (grown m f e).decls ≡ suc (length m.decls)
    decls_counted = let all = long (grown_decl f) m.decls (process_class e ∷ []) in omega (arith, all)

    pub declaration_old : (c : ℕ) (d : DeclTree) → declaration m c ≡ Some d → declaration (grown m f e) c ≡ Some (grown_decl f d)
    declaration_old = changed (grown_decl f) m (grown m f e) (process_class e ∷ []) refl

    pub declaration_new : declaration (grown m f e) (suc (length m.decls)) ≡ Some (process_class e)
    declaration_new = behind_there (grown_decl f) m.decls (process_class e)

    pub data IsDeclared (c : ℕ) (d : DeclTree) : Type 0 where
      old : (was : DeclTree) → declaration m c ≡ Some was → d ≡ grown_decl f was → IsDeclared c d
      new : c ≡ suc (length m.decls) → d ≡ process_class e → IsDeclared c d

    pub declared : (c : ℕ) (d : DeclTree) → declaration (grown m f e) c ≡ Some d → IsDeclared c d
    declared zero d is = absurd (none_some d is)
    declared (suc i) d is = on (stands m.decls i d is)
      where
        on : Stands m.decls i d → IsDeclared (suc i) d
        on (Stands.old was there same) = old was there same
        on (Stands.new number same) = new (ap (λ (k : ℕ). suc k) number) same

    pub declaration_other : (c : ℕ) → c ≢ suc (length m.decls) → declaration (grown m f e) c ≡ option_map (grown_decl f) (declaration m c)
    declaration_other zero other = refl
    declaration_other (suc i) other = at_other m.decls i (λ is. other (ap (λ (k : ℕ). suc k) is))

    pub declared_other : (c : ℕ) (d : DeclTree) → declaration m c ≡ Some d → c ≢ suc (length m.decls)
    declared_other c d is same = let low = declared_within m c d is in omega (arith, low, same)

    pub class_kept : (name : List ℕ) (k : ℕ) → class m name ≡ Some k → class (grown m f e) name ≡ Some k
    class_kept = keeps_named (grown_decl f) (like_grown f) m.decls (process_class e ∷ []) 1

    pub class_new : class m e.name.name ≡ None → class (grown m f e) e.name.name ≡ Some (suc (length m.decls))
    class_new none =
        let number : 1 + length m.decls ≡ suc (length m.decls) = omega arith in
        behind_named (grown_decl f) (like_grown f) (process_class e) e.name.name ((bytes_eq-Decides e.name.name e.name.name).1 refl) m.decls 1 none ∙ ap (λ (k : ℕ). Some k) number

    -- A name that stands for a class of some sort stands for it still.
    pub sort_kept : (sort : DeclTree → Bool) → ((d : DeclTree) → sort (grown_decl f d) ≡ sort d) → (name : List ℕ)
        → is_declared_as sort m name ≡ true → is_declared_as sort (grown m f e) name ≡ true
    sort_kept sort same name is = by_class (class m name) refl is
      where
        by_decl : (k : ℕ) → class m name ≡ Some k → (o : Option DeclTree) → declaration m k ≡ o → option_map_or sort o false ≡ true
            → is_declared_as sort (grown m f e) name ≡ true
        by_decl k named None at has = absurd (false≢true has)
        by_decl k named (Some d) at has = rw (class_kept name k named, declaration_old k d at) (same d ∙ has)

        by_class : (o : Option ℕ) → class m name ≡ o → option_map_or sort (option_and_then (declaration m) o) false ≡ true
            → is_declared_as sort (grown m f e) name ≡ true
        by_class None named has = absurd (false≢true has)
        by_class (Some k) named has = by_decl k named (declaration m k) refl has

pub data_same : (f : SystemDecl → SystemDecl) (d : DeclTree) → is_data (grown_decl f d) ≡ is_data d
data_same = of_grown is_data (λ s t. refl)

pub process_same : (f : SystemDecl → SystemDecl) (d : DeclTree) → is_process (grown_decl f d) ≡ is_process d
process_same = of_grown is_process (λ s t. refl)

pub cluster_same : (f : SystemDecl → SystemDecl) (d : DeclTree) → is_cluster (grown_decl f d) ≡ is_cluster d
cluster_same = of_grown is_cluster (λ s t. refl)
