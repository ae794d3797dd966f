-- C1 to C3 in a grown model.
use Rattle.std.proofs.Common.{◌≡◌, refl, sym, ap, subst, ◌∙◌, ℕ, suc, Bool, true, false, not, ◌&&◌, ◌||◌, nat_eq, List, length, Option, Some, None, if◌then◌else◌, arith, ◌⊎◌, inl, inr}
use Rattle.std.specs.List.{Contains}
use Rattle.std.specs.Option.{option_map_or}
use Rattle.std.proofs.lemmas.Bool.{both_ways, false_from_ne_true, and_cases, and_left, and_right, or_parts, or_from}
use Rattle.std.proofs.lemmas.Bool.Decides.{nat_tests}
use Rattle.pz_env_tree.specs.pz_syntax.declared.names.Id.{Id}
use Rattle.pz_env_tree.specs.pz_syntax.declared.clusters.SystemDecl.{SystemDecl}
use Rattle.pz_env_tree.specs.pz_syntax.Classes.{DeclTree, ProcessClassTree, data_class, process_class, cluster_class, system, ModelTree}
use Rattle.pz_env_tree.specs.pz_check_violations.declared.violation.Violation.{Violation}
use Rattle.pz_env_tree.specs.pz_check_violations.Order.{violation}
use Rattle.pz_env_tree.specs.pz_classes_code.ReservedNames.{is_primitive, is_unsupported, is_object}
use Rattle.pz_env_tree.specs.pz_classes_rules.Numbers.{declared_name, class}
use Rattle.pz_env_tree.specs.pz_classes_rules.Kinds.{is_data, is_declared_as}
use Rattle.pz_env_tree.specs.pz_classes_rules.Ancestors.{extended, parent}
use Rattle.pz_env_tree.specs.pz_classes_rules.Reached.{AncestorsAreReached}
use Rattle.pz_env_tree.specs.pz_classes_rules.Violations.{is_again, breaks_c1, same_sort, is_of_sort, may_extend, breaks_c2, Violates, c1, c2, c3}
use Rattle.pz_env_tree.specs.pz_classes_rules.Soundness.{IsSound}
use Rattle.pz_env_grown.proofs.Numbers.{none_some, some_same}
use Rattle.pz_env_grown.proofs.Parents.{parent_within}
use Rattle.pz_env_sound.proofs.Grown.{grown_decl, grown, IsDeclared, old, new, declared, declared_other, class_kept, class_new, sort_kept, data_same}
use Rattle.pz_env_sound.proofs.Ancestors.{extended_same, parent_same, parent_new, ancestors_same}
use Rattle.pz_env_sound.proofs.NewParts.{IsFresh}
use Rattle.pz_env_sound.proofs.Tests.{fewer}

named_same : (f : SystemDecl → SystemDecl) (d : DeclTree) → declared_name (grown_decl f d) ≡ declared_name d
named_same f (data_class c) = refl
named_same f (process_class c) = refl
named_same f (cluster_class c) = refl
named_same f (system s) = refl

sort_same : (f : SystemDecl → SystemDecl) (was d : DeclTree) → same_sort (grown_decl f was) (grown_decl f d) ≡ same_sort was d
sort_same f (data_class b) (data_class c) = refl
sort_same f (data_class b) (process_class c) = refl
sort_same f (data_class b) (cluster_class c) = refl
sort_same f (data_class b) (system c) = refl
sort_same f (process_class b) (data_class c) = refl
sort_same f (process_class b) (process_class c) = refl
sort_same f (process_class b) (cluster_class c) = refl
sort_same f (process_class b) (system c) = refl
sort_same f (cluster_class b) (data_class c) = refl
sort_same f (cluster_class b) (process_class c) = refl
sort_same f (cluster_class b) (cluster_class c) = refl
sort_same f (cluster_class b) (system c) = refl
sort_same f (system b) (data_class c) = refl
sort_same f (system b) (process_class c) = refl
sort_same f (system b) (cluster_class c) = refl
sort_same f (system b) (system c) = refl

-- nothing is of a sort with a system or a cluster class
to_grown : (f : SystemDecl → SystemDecl) (was d : DeclTree) → same_sort (grown_decl f was) d ≡ same_sort was d
to_grown f (data_class b) d = refl
to_grown f (process_class b) d = refl
to_grown f (cluster_class b) d = refl
to_grown f (system b) d = refl

number_itself : (n : ℕ) → nat_eq n n ≡ true
number_itself n = grind (arith, nat_tests)

module _ (f : SystemDecl → SystemDecl) (e : ProcessClassTree) (m : ModelTree) (sound : IsSound m) (reached : AncestorsAreReached)
    (fresh : IsFresh m e) where
  first_kept : (c : ℕ) (name : List ℕ) → is_again m c name ≡ false → is_again (grown m f e) c name ≡ false
  first_kept c name is = by_class (class m name) refl is
    where
      by_class : (o : Option ℕ) → class m name ≡ o → not (option_map_or (nat_eq c) o false) ≡ false → is_again (grown m f e) c name ≡ false
      by_class None named has = absurd (both_ways true has refl)
      by_class (Some k) named has = rw (class_kept f e m name k named) has

  c1_kept : (c : ℕ) (name : List ℕ) → breaks_c1 m c name ≡ false → breaks_c1 (grown m f e) c name ≡ false
  c1_kept c name is = by (and_cases (not (is_unsupported name)) (is_primitive name || is_again m c name) is)
    where
      by : (not (is_unsupported name) ≡ false) ⊎ (is_primitive name || is_again m c name ≡ false) → breaks_c1 (grown m f e) c name ≡ false
      by (inl unsupported) = and_left (not (is_unsupported name)) (is_primitive name || is_again (grown m f e) c name) unsupported
      by (inr neither) =
          let parts = or_parts (is_primitive name) (is_again m c name) neither in
          and_right (not (is_unsupported name)) (is_primitive name || is_again (grown m f e) c name)
          (or_from (is_primitive name) (is_again (grown m f e) c name) parts.0 (first_kept c name parts.1))

  c1_new : breaks_c1 (grown m f e) (suc (length m.decls)) e.name.name ≡ false
  c1_new =
      let same : nat_eq (suc (length m.decls)) (suc (length m.decls)) ≡ true = number_itself (suc (length m.decls)) in
      rw (fresh.supported, fresh.free, class_new f e m fresh.unknown, same) refl

  may_kept : (was : DeclTree) (name : List ℕ) → may_extend m was name ≡ true → may_extend (grown m f e) (grown_decl f was) name ≡ true
  may_kept was name is = by_primitive (is_primitive name) refl is
    where
      by_primitive : (b : Bool) → is_primitive name ≡ b → (if b then is_data was && is_object name else is_of_sort m was name) ≡ true
          → may_extend (grown m f e) (grown_decl f was) name ≡ true
      by_primitive true prim has = rw (prim, data_same f was) has
      by_primitive false prim has = rw prim (sort_kept f e m (same_sort (grown_decl f was)) (λ d. sort_same f was d ∙ sym (to_grown f was d)) name (to_m has))
        where
          alike : (n : List ℕ) → is_declared_as (same_sort (grown_decl f was)) m n ≡ is_of_sort m was n
          alike n = by_decl was
            where
              by_decl : (w : DeclTree) → is_declared_as (same_sort (grown_decl f w)) m n ≡ is_of_sort m w n
              by_decl (data_class b) = refl
              by_decl (process_class b) = refl
              by_decl (cluster_class b) = refl
              by_decl (system b) = refl

          to_m : is_of_sort m was name ≡ true → is_declared_as (same_sort (grown_decl f was)) m name ≡ true
          to_m h = alike name ∙ h

  c2_kept : (was : DeclTree) (name : List ℕ) → breaks_c2 m was name ≡ false → breaks_c2 (grown m f e) (grown_decl f was) name ≡ false
  c2_kept was name = fewer (not (is_unsupported name)) (may_extend m was name) (may_extend (grown m f e) (grown_decl f was) name) (may_kept was name)

  pub no_class : (v : Violation) → Violates (grown m f e) v → ⊥
  no_class _ (c1 c d name at is breaks) = by (declared f e m c d at)
    where
      by : IsDeclared f e m c d → ⊥
      by (old was there same) =
          let its : declared_name was ≡ Some name = sym (named_same f was) ∙ ap declared_name (sym same) ∙ is in
          both_ways (breaks_c1 (grown m f e) c name.name)
          (c1_kept c name.name (false_from_ne_true (breaks_c1 m c name.name) (λ wrong. sound.classes (violation 1 name.pos) (c1 c was name there its wrong)))) breaks
      by (new number same) =
          let its : e.name ≡ name = some_same e.name name (ap declared_name (sym same) ∙ is) in
          both_ways (breaks_c1 (grown m f e) c name.name)
          (ap (λ (k : ℕ). breaks_c1 (grown m f e) k name.name) number ∙ ap (λ (x : Id). breaks_c1 (grown m f e) (suc (length m.decls)) x.name) (sym its) ∙ c1_new) breaks
  no_class _ (c2 c d name at is breaks) = by (declared f e m c d at)
    where
      by : IsDeclared f e m c d → ⊥
      by (old was there same) =
          let its : extended was ≡ Some name = sym (extended_same f was) ∙ ap extended (sym same) ∙ is in
          both_ways (breaks_c2 (grown m f e) d name.name)
          (ap (λ (x : DeclTree). breaks_c2 (grown m f e) x name.name) same
          ∙ c2_kept was name.name (false_from_ne_true (breaks_c2 m was name.name) (λ wrong. sound.classes (violation 2 name.pos) (c2 c was name there its wrong)))) breaks
      by (new number same) = none_some name (sym fresh.alone ∙ (ap extended (sym same) ∙ is))
  no_class _ (c3 c p d name at is over among) = by (declared f e m c d at)
    where
      by : IsDeclared f e m c d → ⊥
      by (old was there same) =
          let its : declared_name was ≡ Some name = sym (named_same f was) ∙ ap declared_name (sym same) ∙ is in
          let above : parent m c ≡ Some p = sym (parent_same f e m sound c (declared_other f e m c was there)) ∙ over in
          let low = parent_within m c p above in
          sound.classes (violation 3 name.pos)
          (c3 c p was name there its above (subst (λ (l : List ℕ). Contains l c) (ancestors_same f e m sound reached p (λ q. omega (arith, low, q))) among))
      by (new number same) = none_some p (sym (ap (parent (grown m f e)) number ∙ parent_new f e m sound fresh.alone) ∙ over)
