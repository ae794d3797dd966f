-- The words of a grown model: those that were there, the class of the instance that is new, and those of
-- the class that is new. None breaks a rule.
use Rattle.std.proofs.Common.{◌≡◌, refl, sym, ap, subst, ◌∙◌, ℕ, suc, Bool, true, false, not, ◌&&◌, ◌||◌, List, [], ◌∷◌, ◌++◌, append-nil, length, Option, Some, IsTrue, arith, ◌⊎◌, inl, inr}
use Rattle.std.specs.List.{Contains}
use Rattle.std.specs.Option.{option_map_or, option_and_then, unwrap_or}
use Rattle.std.proofs.lemmas.Bool.{both_ways, false_from_ne_true, or_left}
use Rattle.std.proofs.lemmas.Grind.{flat_map-append}
use Rattle.std.proofs.lemmas.List.Elements.{Contains-append_cases}
use Rattle.pz_env_tree.specs.pz_syntax.declared.names.Id.{Id}
use Rattle.pz_env_tree.specs.pz_syntax.declared.clusters.Instance.{Instance}
use Rattle.pz_env_tree.specs.pz_syntax.declared.clusters.Given.{Given}
use Rattle.pz_env_tree.specs.pz_syntax.declared.clusters.SystemDecl.{SystemDecl}
use Rattle.pz_env_tree.specs.pz_syntax.Classes.{DeclTree, ProcessClassTree, data_class, process_class, cluster_class, system, ModelTree}
use Rattle.pz_classes_mentions.specs.declared.mention.Mention.{Mention}
use Rattle.pz_classes_mentions.specs.declared.mention.Mention.TheVariants.{Instantiated}
use Rattle.pz_classes_mentions.specs.declared.local_scope.LocalScope.{LocalScope}
use Rattle.pz_classes_mentions.specs.Declarations.{parts, mentioned_instance, mentioned_instances, mentioned_givens, system_part}
use Rattle.pz_env_tree.specs.pz_check_violations.declared.violation.Violation.{Violation}
use Rattle.pz_env_tree.specs.pz_check_violations.Order.{violation}
use Rattle.pz_env_tree.specs.pz_classes_code.ReservedNames.{is_unsupported}
use Rattle.pz_env_tree.specs.pz_classes_rules.Numbers.{declaration}
use Rattle.pz_env_tree.specs.pz_classes_rules.Kinds.{is_process, is_cluster, is_declared_as}
use Rattle.pz_env_tree.specs.pz_classes_rules.Reached.{AncestorsAreReached}
use Rattle.pz_env_tree.specs.pz_classes_rules.NameRules.{breaks_c5, breaks_c6, has_instances, breaks_c12, breaks_c13, breaks_c18, breaks_c21, breaks_c22}
use Rattle.pz_env_tree.specs.pz_classes_rules.CallRules.{breaks_c7, breaks_c8, breaks_c9, breaks_c10, breaks_c11}
use Rattle.pz_env_tree.specs.pz_classes_rules.Words.{Mentions, place}
use Rattle.pz_env_tree.specs.pz_classes_rules.WordRules.{BreaksWord, c5, c6, c7, c8, c9, c10, c11, c12, c13, c18, c21, c22}
use Rattle.pz_env_tree.specs.pz_classes_rules.Soundness.{IsSound, a_word}
use Rattle.pz_env_grown.proofs.Elements.{none_in, in_cases}
use Rattle.pz_env_sound.proofs.Grown.{grown_decl, grown, IsDeclared, old, new, declared, declared_other, declaration_new, class_new}
use Rattle.pz_env_sound.proofs.NewParts.{IsFresh, Gains}
use Rattle.pz_env_sound.proofs.KeptWords.{broken, NoneHolds, words_kept}

-- what a sound model says of its words
pub sound_words : (m : ModelTree) → IsSound m → (c : ℕ) (d : DeclTree) (p : LocalScope) (x : Mention) → Mentions m c d p x
    → NoneHolds (broken m c d p.locals x)
sound_words m sound c d p x there = (
  holds (breaks_c5 m x) 5 (λ h. c5 c d p x there h),
  (
    holds (breaks_c6 m c d p.locals x) 6 (λ h. c6 c d p x there h),
    (
      holds (breaks_c7 m c x) 7 (λ h. c7 c d p x there h),
      (
        holds (breaks_c8 m x) 8 (λ h. c8 c d p x there h),
        (
          holds (breaks_c9 m c x) 9 (λ h. c9 c d p x there h),
          (
            holds (breaks_c10 m c x) 10 (λ h. c10 c d p x there h),
            (
              holds (breaks_c11 m c d x) 11 (λ h. c11 c d p x there h),
              (
                holds (breaks_c12 m x) 12 (λ h. c12 c d p x there h),
                (
                  holds (breaks_c13 m x) 13 (λ h. c13 c d p x there h),
                  (
                    holds (breaks_c18 x) 18 (λ h. c18 c d p x there h),
                    (
                      holds (breaks_c21 d x) 21 (λ h. c21 c d p x there h),
                      (holds (breaks_c22 d x) 22 (λ h. c22 c d p x there h), tt),
                    ),
                  ),
                ),
              ),
            ),
          ),
        ),
      ),
    ),
  ),
)
  where
    holds : (b : Bool) (n : ℕ) → (IsTrue b → BreaksWord m (violation n (place x))) → b ≡ false
    holds b n wrong = false_from_ne_true b (λ is. sound.rules (violation n (place x)) (a_word (violation n (place x)) (wrong is)))

-- a model whose words break no rule
pub no_broken_word : (m : ModelTree)
    → ((c : ℕ) (d : DeclTree) (p : LocalScope) (x : Mention) → Mentions m c d p x → NoneHolds (broken m c d p.locals x)) → (v : Violation)
    → BreaksWord m v → ⊥
no_broken_word m stands v (c5 c d p x there breaks) = both_ways (breaks_c5 m x) (stands c d p x there).0 breaks
no_broken_word m stands v (c6 c d p x there breaks) = both_ways (breaks_c6 m c d p.locals x) (stands c d p x there).1.0 breaks
no_broken_word m stands v (c7 c d p x there breaks) = both_ways (breaks_c7 m c x) (stands c d p x there).1.1.0 breaks
no_broken_word m stands v (c8 c d p x there breaks) = both_ways (breaks_c8 m x) (stands c d p x there).1.1.1.0 breaks
no_broken_word m stands v (c9 c d p x there breaks) = both_ways (breaks_c9 m c x) (stands c d p x there).1.1.1.1.0 breaks
no_broken_word m stands v (c10 c d p x there breaks) = both_ways (breaks_c10 m c x) (stands c d p x there).1.1.1.1.1.0 breaks
no_broken_word m stands v (c11 c d p x there breaks) = both_ways (breaks_c11 m c d x) (stands c d p x there).1.1.1.1.1.1.0 breaks
no_broken_word m stands v (c12 c d p x there breaks) = both_ways (breaks_c12 m x) (stands c d p x there).1.1.1.1.1.1.1.0 breaks
no_broken_word m stands v (c13 c d p x there breaks) = both_ways (breaks_c13 m x) (stands c d p x there).1.1.1.1.1.1.1.1.0 breaks
no_broken_word m stands v (c18 c d p x there breaks) = both_ways (breaks_c18 x) (stands c d p x there).1.1.1.1.1.1.1.1.1.0 breaks
no_broken_word m stands v (c21 c d p x there breaks) = both_ways (breaks_c21 d x) (stands c d p x there).1.1.1.1.1.1.1.1.1.1.0 breaks
no_broken_word m stands v (c22 c d p x there breaks) = both_ways (breaks_c22 d x) (stands c d p x there).1.1.1.1.1.1.1.1.1.1.1.0 breaks

module _ (f : SystemDecl → SystemDecl) (e : ProcessClassTree) (i : Instance) (m : ModelTree) (sound : IsSound m)
    (reached : AncestorsAreReached) (fresh : IsFresh m e) (gains : Gains f e i) where
  -- a process class is declared by the name of the new class
  pub new_is_process : is_declared_as is_process (grown m f e) e.name.name ≡ true
  new_is_process =
      ap (λ (o : Option ℕ). option_map_or is_process (option_and_then (declaration (grown m f e)) o) false) (class_new f e m fresh.unknown)
      ∙ ap (λ (o : Option DeclTree). option_map_or is_process o false) (declaration_new f e m)

  pub new_has_instances : has_instances (grown m f e) i.class.name ≡ true
  new_has_instances =
      ap (has_instances (grown m f e)) gains.class
      ∙ ap (λ (b : Bool). not b && (is_declared_as is_process (grown m f e) e.name.name || is_declared_as is_cluster (grown m f e) e.name.name)) fresh.free
      ∙ or_left (is_declared_as is_process (grown m f e) e.name.name) (is_declared_as is_cluster (grown m f e) e.name.name) new_is_process

  new_stands : (c : ℕ) (d : DeclTree) (locals : List Id) → NoneHolds (broken (grown m f e) c d locals (Instantiated i.class))
  new_stands c d locals = (refl, (refl, (refl, (refl, (refl, (refl, (refl, (refl, (never, (supported, (refl, (refl, tt))))))))))))
    where
      supported : is_unsupported i.class.name ≡ false
      supported = ap is_unsupported gains.class ∙ fresh.supported

      never : breaks_c13 (grown m f e) (Instantiated i.class) ≡ false
      never = rw (supported, new_has_instances) refl

  mentioned_new : mentioned_instance i ≡ Instantiated i.class ∷ []
  mentioned_new = ap (λ (o : Option (List Given)). Instantiated i.class ∷ mentioned_givens (unwrap_or o [])) gains.given

  mentioned_all : (s : SystemDecl)
      → mentioned_instances (unwrap_or (f s).instances []) ≡ mentioned_instances (unwrap_or s.instances []) ++ Instantiated i.class ∷ []
  mentioned_all s =
      ap mentioned_instances (gains.instances s)
      ∙ flat_map-append mentioned_instance (unwrap_or s.instances []) (i ∷ [])
      ∙ ap (λ (xs : List Mention). mentioned_instances (unwrap_or s.instances []) ++ xs) (append-nil (mentioned_instance i) ∙ mentioned_new)

  module _
      (new_words : (p : LocalScope) (x : Mention) → Contains (parts (process_class e)) p → Contains p.mentions x → NoneHolds (broken (grown m f e) (suc (length m.decls)) (process_class e) p.locals x)) where
    in_part : (c : ℕ) (was : DeclTree) → declaration m c ≡ Some was → (p : LocalScope) (x : Mention) → Contains (parts (grown_decl f was)) p
        → Contains p.mentions x → NoneHolds (broken (grown m f e) c (grown_decl f was) p.locals x)
    in_part c (data_class d) there p x has at =
        words_kept f e m sound reached c (declared_other f e m c (data_class d) there) (data_class d) p.locals x (sound_words m sound c (data_class d) p x (record { declared = there; part_of = has; mentioned = at }))
    in_part c (process_class d) there p x has at =
        words_kept f e m sound reached c (declared_other f e m c (process_class d) there) (process_class d) p.locals x (sound_words m sound c (process_class d) p x (record { declared = there; part_of = has; mentioned = at }))
    in_part c (cluster_class d) there p x has at =
        words_kept f e m sound reached c (declared_other f e m c (cluster_class d) there) (cluster_class d) p.locals x (sound_words m sound c (cluster_class d) p x (record { declared = there; part_of = has; mentioned = at }))
    in_part c (system s) there p x has at = by_part (in_cases (system_part (f s)) [] p has)
      where
        by_word : (q : LocalScope) → q ≡ system_part (f s)
            → Contains (mentioned_instances (unwrap_or s.instances [])) x ⊎ Contains (Instantiated i.class ∷ []) x
            → NoneHolds (broken (grown m f e) c (system (f s)) [] x)
        by_word q is (inl was) =
            words_kept f e m sound reached c (declared_other f e m c (system s) there) (system s) [] x (sound_words m sound c (system s) (system_part s) x (record { declared = there; part_of = (0, omega arith, refl); mentioned = was }))
        by_word q is (inr added) = by_new (in_cases (Instantiated i.class) [] x added)
          where
            by_new : (Instantiated i.class ≡ x) ⊎ Contains [] x → NoneHolds (broken (grown m f e) c (system (f s)) [] x)
            by_new (inl same) = subst (λ (y : Mention). NoneHolds (broken (grown m f e) c (system (f s)) [] y)) same (new_stands c (system (f s)) [])
            by_new (inr none) = absurd (none_in x none)

        by_part : (system_part (f s) ≡ p) ⊎ Contains [] p → NoneHolds (broken (grown m f e) c (system (f s)) p.locals x)
        by_part (inl same) =
            subst (λ (q : LocalScope). NoneHolds (broken (grown m f e) c (system (f s)) q.locals x)) same
            (by_word p (sym same)
            (Contains-append_cases (mentioned_instances (unwrap_or s.instances [])) (Instantiated i.class ∷ []) x
            (subst (λ (xs : List Mention). Contains xs x) (ap (λ (q : LocalScope). q.mentions) (sym same) ∙ mentioned_all s) at)))
        by_part (inr none) = absurd (none_in p none)

    word_stands : (c : ℕ) (d : DeclTree) (p : LocalScope) (x : Mention) → Mentions (grown m f e) c d p x
        → NoneHolds (broken (grown m f e) c d p.locals x)
    word_stands c d p x there = by (declared f e m c d there.declared)
      where
        by : IsDeclared f e m c d → NoneHolds (broken (grown m f e) c d p.locals x)
        by (old was at same) =
            subst (λ (y : DeclTree). NoneHolds (broken (grown m f e) c y p.locals x)) (sym same)
            (in_part c was at p x (subst (λ (y : DeclTree). Contains (parts y) p) same there.part_of) there.mentioned)
        by (new number same) =
            subst (λ (k : ℕ). NoneHolds (broken (grown m f e) k d p.locals x)) (sym number)
            (subst (λ (y : DeclTree). NoneHolds (broken (grown m f e) (suc (length m.decls)) y p.locals x)) (sym same)
            (new_words p x (subst (λ (y : DeclTree). Contains (parts y) p) same there.part_of) there.mentioned))

    pub no_word : (v : Violation) → BreaksWord (grown m f e) v → ⊥
    no_word = no_broken_word (grown m f e) word_stands
