-- Each word of a ring stands where it may.
use Rattle.std.proofs.Common.{◌≡◌, refl, ◌∙◌, ℕ, Bool, true, false, List, [], ◌∷◌, Some}
use Rattle.std.specs.List.{AllByRecursion, list_all}
use Rattle.std.proofs.lemmas.Bool.{and_from, both_ways}
use Rattle.std.proofs.lemmas.List.Folds.{list_all-append}
use Rattle.pz_classes_rules.specs.pz_syntax.declared.tokens.Pos.{Pos}
use Rattle.pz_classes_rules.specs.pz_syntax.declared.names.Id.{Id}
use Rattle.pz_classes_rules.specs.pz_syntax.declared.clusters.Instance.{Instance}
use Rattle.pz_classes_rules.specs.pz_syntax.declared.clusters.SystemDecl.{SystemDecl}
use Rattle.pz_classes_rules.specs.pz_syntax.Classes.{DeclTree, process_class, system, ModelTree}
use Rattle.pz_classes_mentions.specs.declared.mention.Mention.{Mention}
use Rattle.pz_classes_mentions.specs.declared.local_scope.LocalScope.{LocalScope}
use Rattle.pz_classes_mentions.specs.Declarations.{parts, mentioned_instance, mentioned_instances}
use Rattle.pz_classes_rules.specs.pz_check_violations.declared.violation.Violation.{Violation}
use Rattle.pz_classes_rules.specs.Numbers.{declaration}
use Rattle.pz_classes_rules.specs.NameRules.{breaks_c5, breaks_c6, breaks_c12, breaks_c13, breaks_c18, breaks_c21, breaks_c22}
use Rattle.pz_classes_rules.specs.CallRules.{breaks_c7, breaks_c8, breaks_c9, breaks_c10, breaks_c11}
use Rattle.pz_classes_rules.specs.Words.{Mentions}
use Rattle.pz_classes_rules.specs.WordRules.{BreaksWord, c5, c6, c7, c8, c9, c10, c11, c12, c13, c18, c21, c22}
use Rattle.pz_gen_laws.specs.devices.RingTree.{station_at, supervisor_at, with_system}
use Rattle.pz_gen_laws.specs.devices.RingParts.{IsPart, a_station, the_supervisor, instances_in}
use Rattle.pz_gen_laws.proofs.Declared.{by_number, passes_in, none, none_holds}

-- which rules a word breaks
abbrev broken : ModelTree → ℕ → DeclTree → List Id → Mention → List Bool
broken m c d locals x =
    breaks_c5 m x ∷ breaks_c6 m c d locals x ∷ breaks_c7 m c x ∷ breaks_c8 m x ∷ breaks_c9 m c x ∷ breaks_c10 m c x
    ∷ breaks_c11 m c d x ∷ breaks_c12 m x ∷ breaks_c13 m x ∷ breaks_c18 x ∷ breaks_c21 d x ∷ breaks_c22 d x ∷ []

abbrev stands : ModelTree → ℕ → DeclTree → List Id → Mention → Bool
stands m c d locals x = none (broken m c d locals x)

abbrev part_stands : ModelTree → ℕ → DeclTree → LocalScope → Bool
part_stands m c d p = list_all (stands m c d p.locals) p.mentions

abbrev all_stand : ModelTree → ℕ → DeclTree → Bool
all_stand m c d = list_all (part_stands m c d) (parts d)

module _ (at : ℕ → Pos) (s : SystemDecl) where
  station_stands : all_stand (with_system at s) 1 (process_class (station_at at)) ≡ true
  station_stands = refl

  supervisor_stands : all_stand (with_system at s) 2 (process_class (supervisor_at at)) ≡ true
  supervisor_stands = refl

  instance_stands : (i : Instance) → IsPart i → list_all (stands (with_system at s) 3 (system s) []) (mentioned_instance i) ≡ true
  instance_stands i (a_station j true p q r u) = refl
  instance_stands i (a_station j false p q r u) = refl
  instance_stands i (the_supervisor p q) = refl

  instances_stand : (is : List Instance) → AllByRecursion IsPart is → list_all (stands (with_system at s) 3 (system s) []) (mentioned_instances is) ≡ true
  instances_stand [] all = refl
  instances_stand (i ∷ is) all =
      list_all-append (stands (with_system at s) 3 (system s) []) (mentioned_instance i) (mentioned_instances is)
      ∙ and_from _ _ (instance_stands i all.0) (instances_stand is all.1)

  module _ (are : AllByRecursion IsPart (instances_in s)) where
    system_stands : all_stand (with_system at s) 3 (system s) ≡ true
    system_stands = and_from _ _ (instances_stand (instances_in s) are) refl

    declared_stands : (c : ℕ) (d : DeclTree) → declaration (with_system at s) c ≡ Some d → all_stand (with_system at s) c d ≡ true
    declared_stands = by_number at s (λ c d. all_stand (with_system at s) c d ≡ true) station_stands supervisor_stands system_stands

    word_stands : (c : ℕ) (d : DeclTree) (p : LocalScope) (x : Mention) → Mentions (with_system at s) c d p x → AllByRecursion (λ (b : Bool). b ≡ false) (broken (with_system at s) c d p.locals x)
    word_stands c d p x there =
        none_holds (broken (with_system at s) c d p.locals x)
        (passes_in (stands (with_system at s) c d p.locals) p.mentions x
        (passes_in (part_stands (with_system at s) c d) (parts d) p (declared_stands c d there.declared) there.part_of) there.mentioned)

    pub no_word : (v : Violation) → BreaksWord (with_system at s) v → ⊥
    no_word v (c5 c d p x there breaks) = both_ways _ (word_stands c d p x there).0 breaks
    no_word v (c6 c d p x there breaks) = both_ways _ (word_stands c d p x there).1.0 breaks
    no_word v (c7 c d p x there breaks) = both_ways _ (word_stands c d p x there).1.1.0 breaks
    no_word v (c8 c d p x there breaks) = both_ways _ (word_stands c d p x there).1.1.1.0 breaks
    no_word v (c9 c d p x there breaks) = both_ways _ (word_stands c d p x there).1.1.1.1.0 breaks
    no_word v (c10 c d p x there breaks) = both_ways _ (word_stands c d p x there).1.1.1.1.1.0 breaks
    no_word v (c11 c d p x there breaks) = both_ways _ (word_stands c d p x there).1.1.1.1.1.1.0 breaks
    no_word v (c12 c d p x there breaks) = both_ways _ (word_stands c d p x there).1.1.1.1.1.1.1.0 breaks
    no_word v (c13 c d p x there breaks) = both_ways _ (word_stands c d p x there).1.1.1.1.1.1.1.1.0 breaks
    no_word v (c18 c d p x there breaks) = both_ways _ (word_stands c d p x there).1.1.1.1.1.1.1.1.1.0 breaks
    no_word v (c21 c d p x there breaks) = both_ways _ (word_stands c d p x there).1.1.1.1.1.1.1.1.1.1.0 breaks
    no_word v (c22 c d p x there breaks) = both_ways _ (word_stands c d p x there).1.1.1.1.1.1.1.1.1.1.1.0 breaks
