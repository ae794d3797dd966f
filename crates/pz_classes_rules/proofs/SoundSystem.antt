-- The system of a sound model.
use Rattle.std.proofs.Common.{◌≡◌, refl, ℕ, ◌≤◌, Bool, true, false, ◌||◌, List, [], ◌∷◌, map, nat_lt, Some, arith}
use Rattle.std.proofs.lemmas.Bool.Decides.{nat_tests}
use Rattle.std.specs.List.{Contains}
use Rattle.pz_classes_code.specs.pz_syntax.declared.clusters.SystemDecl.{SystemDecl}
use Rattle.pz_classes_code.specs.pz_syntax.Classes.{DeclTree, ModelTree}
use Rattle.pz_check_violations.specs.Order.{violation}
use Rattle.pz_classes_rules.specs.Numbers.{declaration}
use Rattle.pz_classes_rules.specs.Instances.{instances}
use Rattle.pz_classes_rules.specs.RepeatRules.{same_name, again_instance}
use Rattle.pz_classes_rules.specs.SizeRules.{systems, text_start, system_size, HasNoSize, by_class, by_name, by_holding, by_system, again_system, no_system, too_large}
use Rattle.pz_classes_rules.specs.Soundness.{IsSound, a_word, a_repeat, holding, size, the_system}
use Rattle.pz_classes_rules.specs.Apart.{AreApart}
use Rattle.pz_classes_rules.specs.SoundSystem.{HasOneSystem, PartsFit, IsLimited, SoundSystemsFit}
use Rattle.pz_classes_rules.proofs.Turned.{names_turned}
use Rattle.pz_classes_rules.proofs.Apart.{apart}
use Rattle.pz_classes_rules.proofs.SoundInstances.{instance_fits, unheld}
use Rattle.pz_classes_rules.proofs.SoundEnds.{end_fits, ends_apart, outer_apart}

abbrev any_two : SystemDecl → SystemDecl → Bool
any_two s t = true

within_limits : (p k h : ℕ) → (nat_lt 10000 p || nat_lt 10000 k || nat_lt 1000000 h ≡ true → ⊥) → (p ≤ 10000) × (k ≤ 10000) × (h ≤ 1000000)
within_limits p k h never = by_test (nat_lt 10000 p || nat_lt 10000 k || nat_lt 1000000 h) refl
  where
    by_test : (b : Bool) → nat_lt 10000 p || nat_lt 10000 k || nat_lt 1000000 h ≡ b → (p ≤ 10000) × (k ≤ 10000) × (h ≤ 1000000)
    by_test true is = absurd (never is)
    by_test false is = (grind (arith, nat_tests), grind (arith, nat_tests), grind (arith, nat_tests))

zero_not_one : ◌≡◌ {A = ℕ} 0 1 → ⊥
zero_not_one is = cc

module _ (m : ModelTree) (sound : IsSound m) where
  one_of : (ss : List SystemDecl) → systems m ≡ ss → HasOneSystem m
  one_of [] is = absurd (sound.rules (violation 20 text_start) (the_system (violation 20 text_start) (no_system is)))
  one_of (s ∷ []) is = record { the_system = s; only = is }
  one_of (s ∷ t ∷ ss) is =
      let alone : AreApart any_two (systems m) = apart any_two (λ x. x.pos) (systems m) (λ x y same. refl) (λ x again. sound.rules (violation 20 x.pos) (the_system (violation 20 x.pos) (again_system x again))) in
      absurd (zero_not_one (alone 0 1 s t (rw is refl) (rw is refl) refl))

  parts_fit : (c : ℕ) (d : DeclTree) → declaration m c ≡ Some d → PartsFit m c d
  parts_fit c d declared = record {
    instances_fit = λ i here. instance_fits m sound c d declared i here;
    instances_apart = apart same_name (λ x. x.pos) (map (λ i. i.name) (instances d)) names_turned
        (λ y again. sound.rules (violation 4 y.pos) (a_repeat (violation 4 y.pos) (again_instance c d y declared again)));
    ends_fit = end_fits m sound c d declared;
    ends_apart = ends_apart m sound c d declared;
    outer_apart = outer_apart m sound c d declared;
    unheld = unheld m sound c d declared;
  }

  has_size : HasNoSize m → ⊥
  has_size (by_class pos wrong) = sound.rules (violation 13 pos) (a_word (violation 13 pos) wrong)
  has_size (by_name pos wrong) = sound.rules (violation 18 pos) (a_word (violation 18 pos) wrong)
  has_size (by_holding v wrong) = sound.rules v (holding v wrong)
  has_size (by_system v wrong) = sound.rules v (the_system v wrong)

  limited : (s : SystemDecl) → Contains (systems m) s → IsLimited (system_size m s)
  limited s here =
      let t = system_size m s in
      let w = within_limits t.processes t.clusters t.channels (λ wrong. sound.rules (violation 19 s.pos) (size (violation 19 s.pos) (too_large s has_size here wrong))) in
      record { processes = w.0; clusters = w.1; channels = w.2 }

pub system_fits : SoundSystemsFit
system_fits m sound = record { one_system = one_of m sound (systems m) refl; parts_fit = parts_fit m sound; limited = limited m sound }
