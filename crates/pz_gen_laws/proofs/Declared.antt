-- The declarations of a ring, one by one, and tests of what is declared.
use Rattle.std.proofs.Common.{◌≡◌, sym, ◌∙◌, ap, subst, ℕ, zero, suc, Bool, true, false, not, ◌&&◌, List, [], ◌∷◌, Option, Some, Contains}
use Rattle.std.specs.Option.{option_map_or}
use Rattle.std.specs.List.{AllByRecursion, list_all}
use Rattle.std.proofs.lemmas.Bool.{and_parts, not-true}
use Rattle.std.proofs.lemmas.List.Elements.{All-contains}
use Rattle.std.proofs.lemmas.List.Sums.{AllPass-from_list_all}
use Rattle.pz_classes_rules.specs.pz_syntax.declared.tokens.Pos.{Pos}
use Rattle.pz_classes_rules.specs.pz_syntax.declared.clusters.SystemDecl.{SystemDecl}
use Rattle.pz_classes_rules.specs.pz_syntax.Classes.{DeclTree, process_class, system}
use Rattle.pz_classes_rules.specs.Numbers.{declaration}
use Rattle.pz_gen_laws.specs.devices.RingTree.{station_at, supervisor_at, with_system}
use Rattle.pz_gen_laws.proofs.Distinct.{some_same, none_some}

module _ where
  -- what passes at each of the three declarations passes at all
  pub by_number : (at : ℕ → Pos) (s : SystemDecl) (P : ℕ → DeclTree → Type 0) → P 1 (process_class (station_at at)) → P 2 (process_class (supervisor_at at)) → P 3 (system s) → (c : ℕ) (d : DeclTree) → declaration (with_system at s) c ≡ Some d → P c d
  by_number at s P one two three zero d e = absurd (none_some d e)
  by_number at s P one two three (suc zero) d e = subst (P 1) (some_same (process_class (station_at at)) d e) one
  by_number at s P one two three (suc (suc zero)) d e = subst (P 2) (some_same (process_class (supervisor_at at)) d e) two
  by_number at s P one two three (suc (suc (suc zero))) d e = subst (P 3) (some_same (system s) d e) three
  by_number at s P one two three (suc (suc (suc (suc c)))) d e = absurd (none_some d e)

  -- a test of what is there
  pub passes : {A : Type 0} (test : A → Bool) (o : Option A) (x : A) (b : Bool) → option_map_or test o b ≡ b → o ≡ Some x → test x ≡ b
  passes test o x b all is = sym (ap (λ (p : Option _). option_map_or test p b) is) ∙ all

  pub passes_in : {A : Type 0} (test : A → Bool) (xs : List A) (x : A) → list_all test xs ≡ true → Contains xs x → test x ≡ true
  passes_in test xs x all there = All-contains (λ y. test y ≡ true) xs x (AllPass-from_list_all test xs all) there

  -- none of these holds
  abbrev pub none : List Bool → Bool
  none [] = true
  none (b ∷ bs) = not b && none bs

  pub none_holds : (bs : List Bool) → none bs ≡ true → AllByRecursion (λ (b : Bool). b ≡ false) bs
  none_holds [] all = tt
  none_holds (b ∷ bs) all = let parts = and_parts _ _ all in (not-true _ parts.0, none_holds bs parts.1)
