-- Where no class is among its own ancestors, the ancestors of a class are itself and those of its
-- parent: a line in which no class comes twice is no longer than there are classes.
use Rattle.std.proofs.Common.{◌≡◌, refl, sym, ap, ℕ, zero, suc, ◌<◌, ◌≤◌, Bool, true, false, List, [], ◌∷◌, length, Option, Some, None, eqb, arith}
use Rattle.std.specs.List.{IsDistinct, list_any}
use Rattle.std.specs.Option.{option_map_or}
use Rattle.std.proofs.lemmas.Bool.{eqb-true}
use Rattle.std.proofs.lemmas.Map.Keys.{IsDistinct-cons}
use Rattle.std.proofs.lemmas.Map.Steps.{length-le_from_distinct_below}
use Rattle.pz_classes_code.specs.pz_syntax.Classes.{ModelTree}
use Rattle.pz_classes_lineage.specs.Reached.{GoesRound, round}
use Rattle.pz_classes_rules.specs.Ancestors.{parent, ancestors, followed}
use Rattle.pz_classes_rules.proofs.Within.{parent_within}
use Rattle.pz_classes_rules.proofs.Reaching.{apart, followed_from}

module _ (m : ModelTree) (flat : (c : ℕ) → GoesRound (parent m) c → ⊥) where
  distinct : (n c : ℕ) → IsDistinct eqb (followed (parent m) n c)
  unfolding IsDistinct
  distinct zero c = tt
  distinct (suc n) c = by_parent (parent m c) refl (distinct n)
    where
      by_parent : (o : Option ℕ) → parent m c ≡ o → ((p : ℕ) → IsDistinct eqb (followed (parent m) n p)) → IsDistinct eqb (c ∷ option_map_or (followed (parent m) n) o [])
      by_parent None up rest = IsDistinct-cons eqb c [] tt tt
      by_parent (Some p) up rest = IsDistinct-cons eqb c (followed (parent m) n p) (apart c (followed (parent m) n p) (none (list_any (eqb c) (followed (parent m) n p)) refl)) (rest p)
        where
          none : (b : Bool) → list_any (eqb c) (followed (parent m) n p) ≡ b → list_any (eqb c) (followed (parent m) n p) ≡ false
          none true is = absurd (flat c (round c p up (followed_from m n p c is)))
          none false is = is

  pub inside : (n c q : ℕ) → c < suc (length m.decls) → list_any (eqb q) (followed (parent m) n c) ≡ true → q < suc (length m.decls)
  inside zero c q below is = cc
  inside (suc n) c q below is = by_test (eqb q c) refl (inside n)
    where
      by_parent : (o : Option ℕ) → parent m c ≡ o → ((p r : ℕ) → p < suc (length m.decls) → list_any (eqb r) (followed (parent m) n p) ≡ true → r < suc (length m.decls))
          → list_any (eqb q) (option_map_or (followed (parent m) n) o []) ≡ true → q < suc (length m.decls)
      by_parent None up rest at = cc
      by_parent (Some p) up rest at = rest p q (parent_within m c p up) at

      by_test : (b : Bool) → eqb q c ≡ b → ((p r : ℕ) → p < suc (length m.decls) → list_any (eqb r) (followed (parent m) n p) ≡ true → r < suc (length m.decls)) → q < suc (length m.decls)
      by_test true same rest = let q_is : q ≡ c = eqb-true q c same in omega arith
      by_test false other rest = by_parent (parent m c) refl rest (rw other at is)

  short : (n c : ℕ) → c < suc (length m.decls) → length (followed (parent m) n c) ≤ suc (length m.decls)
  short n c below = length-le_from_distinct_below (followed (parent m) n c) (suc (length m.decls)) (distinct n c) (λ q is. inside n c q below is)

  ends : (n c : ℕ) → length (followed (parent m) (suc n) c) ≤ n → followed (parent m) (suc n) c ≡ followed (parent m) n c
  ends zero c fits = absurd (omega arith)
  ends (suc n) c fits = by_parent (parent m c) (ends n) fits
    where
      by_parent : (o : Option ℕ) → ((p : ℕ) → length (followed (parent m) (suc n) p) ≤ n → followed (parent m) (suc n) p ≡ followed (parent m) n p)
          → suc (length (option_map_or (followed (parent m) (suc n)) o [])) ≤ suc n → c ∷ option_map_or (followed (parent m) (suc n)) o [] ≡ c ∷ option_map_or (followed (parent m) n) o []
      by_parent None rest long = refl
      by_parent (Some p) rest long = ap (λ (line : List ℕ). c ∷ line) (rest p (omega arith))

  pub above : (c : ℕ) → c < suc (length m.decls) → ancestors m c ≡ c ∷ option_map_or (ancestors m) (parent m c) []
  above c below = sym (ends (suc (length m.decls)) c (short (suc (suc (length m.decls))) c below))
