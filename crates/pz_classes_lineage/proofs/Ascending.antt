-- What holds of each class with no parent, and of each class whose parent it holds of, holds of all
-- classes where nobody is among his own ancestors.
use Rattle.std.proofs.Common.{◌≡◌, refl, sym, subst, ℕ, zero, suc, ◌<◌, ◌≤◌, ◌+◌, Bool, true, false, List, [], ◌∷◌, length, Option, Some, None, eqb, arith}
use Rattle.std.specs.List.{IsDistinct, list_any}
use Rattle.std.proofs.lemmas.Bool.{eqb-true}
use Rattle.std.proofs.lemmas.Map.Keys.{IsDistinct-cons}
use Rattle.std.proofs.lemmas.Map.Steps.{length-le_from_distinct_below}
use Rattle.pz_classes_lineage.specs.Reached.{Reaches, itself, further, GoesRound, round}
use Rattle.pz_classes_lineage.proofs.RowCounts.{same_number, apart_from_any}

module _ (up : ℕ → Option ℕ) where
  -- one more parent at the end
  one_further : (a c p : ℕ) → Reaches up a c → up c ≡ Some p → Reaches up a p
  one_further _ _ p (itself c) is = further c p p is (itself p)
  one_further _ _ p (further a b c above rest) is = further a b p above (one_further b c p rest is)

  module _ (n : ℕ) (within : (c p : ℕ) → up c ≡ Some p → p < n) (acyclic : (c : ℕ) → GoesRound up c → ⊥) (Holds : ℕ → Type 0) (at_root : (c : ℕ) → c < n → up c ≡ None → Holds c) (from_parent : (c p : ℕ) → up c ≡ Some p → Holds p → Holds c) where
    -- from the last of classes that follow one another upwards and do not repeat
    from_line : (left c : ℕ) (line : List ℕ) → n ≤ left + length line → IsDistinct eqb (c ∷ line) → ((q : ℕ) → list_any (eqb q) (c ∷ line) ≡ true → (q < n) × Reaches up q c) → Holds c
    from_line zero c line long once on = let all : suc (length line) ≤ n = length-le_from_distinct_below (c ∷ line) n once (λ q is. (on q is).0) in absurd (omega arith)
    from_line (suc left) c line long once on = by_parent (up c) refl (λ p. from_line left p (c ∷ line) (omega arith))
      where
        here : list_any (eqb c) (c ∷ line) ≡ true
        here = rw (same_number c) refl

        by_parent : (o : Option ℕ) → up c ≡ o → ((p : ℕ) → IsDistinct eqb (p ∷ c ∷ line) → ((q : ℕ) → list_any (eqb q) (p ∷ c ∷ line) ≡ true → (q < n) × Reaches up q p) → Holds p) → Holds c
        by_parent None is above = at_root c (on c here).0 is
        by_parent (Some p) is above = from_parent c p is (above p (IsDistinct-cons eqb p (c ∷ line) (apart_from_any p (c ∷ line) (new (list_any (eqb p) (c ∷ line)) refl)) once) on_more)
          where
            new : (b : Bool) → list_any (eqb p) (c ∷ line) ≡ b → list_any (eqb p) (c ∷ line) ≡ false
            new true there = absurd (acyclic c (round c p is (on p there).1))
            new false there = there

            on_more : (q : ℕ) → list_any (eqb q) (p ∷ c ∷ line) ≡ true → (q < n) × Reaches up q p
            on_more q there = by_test (eqb q p) refl
              where
                by_test : (b : Bool) → eqb q p ≡ b → (q < n) × Reaches up q p
                by_test true same = let at : q ≡ p = eqb-true q p same in subst (λ (x : ℕ). (x < n) × Reaches up x p) (sym at) (within c p is, itself p)
                by_test false other = let older = on q (rw other at there) in (older.0, one_further q c p older.1 is)

    pub everywhere : (c : ℕ) → c < n → Holds c
    unfolding IsDistinct
    everywhere c below = from_line n c [] (omega arith) (IsDistinct-cons eqb c [] tt tt) alone
      where
        alone : (q : ℕ) → list_any (eqb q) (c ∷ []) ≡ true → (q < n) × Reaches up q c
        alone q there = by_test (eqb q c) refl
          where
            by_test : (b : Bool) → eqb q c ≡ b → (q < n) × Reaches up q c
            by_test true same = let at : q ≡ c = eqb-true q c same in subst (λ (x : ℕ). (x < n) × Reaches up x c) (sym at) (below, itself c)
            by_test false other = let wrong : false ≡ true = rw other at there in cc
