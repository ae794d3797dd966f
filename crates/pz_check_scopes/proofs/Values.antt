-- What notes say.
use Rattle.std.proofs.Common.{◌≡◌, refl, Bool, true, false, List, [], ◌∷◌, ◌++◌}
use Rattle.std.specs.Cmp.{IsEquivalence}
use Rattle.std.specs.Option.{option_or}
use Rattle.pz_check_scopes.specs.Scopes.{Note, notes_of, latest, value_in}

module _ {K V : Type 0} (eq : K → K → Bool) where
  -- what notes say together, the latest first
  pub latest_joined : (xs ys : List (Note K V)) (key : K) → latest eq (xs ++ ys) key ≡ option_or (latest eq xs key) (latest eq ys key)
  latest_joined [] ys key = refl
  latest_joined (x ∷ xs) ys key = by_test (latest_joined xs ys key) (eq key x.key) refl
    where
      by_test : latest eq (xs ++ ys) key ≡ option_or (latest eq xs key) (latest eq ys key) → (b : Bool) → eq key x.key ≡ b
          → latest eq ((x ∷ xs) ++ ys) key ≡ option_or (latest eq (x ∷ xs) key) (latest eq ys key)
      by_test later true is = rw is refl
      by_test later false is = rw is later

  -- the scopes say what all their notes say
  pub value_of_notes : (scopes : List (List (Note K V))) (key : K) → value_in eq scopes key ≡ latest eq (notes_of scopes) key
  value_of_notes [] key = refl
  value_of_notes (scope ∷ outer) key = rw (latest_joined scope (notes_of outer) key, value_of_notes outer key) refl

  -- notes say the same of equal keys
  pub latest_equal : (laws : IsEquivalence eq) (notes : List (Note K V)) (p q : K) → eq p q ≡ true → latest eq notes p ≡ latest eq notes q
  latest_equal laws [] p q same = refl
  latest_equal laws (n ∷ ns) p q same = rw (laws.congr p q n.key same, latest_equal laws ns p q same) refl
