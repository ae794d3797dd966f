-- Lists of which no two elements are equal.
use Rattle.std.proofs.Common.{◌≡◌, ◌≢◌, refl, sym, ◌∙◌, ap, subst, ℕ, zero, suc, ◌+◌, ◌≤◌, ◌<◌, Bool, true, false, not, ◌&&◌, List, [], ◌∷◌, ◌++◌, map, Some, None, IsTrue, bytes_eq, slice_get, arith}
use Rattle.std.specs.List.{AllByRecursion, list_all, flat_map, range_with_len}
use Rattle.std.proofs.lemmas.Bool.{and_parts, not-true, both_ways}
use Rattle.std.proofs.lemmas.List.Concat.{flat_map_single}
use Rattle.std.proofs.lemmas.Slice.Eq.{bytes_eq-Decides}
use Rattle.pz_classes_rules.specs.pz_syntax.declared.tokens.Pos.{Pos}
use Rattle.pz_classes_rules.specs.RepeatRules.{Repeats}
use Rattle.pz_gen_laws.specs.devices.RingParts.{NotAmong, AreDistinct}

module _ where
  pub some_same : {A : Type 0} (x y : A) → Some x ≡ Some y → x ≡ y
  some_same x y e = cc

  pub none_some : {A : Type 0} (x : A) → None ≡ Some x → ⊥
  none_some x e = cc

  all_at : {A : Type 0} (P : A → Type 0) (xs : List A) (i : ℕ) (x : A) → AllByRecursion P xs → slice_get xs i ≡ Some x → P x
  all_at P [] i x all at = absurd (none_some x at)
  all_at P (y ∷ ys) zero x all at = subst P (some_same y x at) all.0
  all_at P (y ∷ ys) (suc i) x all at = all_at P ys i x all.1 at

  pub all_map : {A B : Type 0} (P : B → Type 0) (f : A → B) (xs : List A) → AllByRecursion P (map f xs) → AllByRecursion (λ (x : A). P (f x)) xs
  all_map P f [] all = tt
  all_map P f (x ∷ xs) all = (all.0, all_map P f xs all.1)

  pub all_append : {A : Type 0} (P : A → Type 0) (xs ys : List A) → AllByRecursion P xs → AllByRecursion P ys → AllByRecursion P (xs ++ ys)
  all_append P [] ys front back = back
  all_append P (x ∷ xs) ys front back = (front.0, all_append P xs ys front.1 back)

  all_both : {A : Type 0} (P Q R : A → Type 0) (xs : List A) → ((x : A) → P x → Q x → R x) → AllByRecursion P xs → AllByRecursion Q xs → AllByRecursion R xs
  all_both P Q R [] join one other = tt
  all_both P Q R (x ∷ xs) join one other = (join x one.0 other.0, all_both P Q R xs join one.1 other.1)

  -- two elements of one key stand at one place
  apart : {A K : Type 0} (key : A → K) (xs : List A) (i j : ℕ) (x y : A) → AreDistinct (map key xs) → slice_get xs i ≡ Some x → slice_get xs j ≡ Some y → i ≢ j → key x ≡ key y → ⊥
  apart key [] i j x y distinct at there differ same = none_some x at
  apart key (z ∷ zs) zero zero x y distinct at there differ same = differ refl
  apart key (z ∷ zs) zero (suc j) x y distinct at there differ same =
      all_at (λ w. key z ≢ key w) zs j y (all_map (λ l. key z ≢ l) key zs distinct.0) there (ap key (some_same z x at) ∙ same)
  apart key (z ∷ zs) (suc i) zero x y distinct at there differ same =
      all_at (λ w. key z ≢ key w) zs i x (all_map (λ l. key z ≢ l) key zs distinct.0) at (ap key (some_same z y there) ∙ sym same)
  apart key (z ∷ zs) (suc i) (suc j) x y distinct at there differ same =
      apart key zs i j x y distinct.1 at there (λ e. differ (ap (λ (n : ℕ). suc n) e)) same

  pub no_repeat : {A K : Type 0} (like : A → A → Bool) (place : A → Pos) (key : A → K) → ((x y : A) → IsTrue (like x y) → key x ≡ key y) → (xs : List A) (y : A) → AreDistinct (map key xs) → Repeats like place xs y → ⊥
  no_repeat like place key same_key xs y distinct r = apart key xs r.first_at r.again_at r.first y distinct r.first_there r.again_there r.apart (same_key r.first y r.alike)

  -- ---- a test for names

  abbrev pub distinct_bytes : List (List ℕ) → Bool
  distinct_bytes [] = true
  distinct_bytes (k ∷ ks) = list_all (λ l. not (bytes_eq k l)) ks && distinct_bytes ks

  pub differ : (k l : List ℕ) → bytes_eq k l ≡ false → k ≢ l
  differ k l apart same = both_ways (bytes_eq k l) apart ((bytes_eq-Decides k l).1 same)

  not_among : (k : List ℕ) (ks : List (List ℕ)) → list_all (λ l. not (bytes_eq k l)) ks ≡ true → NotAmong k ks
  not_among k [] all = tt
  not_among k (l ∷ ls) all = let parts = and_parts _ _ all in (differ k l (not-true _ parts.0), not_among k ls parts.1)

  pub are_distinct : (ks : List (List ℕ)) → distinct_bytes ks ≡ true → AreDistinct ks
  are_distinct [] all = tt
  are_distinct (k ∷ ks) all = let parts = and_parts _ _ all in (not_among k ks parts.0, are_distinct ks parts.1)

  -- ---- lists put together

  pub distinct_append : {K : Type 0} (xs ys : List K) → AreDistinct xs → AreDistinct ys → AllByRecursion (λ (x : K). NotAmong x ys) xs → AreDistinct (xs ++ ys)
  distinct_append [] ys front back across = back
  distinct_append (x ∷ xs) ys front back across = (all_append (λ l. x ≢ l) xs ys front.0 across.0, distinct_append xs ys front.1 back across.1)

  no_element : {K : Type 0} (xs : List K) → AllByRecursion (λ (x : K). NotAmong x []) xs
  no_element [] = tt
  no_element (x ∷ xs) = (tt, no_element xs)

  -- of numbers from a on, below n
  across_range : {K : Type 0} (xs : List K) (f : ℕ → List K) (a k n : ℕ) → a + k ≤ n → ((j : ℕ) → a ≤ j → j < n → AllByRecursion (λ (x : K). NotAmong x (f j)) xs) → AllByRecursion (λ (x : K). NotAmong x (flat_map f (range_with_len a k))) xs
  across_range xs f a zero n within each = no_element xs
  across_range xs f a (suc k) n within each =
      all_both (λ x. NotAmong x (f a)) (λ x. NotAmong x (flat_map f (range_with_len (a + 1) k))) (λ x. NotAmong x (flat_map f (range_with_len a (suc k)))) xs
      (λ x one other. all_append (λ l. x ≢ l) (f a) (flat_map f (range_with_len (a + 1) k)) one other)
      (each a (omega arith) (omega arith))
      (across_range xs f (a + 1) k n (omega arith) (λ j low high. each j (omega arith) high))

  pub distinct_range : {K : Type 0} (f : ℕ → List K) (n : ℕ) → ((i : ℕ) → i < n → AreDistinct (f i)) → ((i j : ℕ) → i < j → j < n → AllByRecursion (λ (x : K). NotAmong x (f j)) (f i)) → (a k : ℕ) → a + k ≤ n → AreDistinct (flat_map f (range_with_len a k))
  distinct_range f n own across a zero within = tt
  distinct_range f n own across a (suc k) within =
      distinct_append (f a) (flat_map f (range_with_len (a + 1) k)) (own a (omega arith)) (distinct_range f n own across (a + 1) k (omega arith))
      (across_range (f a) f (a + 1) k n (omega arith) (λ j low high. across a j (omega arith) high))

  pub distinct_map : {K : Type 0} (f : ℕ → K) (n : ℕ) → ((i j : ℕ) → i < j → j < n → f i ≢ f j) → AreDistinct (map f (range_with_len 0 n))
  distinct_map f n differs =
      subst AreDistinct (flat_map_single f (range_with_len 0 n))
      (distinct_range (λ i. f i ∷ []) n (λ i low. (tt, tt)) (λ i j less low. ((differs i j less low, tt), tt)) 0 n (omega arith))
