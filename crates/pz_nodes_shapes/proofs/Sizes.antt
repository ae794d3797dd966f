-- A shape has no more nodes than there are.
use Rattle.std.proofs.Common.{◌≡◌, ℕ, zero, suc, ◌+◌, ◌<◌, ◌≤◌, Bool, true, false, ◌||◌, cond, eqb, List, [], ◌∷◌, length, get_or, Option, Some, None, refl, subst, arith}
use Rattle.std.specs.Prelude.{◌≢◌, count_by, is_some}
use Rattle.std.proofs.lemmas.List.Sums.{sum_by-cons}
use Rattle.pz_nodes.specs.Arena.{find}
use Rattle.pz_nodes_shapes.specs.Rose.{Rose, Roses, node, none, gone, more, Map, has, has_any, size, sizes, Apart, Stands, StandAll}
use Rattle.pz_nodes_shapes.specs.Laws.{IsNoLarger}
use Rattle.pz_nodes_shapes.proofs.Frames.{or_left, or_right, occupied}

-- how many numbers from i on, one for each element, are marked
abbrev marked : {A : Type 0} → (ℕ → Bool) → ℕ → List A → ℕ
marked p i [] = 0
marked p i (x ∷ xs) = cond (p i) 1 0 + marked p (suc i) xs

one_of : (a b : Bool) → (a ≡ true → b ≡ true → ⊥) → cond (a || b) 1 0 ≡ cond a 1 0 + cond b 1 0
one_of true true h = absurd (h refl refl)
one_of true false h = omega arith
one_of false b h = omega arith

off_key : (k i : ℕ) → (i ≡ k → ⊥) → eqb i k ≡ false
off_key k i h = elim (eqb i k) as (λ b. eqb i k ≡ b → eqb i k ≡ false) [ true ↦ λ e. absurd (h (grind arith)) | false ↦ λ e. e ] refl

on_key : (k i : ℕ) → i ≡ k → eqb i k ≡ true
on_key k i e = grind arith

not_in : (k : ℕ) (f : ℕ → Bool) → f k ≡ false → Apart (λ j. eqb j k) f
not_in k f o j p q = let e : j ≡ k = grind arith in let r : f k ≡ true = subst (λ z. f z ≡ true) e q in absurd cc

module _ {A : Type 0} where
  two : (p q : ℕ → Bool) → Apart p q → (i : ℕ) (xs : List A) → marked (λ j. p j || q j) i xs ≡ marked p i xs + marked q i xs
  two p q a i [] = omega arith
  two p q a i (x ∷ xs) = omega (arith, one_of (p i) (q i) (a i), two p q a (suc i) xs)

  past_key : (k i : ℕ) (xs : List A) → k < i → marked (λ j. eqb j k) i xs ≡ 0
  past_key k i [] h = refl
  past_key k i (x ∷ xs) h = rw (off_key k i (λ e. omega arith)) (omega (arith, past_key k (suc i) xs (omega arith)))

  at_key : (k i : ℕ) (xs : List A) → i ≤ k → k < i + length xs → marked (λ j. eqb j k) i xs ≡ 1
  at_key k i [] h l = absurd (omega arith)
  at_key k i (x ∷ xs) h l = elim (eqb i k) as (λ b. eqb i k ≡ b → cond (eqb i k) 1 0 + marked (λ j. eqb j k) (suc i) xs ≡ 1) [
    | true ↦ λ e. (let f : i ≡ k = grind arith in rw e (omega (arith, past_key k (suc i) xs (omega arith))))
    | false ↦ λ e. (let f : i ≢ k = λ q. (let r = on_key k i q in absurd cc) in rw e (omega (arith, at_key k (suc i) xs (omega arith) (omega arith))))
  ] refl

  none_marked : (i : ℕ) (xs : List A) → marked (λ j. false) i xs ≡ 0
  none_marked i [] = refl
  none_marked i (x ∷ xs) = omega (arith, none_marked (suc i) xs)

  with_key : (xs : List A) (k : ℕ) (f : ℕ → Bool) (n : ℕ) → f k ≡ false → k < length xs → marked f 0 xs ≡ n → marked (λ j. eqb j k || f j) 0 xs ≡ 1 + n
  with_key xs k f n o b e = omega (arith, two (λ j. eqb j k) f (not_in k f o) 0 xs, at_key k 0 xs (omega arith) (omega arith))

module _ {X A : Type 0} where
  mutual
    sized : (m : Map X) (xs : List A) (s : Rose X) → Stands m s → ((j : ℕ) → has s j ≡ true → j < length xs) → marked (has s) 0 xs ≡ size s
    sized m xs (node k x ss) h b = omega (arith, with_key xs k (has_any ss) (sizes ss) h.1 (b k (or_left _ _ (on_key k k refl))) (all_sized m xs ss h.2 (λ j p. b j (or_right (eqb j k) _ p))))

    all_sized : (m : Map X) (xs : List A) (ss : Roses X) → StandAll m ss → ((j : ℕ) → has_any ss j ≡ true → j < length xs) → marked (has_any ss) 0 xs ≡ sizes ss
    all_sized m xs none h b = none_marked 0 xs
    all_sized m xs (gone ss) h b = all_sized m xs ss h b
    all_sized m xs (more s ss) h b = omega (arith, two (has s) (has_any ss) h.0 0 xs, sized m xs s h.1 (λ j p. b j (or_left _ _ p)), all_sized m xs ss h.2 (λ j p. b j (or_right (has s j) _ p)))

module _ {A : Type 0} where
  used : (p : ℕ → Bool) (i : ℕ) (xs : List (Option A)) → ((j k : ℕ) → k ≡ i + j → p k ≡ true → get_or xs j None ≡ None → ⊥) → marked p i xs ≤ count_by is_some xs
  used p i [] h = omega arith
  used p i (None ∷ xs) h =
      let e : p i ≡ false = elim (p i) as (λ b. p i ≡ b → p i ≡ false) [ true ↦ λ q. absurd (h 0 i (omega arith) q refl) | false ↦ λ q. q ] refl in
      let r = used p (suc i) xs (λ j k f. h (suc j) k (omega arith)) in rw e (omega (arith, r))
  used p i (Some x ∷ xs) h =
      let r = used p (suc i) xs (λ j k f. h (suc j) k (omega arith)) in
      let c : count_by is_some (Some x ∷ xs) ≡ 1 + count_by is_some xs = sum_by-cons (λ o. cond (is_some o) 1 0) (Some x) xs in
      elim (p i) as (λ b. cond b 1 0 + marked p (suc i) xs ≤ count_by is_some (Some x ∷ xs)) [ true ↦ omega (arith, r, c) | false ↦ omega (arith, r, c) ]

  within : (xs : List (Option A)) (k : ℕ) → (get_or xs k None ≡ None → ⊥) → k < length xs
  within [] k h = absurd (h refl)
  within (x ∷ xs) zero h = omega arith
  within (x ∷ xs) (suc k) h = let r = within xs k h in omega arith

pub size_le_live : {X : Type 0} → IsNoLarger X
size_le_live {X} a s h =
    let e = sized (find a) a.slots s h (λ j p. within a.slots j (occupied (find a) s h j p)) in
    let r = used (has s) 0 a.slots (λ j k e p q. occupied (find a) s h j (subst (λ z. has s z ≡ true) (let f : k ≡ j = omega arith in f) p) q) in
    omega (arith, e, r)
