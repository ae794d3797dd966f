-- Going through the processes for which there is something new alone.
use Rattle.std.proofs.Common.{◌≡◌, ◌≤◌, ◌<◌, ◌+◌, ◌⊎◌, inl, inr, refl, sym, ◌∙◌, ap, ℕ, zero, suc, List, [], ◌∷◌, ◌++◌, length, take, drop, get_or, Some, arith}
use Rattle.std.specs.Prelude.{Contains, map}
use Rattle.std.specs.List.{slice_get}
use Rattle.std.proofs.lemmas.List.{map_more, drop_more, append_assoc}
use Rattle.std.proofs.lemmas.Option.{slice_get-get_or}
use Rattle.pz_match_lists.specs.Increasing.{Increasing}
use Rattle.pz_match.specs.devices.Kept.{Kept}
use Rattle.pz_match.specs.devices.Seeking.{past}
use Rattle.pz_match.proofs.Reaching.{between, follows_past, past_next}
use Rattle.pz_match.proofs.Renewals.{all_mapped}

order : (a b : ℕ) → (a < b) ⊎ (b ≤ a)
order a b = grind arith

split : (i j : ℕ) → i ≤ suc j → (i ≤ j) ⊎ (i ≡ suc j)
split i j le = grind arith

module _ (us : List ℕ) (up : Increasing us) (f : Kept → Kept) (all : List Kept) (only : (k : ℕ) (e : Kept) → slice_get all k ≡ Some e → (Contains us k → ⊥) → f e ≡ e) where
  -- one that stays as it is
  one_more : (xs : List Kept) (j : ℕ) → j < length xs → ((e : Kept) → slice_get xs j ≡ Some e → f e ≡ e) → map f (take (j + 1) xs) ++ drop (j + 1) xs ≡ map f (take j xs) ++ drop j xs
  one_more [] j lt same = absurd (omega (arith, lt))
  one_more (x ∷ xs) j lt same =
      let e : Kept = get_or (x ∷ xs) j x in
      ap (λ (ys : List Kept). ys ++ drop (j + 1) (x ∷ xs)) (map_more f (x ∷ xs) j x lt)
      ∙ (append_assoc (map f (take j (x ∷ xs))) (f e ∷ []) (drop (j + 1) (x ∷ xs))
      ∙ (ap (λ (y : Kept). map f (take j (x ∷ xs)) ++ y ∷ drop (j + 1) (x ∷ xs)) (same e (slice_get-get_or (x ∷ xs) j x lt))
      ∙ ap (λ (ys : List Kept). map f (take j (x ∷ xs)) ++ ys) (sym (drop_more (x ∷ xs) j x lt))))

  next : (j : ℕ) → (j < length all) ⊎ (length all ≤ j) → (Contains us j → ⊥) → map f (take (suc j) all) ++ drop (suc j) all ≡ map f (take j all) ++ drop j all
  next j (inl lt) none =
      let one : suc j ≡ j + 1 = omega arith in
      ap (λ k. map f (take k all) ++ drop k all) one ∙ one_more all j lt (λ e is. only j e is none)
  next j (inr behind) none = all_mapped f all (suc j) (omega (arith, behind)) ∙ sym (all_mapped f all j behind)

  -- none of them is between
  gap : (i j : ℕ) → i ≤ j → ((k : ℕ) → i ≤ k → k < j → Contains us k → ⊥) → map f (take j all) ++ drop j all ≡ map f (take i all) ++ drop i all
  gap i zero le none = let same : i ≡ zero = omega (arith, le) in ap (λ k. map f (take k all) ++ drop k all) (sym same)
  gap i (suc j) le none = by (split i j le) (λ below. gap i j below (λ k from to. none k from (omega (arith, to))))
    where
      by : (i ≤ j) ⊎ (i ≡ suc j) → (i ≤ j → map f (take j all) ++ drop j all ≡ map f (take i all) ++ drop i all) → map f (take (suc j) all) ++ drop (suc j) all ≡ map f (take i all) ++ drop i all
      by (inl below) before = next j (order j (length all)) (none j below (omega arith)) ∙ before below
      by (inr same) before = ap (λ k. map f (take k all) ++ drop k all) (sym same)

  -- the next of them is reached
  pub to_place : (u : ℕ) → u < length us → map f (take (past us u) all) ++ drop (past us u) all ≡ map f (take (get_or us u 0) all) ++ drop (get_or us u 0) all
  to_place u lt = sym (gap (past us u) (get_or us u 0) (follows_past us up {X = Kept} [] (λ e. 0) (λ k e is none. refl) u lt) (λ k from to. between us up u k (omega (arith, lt)) from (λ inside. to)))

  -- no such process
  pub nowhere : (u : ℕ) → u < length us → length all ≤ get_or us u 0 → map f (take (past us u) all) ++ drop (past us u) all ≡ map f (take (past us (u + 1)) all) ++ drop (past us (u + 1)) all
  nowhere u lt over =
      to_place u lt
      ∙ (all_mapped f all (get_or us u 0) over
      ∙ (sym (all_mapped f all (get_or us u 0 + 1) (omega (arith, over))) ∙ ap (λ k. map f (take k all) ++ drop k all) (sym (past_next us up u))))

  -- behind the last
  pub all_changed : (u : ℕ) → u ≤ length us → length us ≤ u → map f (take (past us u) all) ++ drop (past us u) all ≡ map f all
  all_changed u within over =
      let end : u ≡ length us = omega (arith, within, over) in
      sym (gap (past us u) (past us u + length all) (omega arith) (λ k from to. between us up u k (omega (arith, end)) from (λ inside. absurd (omega (arith, inside, end)))))
      ∙ all_mapped f all (past us u + length all) (omega arith)
