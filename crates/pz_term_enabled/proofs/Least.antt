-- The least of numbers.
use Rattle.std.proofs.Common.{◌≡◌, ◌<◌, ◌≤◌, ◌⊎◌, inl, inr, ℕ, min, List, [], ◌∷◌, Option, Some, None, refl, sym, subst, arith}
use Rattle.std.specs.List.{Contains}
use Rattle.std.proofs.lemmas.Bool.{cases_lt}
use Rattle.pz_term_enabled.specs.devices.Adding.{lesser, least_of}
use Rattle.pz_term_enabled.specs.devices.Below.{IsLeastOf}
use Rattle.pz_term_enabled.proofs.Lists.{Contains-cases, Contains-first, Contains-later}

pub least_same : (P Q : ℕ → Type 0) → ((n : ℕ) → P n → Q n) → ((n : ℕ) → Q n → P n) → (o : Option ℕ) → IsLeastOf P o → IsLeastOf Q o
least_same P Q to from None h = λ n q. h n (from n q)
least_same P Q to from (Some d) h = (to d h.0, λ n q. h.1 n (from n q))

-- the least so far and one more
module _ (P : ℕ → Type 0) (x : ℕ) where
  abbrev OrThis : ℕ → Type 0
  OrThis n = P n ⊎ (n ≡ x)

  least_first : ((n : ℕ) → P n → ⊥) → (n : ℕ) → OrThis n → x ≤ n
  least_first none n (inl p) = absurd (none n p)
  least_first none n (inr e) = omega (arith, e)

  least_holds : (d : ℕ) → P d → (d < x) ⊎ (x ≤ d) → OrThis (min d x)
  least_holds d p (inl less) = let is : d ≡ min d x = omega (arith, less) in inl (subst P is p)
  least_holds d p (inr more) = inr (omega (arith, more))

  least_least : (d : ℕ) → ((n : ℕ) → P n → d ≤ n) → (n : ℕ) → OrThis n → min d x ≤ n
  least_least d least n (inl p) = omega (arith, least n p)
  least_least d least n (inr e) = omega (arith, e)

  least_one : (o : Option ℕ) → IsLeastOf P o → IsLeastOf OrThis (Some (lesser o x))
  least_one None h = (inr refl, least_first h)
  least_one (Some d) h = (least_holds d h.0 (cases_lt d x), least_least d h.1)

-- the least so far and those of a list
pub least_more : (xs : List ℕ) (P : ℕ → Type 0) (o : Option ℕ) → IsLeastOf P o → IsLeastOf (λ n. P n ⊎ Contains xs n) (least_of o xs)
least_more [] P o h = least_same P (λ n. P n ⊎ Contains [] n) (λ n p. inl p) from o h
  where
    from : (n : ℕ) → P n ⊎ Contains [] n → P n
    from n (inl p) = p
    from n (inr (k, within, is)) = absurd (omega (arith, within))
least_more (x ∷ xs) P o h =
    least_same (λ n. OrThis P x n ⊎ Contains xs n) (λ n. P n ⊎ Contains (x ∷ xs) n) to from (least_of (Some (lesser o x)) xs) (least_more xs (OrThis P x) (Some (lesser o x)) (least_one P x o h))
  where
    to : (n : ℕ) → OrThis P x n ⊎ Contains xs n → P n ⊎ Contains (x ∷ xs) n
    to n (inl (inl p)) = inl p
    to n (inl (inr e)) = inr (subst (λ (y : ℕ). Contains (x ∷ xs) y) (sym e) (Contains-first x xs))
    to n (inr later) = inr (Contains-later x xs n later)

    either : (n : ℕ) → (n ≡ x) ⊎ Contains xs n → OrThis P x n ⊎ Contains xs n
    either n (inl e) = inl (inr e)
    either n (inr later) = inr later

    from : (n : ℕ) → P n ⊎ Contains (x ∷ xs) n → OrThis P x n ⊎ Contains xs n
    from n (inl p) = inl (inl p)
    from n (inr within) = either n (Contains-cases x xs n within)
