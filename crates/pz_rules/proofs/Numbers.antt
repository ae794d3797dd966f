-- The number of a frame that opens is the least that is free, and no other is.
use Rattle.std.proofs.Common.{◌≡◌, ◌≤◌, ◌<◌, ◌+◌, ◌⊎◌, inl, inr, ℕ, zero, suc, Bool, true, false, List, [], ◌∷◌, Option, Some, None, refl, sym, subst, arith}
use Rattle.std.specs.Prelude.{if◌then◌else◌, nat_eq}
use Rattle.std.specs.Option.{IsSome}
use Rattle.std.proofs.lemmas.Bool.{cases_lt, eqb-true}
use Rattle.pz_bind_rules.specs.pz_value.declared.value.Value.{Value}
use Rattle.pz_offer.specs.pz_state.States.{Frames, locals_in, IsLeastFree}
use Rattle.pz_rules.specs.FrameNumbers.{above, unless_taken, first_free, least_free}

none_above : (fs : Frames) (n : ℕ) → above fs ≤ n → locals_in fs n ≡ None
none_above [] n h = refl
none_above (f ∷ fs) n h = by (nat_eq f.0 n) refl (none_above fs n (omega (arith, h)))
  where
    by : (b : Bool) → nat_eq f.0 n ≡ b → locals_in fs n ≡ None → (if b then Some f.1 else locals_in fs n) ≡ None
    by true e rest = let same : f.0 ≡ n = eqb-true f.0 n e in absurd (omega (arith, same, h))
    by false e rest = rest

-- numbers below n are taken
abbrev Taken : Frames → ℕ → Type 0
Taken frames n = (k : ℕ) → 0 < k → k < n → IsSome (locals_in frames k)

free_from : (more n : ℕ) (frames : Frames) → 0 < n → Taken frames n → above frames ≤ n + more → IsLeastFree frames (first_free more n frames)
free_from zero n frames positive taken enough = record { positive = positive; free = none_above frames n (omega (arith, enough)); below = taken }
free_from (suc more) n frames positive taken enough = by (locals_in frames n) refl (λ further. free_from more (suc n) frames (omega arith) further (omega (arith, enough)))
  where
    by : (o : Option (List Value)) → locals_in frames n ≡ o → (Taken frames (suc n) → IsLeastFree frames (first_free more (suc n) frames)) → IsLeastFree frames (unless_taken o n (first_free more (suc n) frames))
    by None e go = record { positive = positive; free = e; below = taken }
    by (Some vs) e go = go (λ k above_zero below. at_or_before k above_zero (cases_lt k n) below)
      where
        at_or_before : (k : ℕ) → 0 < k → (k < n) ⊎ (n ≤ k) → k < suc n → IsSome (locals_in frames k)
        at_or_before k above_zero (inl less) below = taken k above_zero less
        at_or_before k above_zero (inr more) below =
            let same : n ≡ k = omega (arith, more, below) in
            subst (λ (i : ℕ). IsSome (locals_in frames i)) same (subst (λ (o : Option (List Value)). IsSome o) (sym e) refl)

pub least_is_free : (frames : Frames) → IsLeastFree frames (least_free frames)
least_is_free frames = free_from (above frames) 1 frames (omega arith) (λ k positive below. absurd (omega (arith, positive, below))) (omega arith)

none_there : {X : Type 0} {P : Type 0} (o : Option X) → o ≡ None → IsSome o → P
none_there None e h = absurd (differ h)
  where
    differ : false ≡ true → ⊥
    differ d = cc
none_there {X} (Some x) e h = absurd (differ e)
  where
    differ : Some x ≡ None → ⊥
    differ d = cc

free_once : (frames : Frames) (n m : ℕ) → IsLeastFree frames n → IsLeastFree frames m → n ≡ m
free_once frames n m x y = by (cases_lt n m) (cases_lt m n)
  where
    by : (n < m) ⊎ (m ≤ n) → (m < n) ⊎ (n ≤ m) → n ≡ m
    by (inl less) other = none_there (locals_in frames n) x.free (y.below n x.positive less)
    by (inr more) (inl less) = none_there (locals_in frames m) y.free (x.below m y.positive less)
    by (inr more) (inr less) = omega (arith, more, less)

pub free_is_least : (frames : Frames) (n : ℕ) → IsLeastFree frames n → n ≡ least_free frames
free_is_least frames n free = free_once frames n (least_free frames) free (least_is_free frames)
