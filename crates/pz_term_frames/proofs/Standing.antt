-- Whether a frame is among numbers in order.
use Rattle.std.proofs.Common.{◌≡◌, ◌<◌, ◌≤◌, ◌⊎◌, ℕ, false, nat_eq, List, length, get_or, Result, Ok, Err, inl, inr, sym, ap, arith, eq-eqb}
use Rattle.std.specs.List.{list_any}
use Rattle.std.specs.List.Sorted.{IsPermutation}
use Rattle.std.specs.Result.{MatchResult, is_ok}
use Rattle.std.proofs.lemmas.Bool.{cases_lt, ne_eqb}
use Rattle.std.proofs.lemmas.List.Elements.{All-from_get_or, filter_agree}
use Rattle.std.proofs.lemmas.List.Folds.{list_any_at, list_any_none}
use Rattle.std.proofs.lemmas.List.Sorted.{list_any-IsPermutation}
use Rattle.pz_rules.specs.pz_value.declared.value.Value.{Value}
use Rattle.pz_rules.specs.pz_state.States.{StateView, Frames}
use Rattle.pz_rules.specs.Leaving.{only_frames}

pub found_or_not : (xs : List ℕ) (x : ℕ) (r : Result ℕ ℕ)
    → MatchResult r (λ i. (i < length xs) × (get_or xs i 0 ≡ x)) (λ i. (i ≤ length xs) × ((k : ℕ) → k < i → get_or xs k 0 < x) × ((k : ℕ) → i ≤ k → k < length xs → x < get_or xs k 0))
    → is_ok r ≡ list_any (nat_eq x) xs
found_or_not xs x (Ok i) found = sym (list_any_at (nat_eq x) xs i 0 found.0 (eq-eqb x (get_or xs i 0) (sym found.1)))
found_or_not xs x (Err i) absent = sym (list_any_none (nat_eq x) xs (All-from_get_or (λ y. nat_eq x y ≡ false) xs 0 (λ k within. apart k within (cases_lt k i))))
  where
    apart : (k : ℕ) → k < length xs → (k < i) ⊎ (i ≤ k) → nat_eq x (get_or xs k 0) ≡ false
    apart k within (inl before) = let less = absent.1 k before in ne_eqb x (get_or xs k 0) (λ e. omega arith)
    apart k within (inr behind) = let more = absent.2 k behind within in ne_eqb x (get_or xs k 0) (λ e. omega arith)

-- the order of the numbers does not matter
pub same_frames : (xs ys : List ℕ) (s : StateView) → IsPermutation xs ys → only_frames ys s ≡ only_frames xs s
same_frames xs ys s permuted =
    ap (λ (fs : Frames). let t : StateView = record s { frames = fs } in t)
    (filter_agree (λ (f : ℕ × List Value). list_any (nat_eq f.0) ys) (λ (f : ℕ × List Value). list_any (nat_eq f.0) xs) (λ f. sym (list_any-IsPermutation (nat_eq f.0) xs ys permuted)) s.frames)
