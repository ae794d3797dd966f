-- What holds of the elements that a loop has come to.
use Rattle.std.proofs.Common.{◌≡◌, sym, subst, ℕ, ◌+◌, ◌<◌, ◌≤◌, List, length, take, get_or, All}
use Rattle.std.proofs.lemmas.List.{take_all, take_more}
use Rattle.std.proofs.lemmas.List.Elements.{All-push}

module _ {X : Type 0} (P : X → Type 0) (xs : List X) (i : ℕ) where
  -- one more
  pub one_more : (x : X) → i < length xs → x ≡ get_or xs i x → All P (take i xs) → P x → All P (take (i + 1) xs)
  one_more x below is before here = subst (All P) (sym (take_more xs i x below)) (All-push P (take i xs) (get_or xs i x) before (subst P is here))

  -- all of them
  pub each : length xs ≤ i → All P (take i xs) → All P xs
  each enough before = subst (All P) (take_all i xs enough) before
