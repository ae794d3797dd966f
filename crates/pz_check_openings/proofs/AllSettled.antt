-- Methods that keep to bounds, one after another.
use Rattle.std.proofs.Common.{◌≡◌, sym, ap, ◌∙◌, ℕ, ◌+◌, ◌<◌, ◌≤◌, ◌⊎◌, inl, inr, List, length, get_or, Option, Some, slice_get, arith}
use Rattle.std.proofs.lemmas.Option.{slice_get-get_or, slice_get_within}
use Rattle.pz_check_openings.specs.declared.outline.Outline.{Outline}

module _ (Keeps : Outline → Type 0) (ms : List (Option Outline)) where
  -- one more
  pub one_more : (i : ℕ) (item : Option Outline) → i < length ms → item ≡ get_or ms i item → ((o : Outline) → item ≡ Some o → Keeps o)
      → ((k : ℕ) (o : Outline) → k < i → slice_get ms k ≡ Some (Some o) → Keeps o) → (k : ℕ) (o : Outline) → k < i + 1 → slice_get ms k ≡ Some (Some o) → Keeps o
  one_more i item inside here keeps before k o below at = by_place (place k i)
    where
      place : (u w : ℕ) → (u < w) ⊎ (w ≤ u)
      place u w = grind arith

      by_place : (k < i) ⊎ (i ≤ k) → Keeps o
      by_place (inl less) = before k o less at
      by_place (inr last) =
          let same : k ≡ i = omega arith in
          let read : Some item ≡ Some (Some o) = ap (λ (x : Option Outline). Some x) here ∙ (sym (slice_get-get_or ms i item inside) ∙ (ap (slice_get ms) (sym same) ∙ at)) in
          let is : item ≡ Some o = cc in
          keeps o is

  pub all_of_them : (i : ℕ) → length ms ≤ i → ((k : ℕ) (o : Outline) → k < i → slice_get ms k ≡ Some (Some o) → Keeps o) → (k : ℕ) (o : Outline) → slice_get ms k ≡ Some (Some o) → Keeps o
  all_of_them i enough before k o at = let inside : k < length ms = slice_get_within ms k (Some o) at in before k o (omega arith) at
