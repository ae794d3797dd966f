-- Offers that are put behind others, at a later place.
use Rattle.std.proofs.Common.{◌≡◌, ◌+◌, ℕ, List, [], ◌∷◌, ◌++◌, inl, inr, sym, subst, arith}
use Rattle.std.specs.Prelude.{get_or}
use Rattle.std.specs.List.{All, AllPairs}
use Rattle.std.proofs.lemmas.List.Elements.{All-push}
use Rattle.std.proofs.lemmas.List.Quantifiers.{all_pairs_push}
use Rattle.pz_offer.specs.PlaceOrder.{PlaceBefore}

later : (p : List ℕ) (n : ℕ) → PlaceBefore p (n ∷ []) → PlaceBefore p ((n + 1) ∷ [])
later [] n before = tt
later (i ∷ p) n (inl less) = inl (omega (arith, less))
later (i ∷ p) n (inr (same, never)) = inl (omega (arith, same))

module _ {X : Type 0} (place : X → List ℕ) where
  -- in order, and all before the place with this number
  abbrev pub Ranked : ℕ → List X → Type 0
  Ranked n xs = AllPairs (λ s t. PlaceBefore (place s) (place t)) xs × All (λ s. PlaceBefore (place s) (n ∷ [])) xs

  pub ranked_skip : (n : ℕ) (xs : List X) → Ranked n xs → Ranked (n + 1) xs
  ranked_skip n xs (order, all) = (order, λ k d within. later (place (get_or xs k d)) n (all k d within))

  pub ranked_put : (n : ℕ) (xs : List X) (y : X) → place y ≡ n ∷ [] → Ranked n xs → Ranked (n + 1) (xs ++ y ∷ [])
  ranked_put n xs y at (order, all) = (
    all_pairs_push (λ s t. PlaceBefore (place s) (place t)) xs y order (λ k d within. subst (λ (p : List ℕ). PlaceBefore (place (get_or xs k d)) p) (sym at) (all k d within)),
    All-push (λ s. PlaceBefore (place s) ((n + 1) ∷ [])) xs y (ranked_skip n xs (order, all)).1 (subst (λ (p : List ℕ). PlaceBefore p ((n + 1) ∷ [])) (sym at) (inl (omega arith))),
  )
