-- What the iterator of a vector has given is a front of its items.
use Rattle.std.proofs.Common.{◌≡◌, ◌<◌, refl, sym, ◌∙◌, ap, subst, ℕ, List, [], ◌∷◌, ◌++◌, length, Some, arith}
use Rattle.std.specs.Prelude.{Contains}
use Rattle.std.specs.List.{flat_map, slice_get}
use Rattle.std.specs.Iterator.{Yields}
use Rattle.std.specs.Vec.Iter.{into_iter_items, into_iter_steps}
use Rattle.std.specs.declared.vec.IntoIter.{IntoIter}
use Rattle.std.proofs.lemmas.List.{length-append}
use Rattle.std.proofs.lemmas.List.Concat.{flat_map-append}
use Rattle.std.proofs.lemmas.List.Elements.{Contains-append_left, Contains-append_right}

seam : {X : Type 0} (xs : List X) (x : X) (ys : List X) → slice_get (xs ++ x ∷ ys) (length xs) ≡ Some x
seam [] x ys = refl
seam (z ∷ xs) x ys = seam xs x ys

module _ {X A : Type 0} where
  pub taken_front : (s : IntoIter X A) (xs : List X) (t : IntoIter X A) → Yields into_iter_steps s xs t → into_iter_items s ≡ xs ++ into_iter_items t
  taken_front s [] t y = ap into_iter_items y
  taken_front s (x ∷ xs) t y = y.1.0 ∙ ap (λ ys. x ∷ ys) (taken_front y.0 xs t y.2)

  -- of what is next, all that comes of it is among all
  pub next_among : {Y : Type 0} (f : X → List Y) (items : List X) (s : IntoIter X A) (xs : List X) (t u : IntoIter X A) (x : X) → into_iter_items s ≡ items → Yields into_iter_steps s xs t → into_iter_items t ≡ x ∷ into_iter_items u
      → (y : Y) → Contains (flat_map f (x ∷ [])) y → Contains (flat_map f items) y
  next_among {Y} f items s xs t u x all y next z there =
      let whole : items ≡ xs ++ (x ∷ [] ++ into_iter_items u) = sym all ∙ (taken_front s xs t y ∙ ap (λ ys. xs ++ ys) next) in
      let parts : flat_map f items ≡ flat_map f xs ++ (flat_map f (x ∷ []) ++ flat_map f (into_iter_items u))
      = ap (flat_map f) whole ∙ (flat_map-append f xs (x ∷ [] ++ into_iter_items u) ∙ ap (λ ys. flat_map f xs ++ ys) (flat_map-append f (x ∷ []) (into_iter_items u))) in
      subst (λ (ys : List Y). Contains ys z) (sym parts) (Contains-append_right (flat_map f xs) (flat_map f (x ∷ []) ++ flat_map f (into_iter_items u)) z (Contains-append_left (flat_map f (x ∷ [])) (flat_map f (into_iter_items u)) z there))

  -- what has been given is not yet all
  pub given_below : (items : List X) (s : IntoIter X A) (xs : List X) (t u : IntoIter X A) (x : X) → into_iter_items s ≡ items → Yields into_iter_steps s xs t → into_iter_items t ≡ x ∷ into_iter_items u → length xs < length items
  given_below items s xs t u x all y next =
      let whole : items ≡ xs ++ x ∷ into_iter_items u = sym all ∙ (taken_front s xs t y ∙ ap (λ ys. xs ++ ys) next) in
      let long = ap length whole in omega (arith, long, length-append xs (x ∷ into_iter_items u))

  -- the next stands behind it
  pub given_at : (items : List X) (s : IntoIter X A) (xs : List X) (t u : IntoIter X A) (x : X) → into_iter_items s ≡ items → Yields into_iter_steps s xs t → into_iter_items t ≡ x ∷ into_iter_items u → (n : ℕ) → n ≡ length xs → slice_get items n ≡ Some x
  given_at items s xs t u x all y next n at =
      let whole : items ≡ xs ++ x ∷ into_iter_items u = sym all ∙ (taken_front s xs t y ∙ ap (λ ys. xs ++ ys) next) in
      (λ i. slice_get (whole i) (at i)) ∙ seam xs x (into_iter_items u)
