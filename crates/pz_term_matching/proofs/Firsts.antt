-- The first receive that passes a test, and what is left from there on.
use Rattle.std.proofs.Common.{◌≡◌, ◌≤◌, ◌+◌, refl, sym, ◌∙◌, ap, subst, ℕ, zero, suc, Bool, true, false, List, [], ◌∷◌, drop, get_or, ◌<◌, length, Some, None, if◌then◌else◌, arith}
use Rattle.std.specs.List.{slice_get}
use Rattle.std.proofs.lemmas.List.{drop-drop, drop_more}
use Rattle.std.proofs.lemmas.Option.{slice_get_within, get_or_from_slice_get}
use Rattle.pz_term_matching.specs.declared.ends.Receiver.{Receiver}
use Rattle.pz_term_matching.specs.devices.Chains.{first_from}

module _ {X : Type 0} where
  pub drop_next : (xs : List X) (i : ℕ) (x : X) (rest : List X) → drop i xs ≡ x ∷ rest → drop (i + 1) xs ≡ rest
  drop_next xs i x rest is = sym (drop-drop 1 i xs) ∙ ap (drop 1) is

  pub at_head : (xs : List X) (i : ℕ) (x : X) (rest : List X) → drop i xs ≡ x ∷ rest → slice_get xs i ≡ Some x
  at_head [] zero x rest is = cc
  at_head [] (suc i) x rest is = cc
  at_head (y ∷ ys) zero x rest is = let same : y ≡ x = cc in ap (λ z. Some z) same
  at_head (y ∷ ys) (suc i) x rest is = at_head ys i x rest is

  pub past_end : (xs : List X) (i : ℕ) → drop i xs ≡ [] → slice_get xs i ≡ None
  past_end [] i is = refl
  past_end (y ∷ ys) zero is = cc
  past_end (y ∷ ys) (suc i) is = past_end ys i is

  -- nothing stands behind the end
  pub none_past : (xs : List X) (place i : ℕ) (x : X) → place ≤ i → drop place xs ≡ [] → slice_get xs i ≡ Some x → ⊥
  none_past [] place i x order end found = cc
  none_past (y ∷ ys) zero i x order end found = cc
  none_past (y ∷ ys) (suc place) zero x order end found = absurd (omega (arith, order))
  none_past (y ∷ ys) (suc place) (suc i) x order end found = none_past ys place i x (omega (arith, order)) end found

  pub head_at : (xs : List X) (i : ℕ) (x : X) → slice_get xs i ≡ Some x → drop i xs ≡ x ∷ drop (i + 1) xs
  head_at xs i x is = drop_more xs i x (slice_get_within xs i x is) ∙ ap (λ y. y ∷ drop (i + 1) xs) (get_or_from_slice_get xs i x x is)

  -- by what a read gives
  pub head_read : (xs : List X) (i : ℕ) (x : X) → i < length xs → x ≡ get_or xs i x → drop i xs ≡ x ∷ drop (i + 1) xs
  head_read xs i x within is = drop_more xs i x within ∙ ap (λ y. y ∷ drop (i + 1) xs) (sym is)

module _ (test : Receiver → Bool) where
  -- from the first that passes on
  abbrev pub rest_from : List Receiver → List Receiver
  rest_from [] = []
  rest_from (r ∷ rs) = if test r then r ∷ rs else rest_from rs

  pub first_after : (place : ℕ) (rs : List Receiver) → place ≤ first_from test place rs
  first_after place [] = omega arith
  first_after place (r ∷ rs) = by (test r) (first_after (place + 1) rs)
    where
      by : (b : Bool) → place + 1 ≤ first_from test (place + 1) rs → place ≤ (if b then place else first_from test (place + 1) rs)
      by true later = omega arith
      by false later = omega arith

  pub rest_is : (all : List Receiver) (place : ℕ) (rs : List Receiver) → drop place all ≡ rs → drop (first_from test place rs) all ≡ rest_from rs
  rest_is all place [] is = is
  rest_is all place (r ∷ rs) is = by (test r) (rest_is all (place + 1) rs (drop_next all place r rs is))
    where
      by : (b : Bool) → drop (first_from test (place + 1) rs) all ≡ rest_from rs → drop (if b then place else first_from test (place + 1) rs) all ≡ (if b then r ∷ rs else rest_from rs)
      by true later = is
      by false later = later

  pub rest_passes : (rs : List Receiver) (x : Receiver) (more : List Receiver) → rest_from rs ≡ x ∷ more → test x ≡ true
  rest_passes [] x more is = cc
  rest_passes (r ∷ rs) x more is = by (test r) refl (λ same. rest_passes rs x more same) is
    where
      by : (b : Bool) → test r ≡ b → (rest_from rs ≡ x ∷ more → test x ≡ true) → (if b then r ∷ rs else rest_from rs) ≡ x ∷ more → test x ≡ true
      by true passes later same = let here : r ≡ x = cc in subst (λ (y : Receiver). test y ≡ true) here passes
      by false fails later same = later same

  -- what passes over all that do not pass the test
  pub skips : {Y : Type 0} (F : ℕ → List Receiver → Y) → ((place : ℕ) (r : Receiver) (rs : List Receiver) → test r ≡ false → F place (r ∷ rs) ≡ F (place + 1) rs)
      → (place : ℕ) (rs : List Receiver) → F place rs ≡ F (first_from test place rs) (rest_from rs)
  skips F step place [] = refl
  skips F step place (r ∷ rs) = by (test r) refl (skips F step (place + 1) rs)
    where
      by : (b : Bool) → test r ≡ b → F (place + 1) rs ≡ F (first_from test (place + 1) rs) (rest_from rs)
          → F place (r ∷ rs) ≡ F (if b then place else first_from test (place + 1) rs) (if b then r ∷ rs else rest_from rs)
      by true passes later = refl
      by false fails later = step place r rs fails ∙ later
