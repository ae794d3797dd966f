-- What stands between ends of lines, or between blanks.
use Rattle.std.proofs.Common.{◌≡◌, ◌≢◌, ap, ℕ, ◌≤◌, Bool, true, false, List, [], ◌∷◌, length, cond, eq-eqb, arith}
use Rattle.std.specs.Prelude.{eqb}
use Rattle.std.specs.List.{slice_split, onto_first}
use Rattle.std.proofs.lemmas.List.Splits.{length-slice_split}
use Rattle.pz_lines.specs.devices.Lacking.{EachLacks}

onto_lacks : (c x : ℕ) (parts : List (List ℕ)) → x ≢ c → EachLacks c parts → EachLacks c (onto_first x parts)
onto_lacks c x [] differ told = ((differ, tt), tt)
onto_lacks c x (p ∷ ps) differ told = ((differ, told.0), told.1)

pub split_lacks : (c : ℕ) (t : List ℕ) → EachLacks c (slice_split (λ b. eqb b c) t)
split_lacks c [] = (tt, tt)
split_lacks c (x ∷ xs) = by (eqb x c) (λ (same : x ≡ c). eq-eqb x c same) (split_lacks c xs)
  where
    by : (v : Bool) → (x ≡ c → v ≡ true) → EachLacks c (slice_split (λ b. eqb b c) xs) → EachLacks c (cond v ([] ∷ slice_split (λ b. eqb b c) xs) (onto_first x (slice_split (λ b. eqb b c) xs)))
    by true same told = (tt, told)
    by false same told = onto_lacks c x (slice_split (λ b. eqb b c) xs) (λ (e : x ≡ c). (let never : false ≡ true = same e in cc)) told

abbrev cuts : ℕ → List ℕ → List (List ℕ)
cuts c t = slice_split (λ b. eqb b c) t

pub some_cut : (c : ℕ) (t : List ℕ) (parts : List (List ℕ)) → parts ≡ slice_split (λ b. eqb b c) t → 1 ≤ length parts
some_cut c t parts e =
    let count : length parts ≡ length (cuts c t) = ap (λ (ps : List (List ℕ)). length ps) e in
    omega (arith, length-slice_split (λ b. eqb b c) t)
