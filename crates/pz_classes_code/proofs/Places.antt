-- The places of names in lists that begin with names of others.
use Rattle.std.proofs.Common.{◌≡◌, refl, sym, ap, ◌∙◌, subst, ℕ, zero, suc, ◌+◌, ◌-◌, ◌<◌, ◌≤◌, ◌^◌, ◌⊎◌, inl, inr, Bool, true, false, List, [], ◌∷◌, ◌++◌, length, take, Option, Some, None, if◌then◌else◌, arith}
use Rattle.std.specs.Option.{option_map, option_or}
use Rattle.std.proofs.lemmas.List.{length-take, take_all}
use Rattle.std.specs.Str.{bytes_eq}
use Rattle.pz_classes_code.specs.declared.numbering.Numbering.{Numbering}
use Rattle.pz_classes_code.specs.NumberIn.{below, number_below}
use Rattle.pz_classes_code.specs.Places.{place_from, place_in}
use Rattle.pz_classes_code.specs.Listed.{Listed}
use Rattle.pz_classes_code.specs.devices.Above.{ArePlaced, extended, front}

at_once : (b n : ℕ) → b ≤ n → below b (Some n) ≡ None
at_once b n h = grind arith

kept : (b n : ℕ) → n < b → below b (Some n) ≡ Some n
kept b n h = grind arith

unless : (b n : ℕ) (t : Bool) (rest : Option ℕ) → b ≤ n → below b rest ≡ None → below b (if t then Some n else rest) ≡ None
unless b n true rest h e = at_once b n h
unless b n false rest h e = e

none_below : (b n : ℕ) (xs : List (List ℕ)) (q : List ℕ) → b ≤ n → below b (place_from n xs q) ≡ None
none_below b n [] q h = refl
none_below b n (x ∷ xs) q h = unless b n (bytes_eq q x) (place_from (suc n) xs q) h (none_below b (suc n) xs q (omega (arith, h)))

either : (b n : ℕ) (t : Bool) (rest found : Option ℕ) → n < b → below b rest ≡ found → below b (if t then Some n else rest) ≡ (if t then Some n else found)
either b n true rest found h e = kept b n h
either b n false rest found h e = e

cut : (n j : ℕ) (xs : List (List ℕ)) (q : List ℕ) → below (n + j) (place_from n xs q) ≡ place_from n (take j xs) q
cut n zero xs q = none_below (n + 0) n xs q (omega arith)
cut n (suc j) [] q = refl
cut n (suc j) (x ∷ xs) q =
    let same : suc n + j ≡ n + suc j = omega arith in
    either (n + suc j) n (bytes_eq q x) (place_from (suc n) xs q) (place_from (suc n) (take j xs) q) (omega arith)
    (subst (λ (k : ℕ). below k (place_from (suc n) xs q) ≡ place_from (suc n) (take j xs) q) same (cut (suc n) j xs q))

cut_here : (j : ℕ) (xs : List (List ℕ)) (q : List ℕ) → below j (place_in xs q) ≡ place_in (take j xs) q
cut_here j xs q = let same : 0 + j ≡ j = omega arith in subst (λ (k : ℕ). below k (place_in xs q) ≡ place_in (take j xs) q) same (cut 0 j xs q)

-- a front of a front
take_less : (b k : ℕ) (xs : List (List ℕ)) → b ≤ k → take b (take k xs) ≡ take b xs
take_less zero k xs h = refl
take_less (suc b) zero xs h = absurd (omega (arith, h))
take_less (suc b) (suc k) [] h = refl
take_less (suc b) (suc k) (x ∷ xs) h = ap (λ (ys : List (List ℕ)). x ∷ ys) (take_less b k xs (omega (arith, h)))

-- numbers below a bound are those of the first names
pub below_bound : (b : ℕ) (xs : List (List ℕ)) (numbers : Numbering) → ArePlaced xs numbers → b < 2 ^ 32 → (q : List ℕ) → number_below b numbers q ≡ place_in (take b xs) q
below_bound b xs numbers placed few q =
    ap (below b) (placed q) ∙ cut_here b (take 4294967295 xs) q ∙ ap (λ (ys : List (List ℕ)). place_in ys q) (take_less b 4294967295 xs (omega (arith, few)))

-- a name is among the first of these, or else behind them
split : (n b : ℕ) (above own : List (List ℕ)) (q : List ℕ)
    → place_from n (take b (above ++ own)) q ≡ option_or (place_from n (take b above) q) (place_from (n + length above) (take (b - length above) own) q)
split n zero [] own q = refl
split n (suc b) [] own q =
    let same : n + 0 ≡ n = omega arith in
    let all : suc b - 0 ≡ suc b = omega arith in
    rw (same, all) refl
split n zero (x ∷ xs) own q = let none : 0 - suc (length xs) ≡ 0 = omega arith in rw none refl
split n (suc b) (x ∷ xs) own q = by_name (moved (split (suc n) b xs own q)) (bytes_eq q x)
  where
    moved : place_from (suc n) (take b (xs ++ own)) q ≡ option_or (place_from (suc n) (take b xs) q) (place_from (suc n + length xs) (take (b - length xs) own) q)
        → place_from (suc n) (take b (xs ++ own)) q ≡ option_or (place_from (suc n) (take b xs) q) (place_from (n + suc (length xs)) (take (suc b - suc (length xs)) own) q)
    moved rest =
        let same : suc n + length xs ≡ n + suc (length xs) = omega arith in
        let left : b - length xs ≡ suc b - suc (length xs) = omega arith in
        rest ∙ rw (same, left) refl

    by_name : place_from (suc n) (take b (xs ++ own)) q ≡ option_or (place_from (suc n) (take b xs) q) (place_from (n + suc (length xs)) (take (suc b - suc (length xs)) own) q) → (t : Bool) → (if t then Some n else place_from (suc n) (take b (xs ++ own)) q)
        ≡ option_or (if t then Some n else place_from (suc n) (take b xs) q) (place_from (n + suc (length xs)) (take (suc b - suc (length xs)) own) q)
    by_name rest true = refl
    by_name rest false = rest

further : (n k : ℕ) (xs : List (List ℕ)) (q : List ℕ) → place_from (n + k) xs q ≡ option_map (λ i. n + i) (place_from k xs q)
further n k [] q = refl
further n k (x ∷ xs) q = by_name (moved (further n (suc k) xs q)) (bytes_eq q x)
  where
    moved : place_from (n + suc k) xs q ≡ option_map (λ i. n + i) (place_from (suc k) xs q) → place_from (suc (n + k)) xs q ≡ option_map (λ i. n + i) (place_from (suc k) xs q)
    moved rest = let same : n + suc k ≡ suc (n + k) = omega arith in subst (λ (j : ℕ). place_from j xs q ≡ option_map (λ i. n + i) (place_from (suc k) xs q)) same rest

    by_name : place_from (suc (n + k)) xs q ≡ option_map (λ i. n + i) (place_from (suc k) xs q) → (t : Bool) → (if t then Some (n + k) else place_from (suc (n + k)) xs q) ≡ option_map (λ i. n + i) (if t then Some k else place_from (suc k) xs q)
    by_name rest true = refl
    by_name rest false = rest

-- the first names of a list, of which so many are those of a front of the list above, and its own
module _ (bound count before : ℕ) (names own : List (List ℕ)) (q : List ℕ) (within : count ≤ length names) (lesser : ((before ≡ bound) × (bound ≤ count)) ⊎ ((before ≡ count) × (count ≤ bound))) where
  sized : length (take count names) ≡ count
  sized = length-take count names ∙ omega (arith, within)

  first_part : take bound (take count names) ≡ take before names
  first_part = by_case lesser
    where
      by_case : ((before ≡ bound) × (bound ≤ count)) ⊎ ((before ≡ count) × (count ≤ bound)) → take bound (take count names) ≡ take before names
      by_case (inl (same, under)) = take_less bound count names under ∙ ap (λ (k : ℕ). take k names) (sym same)
      by_case (inr (same, over)) = take_all bound (take count names) (omega (arith, sized, over)) ∙ ap (λ (k : ℕ). take k names) (sym same)

  second_part : place_from (length (take count names)) (take (bound - length (take count names)) own) q ≡ option_map (λ i. before + i) (place_in (take (bound - before) own) q)
  second_part = by_case lesser
    where
      by_case : ((before ≡ bound) × (bound ≤ count)) ⊎ ((before ≡ count) × (count ≤ bound))
          → place_from (length (take count names)) (take (bound - length (take count names)) own) q ≡ option_map (λ i. before + i) (place_in (take (bound - before) own) q)
      by_case (inl (same, under)) =
          let none : bound - length (take count names) ≡ 0 = omega (arith, sized, under) in
          let nothing : bound - before ≡ 0 = omega (arith, same) in
          rw (none, nothing) refl
      by_case (inr (same, over)) =
          let here : length (take count names) ≡ before = sized ∙ sym same in
          let zero_more : before + 0 ≡ before = omega arith in
          rw here (subst (λ (k : ℕ). place_from k (take (bound - before) own) q ≡ option_map (λ i. before + i) (place_in (take (bound - before) own) q)) zero_more (further before 0 (take (bound - before) own) q))

  pub place_is : place_in (take bound (take count names ++ own)) q ≡ option_or (place_in (take before names) q) (option_map (λ i. before + i) (place_in (take (bound - before) own) q))
  place_is = split 0 bound (take count names) own q
      ∙ (let none : 0 + length (take count names) ≡ length (take count names) = omega arith in
      ap (λ (k : ℕ). option_or (place_in (take bound (take count names)) q) (place_from k (take (bound - length (take count names)) own) q)) none)
      ∙ ap (λ (xs : List (List ℕ)). option_or (place_in xs q) (place_from (length (take count names)) (take (bound - length (take count names)) own) q)) first_part
      ∙ ap (λ (o : Option ℕ). option_or (place_in (take before names) q) o) second_part

-- the same of a list as it is kept
module _ (self : Listed) (above : Option Listed) (own : List (List ℕ)) (places : Numbering) (is : extended above own ≡ self) (placed : ArePlaced own places) (bound : ℕ) (few : bound < 2 ^ 32) (q : List ℕ) where
  pub topmost : above ≡ None → number_below bound places q ≡ place_in (take bound self.names) q
  topmost none = below_bound bound own places placed few q ∙ ap (λ (l : Listed). place_in (take bound l.names) q) (ap (λ (o : Option Listed). extended o own) (sym none) ∙ is)

  pub among : (f list : Listed) (count before : ℕ) → above ≡ Some f → front count list ≡ f → count ≤ length list.names → ((before ≡ bound) × (bound ≤ count)) ⊎ ((before ≡ count) × (count ≤ bound))
      → place_in (take bound self.names) q ≡ option_or (place_in (take before list.names) q) (option_map (λ i. before + i) (number_below (bound - before) places q))
  among f list count before there front_is within lesser =
      let whole : extended (Some (front count list)) own ≡ self = ap (λ (l : Listed). extended (Some l) own) front_is ∙ ap (λ (o : Option Listed). extended o own) (sym there) ∙ is in
      ap (λ (l : Listed). place_in (take bound l.names) q) (sym whole)
      ∙ place_is bound count before list.names own q within lesser
      ∙ ap (λ (o : Option ℕ). option_or (place_in (take before list.names) q) (option_map (λ i. before + i) o)) (sym (below_bound (bound - before) own places placed (omega (arith, few)) q))

-- what is found among the first is the answer, and else what is found behind them
pub first_of : (n : ℕ) (front behind : Option ℕ) → Some n ≡ front → {answer : Option ℕ} → answer ≡ option_or front behind → Some n ≡ answer
first_of n front behind here is = ap (λ (o : Option ℕ). option_or o behind) here ∙ sym is

pub else_of : (front behind answer : Option ℕ) → None ≡ front → answer ≡ option_or front behind → behind ≡ answer
else_of front behind answer gone is = ap (λ (o : Option ℕ). option_or o behind) gone ∙ sym is
