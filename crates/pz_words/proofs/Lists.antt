-- The numbers that a word lists.
use Rattle.std.proofs.Common.{◌≡◌, refl, sym, ◌∙◌, ap, subst, ℕ, ◌≤◌, Bool, true, false, List, [], ◌∷◌, length, map, Option, Some, arith}
use Rattle.std.specs.Prelude.{eqb, option_map, All}
use Rattle.std.specs.List.{AllByRecursion, slice_split, join_with_byte}
use Rattle.std.specs.Fmt.{decimal}
use Rattle.std.specs.Str.Parse.{AllDigits}
use Rattle.std.proofs.lemmas.Bool.{eqb-true}
use Rattle.std.proofs.lemmas.List.Elements.{All-from_recursion, All-head, All-tail}
use Rattle.std.proofs.lemmas.List.Splits.{slice_split_none, slice_split_at, length-slice_split, join_with_byte-slice_split}
use Rattle.std.proofs.lemmas.Str.Parse.{digit_from_value}
use Rattle.std.proofs.lemmas.Fmt.{decimal_is_IsNumeral}
use Rattle.std.proofs.lemmas.List.{length-map}
use Rattle.pz_words.specs.Numbers.{IsShort, listed, AreEntries}
use Rattle.pz_words.specs.devices.Reading.{number_of, numbers_of, then_maybe}
use Rattle.pz_words.proofs.Outcomes.{some_same, then_some, map_some}
use Rattle.pz_words.proofs.Numerals.{found, is_number}

comma : ℕ → Bool
comma b = eqb b 44

module _ where
  no_comma : (ds : List ℕ) → AllDigits 10 ds → AllByRecursion (λ b. eqb b 44 ≡ false) ds
  no_comma [] all = tt
  no_comma (d ∷ ds) all = (apart d (digit_from_value d all.0).0 (eqb d 44) (eqb-true d 44), no_comma ds all.1)
    where
      apart : (d : ℕ) → 48 ≤ d → (r : Bool) → (r ≡ true → d ≡ 44) → r ≡ false
      apart d low true same = let e : d ≡ 44 = same refl in absurd (omega (arith, low, e))
      apart d low false same = refl

  pub numbers_found : (ns : List ℕ) → All IsShort ns → numbers_of (map decimal ns) ≡ Some ns
  numbers_found [] all = refl
  numbers_found (n ∷ ns) all =
      ap (λ (o : Option ℕ). then_maybe o (λ k. option_map (λ ks. k ∷ ks) (numbers_of (map decimal ns)))) (found n (decimal n) (record { digits = refl; short = All-head IsShort n ns all }))
      ∙ ap (λ (o : Option (List ℕ)). option_map (λ ks. n ∷ ks) o) (numbers_found ns (All-tail IsShort n ns all))

  pub are_numbers : (parts : List (List ℕ)) (ns : List ℕ) → numbers_of parts ≡ Some ns → (parts ≡ map decimal ns) × AllByRecursion IsShort ns
  are_numbers [] ns e = subst (λ (ks : List ℕ). (◌≡◌ {A = List (List ℕ)} [] (map decimal ks)) × AllByRecursion IsShort ks) (some_same [] ns e) (refl, tt)
  are_numbers (w ∷ ws) ns e =
      let one = then_some (number_of w) (λ k. option_map (λ ks. k ∷ ks) (numbers_of ws)) ns e in
      let rest = map_some (λ ks. one.0 ∷ ks) (numbers_of ws) ns one.2 in
      let is = is_number one.0 w one.1 in
      let others = are_numbers ws rest.0 rest.1 in
      subst (λ (ks : List ℕ). ((w ∷ ws) ≡ map decimal ks) × AllByRecursion IsShort ks) rest.2
      (ap (λ (v : List ℕ). v ∷ ws) is.digits ∙ ap (λ (vs : List (List ℕ)). decimal one.0 ∷ vs) others.0, (is.short, others.1))

  split-listed : (n : ℕ) (ns : List ℕ) → All IsShort (n ∷ ns) → slice_split (λ b. eqb b 44) (listed (n ∷ ns)) ≡ map decimal (n ∷ ns)
  split-listed n [] all =
      slice_split_none (λ b. eqb b 44) (decimal n) (All-from_recursion _ _ (no_comma (decimal n) (decimal_is_IsNumeral n (All-head IsShort n [] all)).0.1))
  split-listed n (m ∷ ns) all =
      slice_split_at (λ b. eqb b 44) (decimal n) 44 (listed (m ∷ ns)) (All-from_recursion _ _ (no_comma (decimal n) (decimal_is_IsNumeral n (All-head IsShort n (m ∷ ns) all)).0.1)) refl
      ∙ ap (λ (ws : List (List ℕ)). decimal n ∷ ws) (split-listed m ns (All-tail IsShort n (m ∷ ns) all))

  pub entries_found : (ns : List ℕ) → AreEntries ns → numbers_of (slice_split (λ b. eqb b 44) (listed ns)) ≡ Some ns
  entries_found [] are = let none = are.some in absurd (omega (arith, none))
  entries_found (n ∷ ns) are = ap numbers_of (split-listed n ns are.short) ∙ numbers_found (n ∷ ns) are.short

  pub are_entries : (w : List ℕ) (ns : List ℕ) → numbers_of (slice_split (λ b. eqb b 44) w) ≡ Some ns → (w ≡ listed ns) × AreEntries ns
  are_entries w ns e =
      let are = are_numbers (slice_split (λ b. eqb b 44) w) ns e in
      let many : length (slice_split (λ b. eqb b 44) w) ≡ length ns = ap length are.0 ∙ length-map ns decimal in
      let parts = length-slice_split (λ b. eqb b 44) w in (
        sym (join_with_byte-slice_split 44 w) ∙ ap (join_with_byte 44) are.0,
        record { some = omega (arith, many, parts); short = All-from_recursion IsShort ns are.1 },
      )
