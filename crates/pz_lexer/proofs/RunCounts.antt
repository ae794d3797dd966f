-- Runs counted: what `take_while` and a count give.
use Rattle.std.proofs.Common.{◌≡◌, ℕ, ◌≤◌, ◌<◌, List, [], ◌∷◌, length, take, drop, Bool, true, false, refl, sym, ◌∙◌, ap, arith, zero, suc, lit<}
use Rattle.std.specs.List.{list_all, take_while, prefix_len}
use Rattle.std.specs.Str.{IsUtf8, IsAscii}
use Rattle.std.proofs.lemmas.Str.{IsUtf8-from_ascii}
use Rattle.std.proofs.lemmas.List.{length-take-le}
use Rattle.std.proofs.lemmas.List.Sums.{prefix_len-le-length}
use Rattle.std.proofs.lemmas.Bool.{and_parts, cond-true, cond-false}
use Rattle.std.proofs.lemmas.Bool.Decides.{nat_tests}
use Rattle.pz_lexer.specs.Bytes.{is_word}
use Rattle.std.proofs.Math.Numerals.{one-add}
use Rattle.pz_lexer.specs.devices.Step.{front, back}
use Rattle.pz_lexer.proofs.Runs.{front-in, front-out, back-in, back-out}

module _ (sort : ℕ → Bool) where
  count : (text : List ℕ) → length (take_while sort text) ≡ prefix_len sort text
  count text = length-take-le (prefix_len sort text) text (prefix_len-le-length sort text)

  -- the front is so many bytes, and the back is the rest
  front-take : (text : List ℕ) → (take (prefix_len sort text) text ≡ front sort text) × (drop (prefix_len sort text) text ≡ back sort text)
  front-take [] = (refl, refl)
  front-take (b ∷ bs) = by (sort b) refl (front-take bs)
    where
      len-in : sort b ≡ true → prefix_len sort (b ∷ bs) ≡ suc (prefix_len sort bs)
      len-in e = cond-true _ _ _ e ∙ one-add _

      len-out : sort b ≡ false → prefix_len sort (b ∷ bs) ≡ 0
      len-out e = cond-false _ _ _ e

      by : (t : Bool) → sort b ≡ t → (take (prefix_len sort bs) bs ≡ front sort bs) × (drop (prefix_len sort bs) bs ≡ back sort bs) → (take (prefix_len sort (b ∷ bs)) (b ∷ bs) ≡ front sort (b ∷ bs)) × (drop (prefix_len sort (b ∷ bs)) (b ∷ bs) ≡ back sort (b ∷ bs))
      by true e is = (
        ap (λ n. take n (b ∷ bs)) (len-in e) ∙ ap (λ l. b ∷ l) is.0 ∙ sym (front-in sort b bs e),
        ap (λ n. drop n (b ∷ bs)) (len-in e) ∙ is.1 ∙ sym (back-in sort b bs e),
      )
      by false e is = (
        ap (λ n. take n (b ∷ bs)) (len-out e) ∙ sym (front-out sort b bs e),
        ap (λ n. drop n (b ∷ bs)) (len-out e) ∙ sym (back-out sort b bs e),
      )

  -- what is counted is the front, and the rest is the back
  pub run_cut : (text : List ℕ) (n : ℕ) → n ≡ length (take_while sort text) → (n ≤ length text) × (take n text ≡ front sort text) × (drop n text ≡ back sort text) × (n ≡ length (front sort text))
  run_cut text n is =
      let same : n ≡ prefix_len sort text = is ∙ count text in
      let parts = front-take text in
      let short : n ≤ length text = omega (arith, prefix_len-le-length sort text) in (
        short,
        ap (λ m. take m text) same ∙ parts.0,
        ap (λ m. drop m text) same ∙ parts.1,
        sym (length-take-le n text short) ∙ ap length (ap (λ m. take m text) same ∙ parts.0),
      )

word_ascii : (b : ℕ) → is_word b ≡ true → b < 128
word_ascii b e = grind (arith, nat_tests)

IsAscii-word : (word : List ℕ) → list_all is_word word ≡ true → IsAscii word
IsAscii-word [] all i = lit< tt
IsAscii-word (b ∷ bs) all zero = word_ascii b (and_parts _ _ all).0
IsAscii-word (b ∷ bs) all (suc i) = IsAscii-word bs (and_parts _ _ all).1 i

-- a word is text
pub IsUtf8-word : (word : List ℕ) → list_all is_word word ≡ true → IsUtf8 word
IsUtf8-word word all = IsUtf8-from_ascii word (IsAscii-word word all)
