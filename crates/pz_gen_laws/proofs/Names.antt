-- The name of a station is one identifier, and no other station has it.
use Rattle.std.proofs.Common.{◌≡◌, refl, ◌∙◌, ap, subst, ℕ, zero, suc, ◌+◌, ◌/◌, ◌%◌, ◌^◌, ◌<◌, Bool, true, false, not, ◌==◌, List, [], ◌∷◌, drop, Some, None, option_map, bytes_eq, arith, lt-ltb, le-leb}
use Rattle.std.specs.Prelude.{unwrap_or}
use Rattle.std.specs.List.{list_all}
use Rattle.std.specs.Fmt.{decimal, digits, digits_onto, digit_glyph}
use Rattle.std.proofs.lemmas.Bool.{and_parts, and_from, or_right, cond_both, cond-true, cond-false, not-true, both_ways, false_from_ne_true}
use Rattle.std.proofs.lemmas.Fmt.{decimal_injective}
use Rattle.std.proofs.lemmas.Slice.Eq.{bytes_eq-Decides}
use Rattle.pz_classes_rules.specs.pz_syntax.declared.tokens.TokenKind.{TokenKind}
use Rattle.pz_lexer.specs.declared.sorts.Sort.{Sort}
use Rattle.pz_lexer.specs.Bytes.{is_digit, is_word, begins}
use Rattle.pz_lexer.specs.Pieces.{IsPiece, a_word}
use Rattle.pz_lexer.specs.Spellings.{spelled}
use Rattle.pz_lexer.specs.Words.{word_kind, keywords}
use Rattle.pz_gen.specs.Ring.{name}

-- one digit or more
abbrev pub AreDigits : List ℕ → Type 0
AreDigits ds = (begins is_digit ds ≡ true) × (list_all is_digit ds ≡ true)

module _ where
  glyph : (n : ℕ) → is_digit (digit_glyph false (n % 10)) ≡ true
  glyph n =
      let below : n % 10 < 10 = omega arith in
      let is : digit_glyph false (n % 10) ≡ 48 + n % 10 = cond-true _ _ _ (lt-ltb (n % 10) 10 below) in
      ap is_digit is ∙ and_from _ _ (le-leb 48 (48 + n % 10) (omega arith)) (le-leb (48 + n % 10) 57 (omega arith))

  digits_are : (k n : ℕ) (acc : List ℕ) → list_all is_digit acc ≡ true → AreDigits (digits_onto (suc k) 10 false n acc)
  digits_are zero n acc all =
      let now : AreDigits (digit_glyph false (n % 10) ∷ acc) = (glyph n, and_from _ _ (glyph n) all) in
      cond_both (n / 10 == 0) (digit_glyph false (n % 10) ∷ acc) (digits_onto zero 10 false (n / 10) (digit_glyph false (n % 10) ∷ acc)) AreDigits (λ _. now) (λ _. now)
  digits_are (suc k) n acc all =
      let now : AreDigits (digit_glyph false (n % 10) ∷ acc) = (glyph n, and_from _ _ (glyph n) all) in
      cond_both (n / 10 == 0) (digit_glyph false (n % 10) ∷ acc) (digits_onto (suc k) 10 false (n / 10) (digit_glyph false (n % 10) ∷ acc)) AreDigits (λ _. now) (λ _. digits_are k (n / 10) (digit_glyph false (n % 10) ∷ acc) now.1)

  decimal_are : (n : ℕ) → AreDigits (decimal n)
  unfolding digits
  decimal_are n = digits_are 63 n [] refl

  digits_words : (ds : List ℕ) → list_all is_digit ds ≡ true → list_all is_word ds ≡ true
  digits_words [] all = refl
  digits_words (d ∷ ds) all = let parts = and_parts _ _ all in and_from _ _ (or_right _ _ parts.0) (digits_words ds parts.1)

  -- a digit stands behind the first byte
  digit_follows : List ℕ → Bool
  digit_follows [] = false
  digit_follows (b ∷ bs) = begins is_digit bs

  no_keyword : {X : Type 0} (table : List (List ℕ × X)) (b : ℕ) (ds : List ℕ) → begins is_digit ds ≡ true → list_all (λ e. not (digit_follows e.0)) table ≡ true → spelled table (b ∷ ds) ≡ None
  unfolding digit_follows
  no_keyword [] b ds first none = refl
  no_keyword (e ∷ table) b ds first none =
      let parts = and_parts _ _ none in
      let apart : bytes_eq e.0 (b ∷ ds) ≡ false = false_from_ne_true _ (λ same. both_ways (digit_follows e.0) (not-true _ parts.0) (ap digit_follows ((bytes_eq-Decides e.0 (b ∷ ds)).0 same) ∙ first)) in
      cond-false (bytes_eq e.0 (b ∷ ds)) (Some e.1) (spelled table (b ∷ ds)) apart ∙ no_keyword table b ds first parts.1

  named_kind : (i : ℕ) → word_kind (name i) ≡ TokenKind.Ident (name i)
  unfolding digit_follows
  named_kind i = ap (λ o. unwrap_or (option_map TokenKind.Key o) (TokenKind.Ident (name i))) (no_keyword keywords 115 (decimal i) (decimal_are i).0 refl)

  pub is_name : (i : ℕ) (rest : List ℕ) → begins is_word rest ≡ false → IsPiece (name i) (Sort.Token (TokenKind.Ident (name i))) rest
  is_name i rest whole =
      let is : IsPiece (name i) (Sort.Token (word_kind (name i))) rest = a_word (record { first = refl; inside = digits_words (decimal i) (decimal_are i).1; whole = whole }) in
      subst (λ k. IsPiece (name i) (Sort.Token k) rest) (named_kind i) is

  pub name_injective : (i j : ℕ) → i < 2 ^ 64 → j < 2 ^ 64 → name i ≡ name j → i ≡ j
  name_injective i j low high same = decimal_injective i j low high (ap (drop 1) same)
