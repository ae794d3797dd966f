-- Where a text cannot be cut into pieces.
use Rattle.std.specs.Prelude.{◌≡◌, ℕ, ◌≤◌, ◌^◌, List, [], ◌∷◌, ◌++◌, Bool, true, false, ◌||◌, ◌==◌, is_some}
use Rattle.pz_lexer.specs.declared.sorts.Reason.{Reason}
use Rattle.pz_syntax.specs.pz_items.Characters.{byte}
use Rattle.pz_lexer.specs.Bytes.{is_blank, is_word, is_digit, is_letter, begins}
use Rattle.pz_lexer.specs.Spellings.{spelled}
use Rattle.pz_lexer.specs.Symbols.{symbols}
use Rattle.pz_lexer.specs.Comments.{has_pair, is_in_line}
use Rattle.pz_lexer.specs.Numbers.{AreDigits, value_of, begins_fraction}
use Rattle.pz_lexer.specs.Quoted.{IsItem, AreItems}

-- a blank, a letter, a digit, a quote, or the first byte of a symbol, which is one by itself, or of a
-- comment, which is a `/`
abbrev pub begins_piece : ℕ → Bool
begins_piece b = is_blank b || is_word b || b == byte "\"" || b == byte "'" || is_some (spelled symbols (b ∷ []))

-- no item stands at the front of the text
abbrev pub NoItem : ℕ → List ℕ → Type 0
NoItem quote text = (item rest : List ℕ) (value : ℕ) → IsItem quote item value → text ≡ item ++ rest → ⊥

-- An integer past 2^63 - 1, or a number that a letter or `_` follows directly.
pub data IsBadNumber : List ℕ → Type 0 where
  too_large : (digits rest : List ℕ) → AreDigits digits → begins is_digit rest ≡ false → begins_fraction rest ≡ false → 2 ^ 63 ≤ value_of digits → IsBadNumber (digits ++ rest)
  lettered : (digits rest : List ℕ) → AreDigits digits → begins is_letter rest ≡ true → IsBadNumber (digits ++ rest)
  lettered_float : (digits fraction rest : List ℕ) → AreDigits digits → AreDigits fraction → begins is_letter rest ≡ true → IsBadNumber ((digits ++ byte "." ∷ fraction) ++ rest)

-- the opening quote of a string or a character that an LF or the end cuts off, or of a character
-- that has no item or more than one
pub data IsOpenString : List ℕ → Type 0 where
  cut_string : (inside values rest : List ℕ) → AreItems (byte "\"") inside values → begins is_in_line rest ≡ false → IsOpenString (byte "\"" ∷ inside ++ rest)
  cut_character : {rest : List ℕ} → begins is_in_line rest ≡ false → IsOpenString (byte "'" ∷ rest)
  no_item : {rest : List ℕ} → IsOpenString (byte "'" ∷ byte "'" ∷ rest)
  not_closed : (item rest : List ℕ) (value : ℕ) → IsItem (byte "'") item value → begins (λ b. b == byte "'") rest ≡ false → IsOpenString (byte "'" ∷ item ++ rest)

-- Behind the last piece that can be cut stand these two texts, and the refusal is at the second: a byte
-- that begins nothing, the `\` of an unknown escape behind the quote and whole items, the `/*` of a
-- comment without end, an opening quote, or the first digit of a number.
pub data Stops : List ℕ → List ℕ → Reason → Type 0 where
  no_token : {b : ℕ} {rest : List ℕ} → begins_piece b ≡ false → Stops [] (b ∷ rest) Reason.BadByte
  no_escape_in_string : {inside values rest : List ℕ} → AreItems (byte "\"") inside values → NoItem (byte "\"") (byte "\\" ∷ rest) → Stops (byte "\"" ∷ inside) (byte "\\" ∷ rest) Reason.BadByte
  no_escape_in_character : {rest : List ℕ} → NoItem (byte "'") (byte "\\" ∷ rest) → Stops (byte "'" ∷ []) (byte "\\" ∷ rest) Reason.BadByte
  comment : {rest : List ℕ} → has_pair (byte "*") (byte "/") rest ≡ false → Stops [] (byte "/" ∷ byte "*" ∷ rest) Reason.OpenComment
  string : {rest : List ℕ} → IsOpenString rest → Stops [] rest Reason.OpenString
  number : {rest : List ℕ} → IsBadNumber rest → Stops [] rest Reason.BadNumber
