-- Texts of words, numbers, symbols and blanks, bit by bit.
use Rattle.std.specs.Prelude.{ℕ, ◌^◌, List, [], ◌∷◌, ◌++◌, length, Bool, true, false, not, ◌&&◌, ◌||◌, ◌==◌, nat_le, nat_lt, if◌then◌else◌, is_some, unwrap_or, pos}
use Rattle.std.specs.List.{list_all}
use Rattle.pz_classes_rules.specs.pz_syntax.declared.tokens.Symbol.{Symbol}
use Rattle.pz_classes_rules.specs.pz_syntax.declared.tokens.Symbol.TheVariants as s
use Rattle.pz_classes_rules.specs.pz_syntax.declared.tokens.TokenKind.{TokenKind}
use Rattle.pz_lexer.specs.declared.sorts.Sort.{Sort}
use Rattle.pz_lexer.specs.Bytes.{is_blank, is_letter, is_digit, is_word, begins}
use Rattle.pz_lexer.specs.Comments.{begins_comment}
use Rattle.pz_lexer.specs.Numbers.{value_of, begins_fraction}
use Rattle.pz_lexer.specs.Pieces.{Piece}
use Rattle.pz_lexer.specs.Spellings.{spelled}
use Rattle.pz_lexer.specs.Symbols.{symbols}
use Rattle.pz_lexer.specs.Words.{word_kind}
use Rattle.pz_gen.specs.Ring as ring

-- a blank, a word, a number, a symbol, or the name of the station of this number
pub data Bit : Type 0 where
  blank : ℕ → Bit
  word : List ℕ → Bit
  number : List ℕ → Bit
  sign : List ℕ → Bit
  station : ℕ → Bit

abbrev pub spelling : Bit → List ℕ
spelling (blank b) = b ∷ []
spelling (word w) = w
spelling (number w) = w
spelling (sign w) = w
spelling (station i) = ring.name i

-- what it spells, if it is a symbol
abbrev pub symbol_of : List ℕ → Symbol
symbol_of w = unwrap_or (spelled symbols w) s.Dot

abbrev pub sort_of : Bit → Sort
sort_of (blank b) = Sort.Blank
sort_of (word w) = Sort.Token (word_kind w)
sort_of (number w) = Sort.Token (TokenKind.Int (pos (value_of w)))
sort_of (sign w) = Sort.Token (TokenKind.Sym (symbol_of w))
sort_of (station i) = Sort.Token (TokenKind.Ident (ring.name i))

abbrev pub piece_of : Bit → Piece
piece_of b = record { text = spelling b; sort = sort_of b }

-- the text that bits make
abbrev pub text_of : List Bit → List ℕ
text_of [] = []
text_of (b ∷ bs) = spelling b ++ text_of bs

-- ---- a test for pieces

-- the first list is a front of the second
abbrev pub stands : List ℕ → List ℕ → Bool
stands [] text = true
stands (e ∷ es) [] = false
stands (e ∷ es) (b ∷ bs) = e == b && stands es bs

-- this spelling is no longer than w, or does not stand where w does
abbrev pub is_no_longer : List ℕ → List ℕ → List ℕ → Bool
is_no_longer entry w rest = nat_le (length entry) (length w) || not (stands entry (w ++ rest))

-- it is a piece where that rest follows it
abbrev pub fits : Bit → List ℕ → Bool
fits (blank b) rest = is_blank b
fits (word w) rest = begins is_letter w && (list_all is_word w && not (begins is_word rest))
fits (number w) rest = begins is_digit w && (list_all is_digit w && (not (begins is_word rest) && (not (begins_fraction rest) && nat_lt (value_of w) (2 ^ 63))))
fits (sign w) rest = is_some (spelled symbols w) && (list_all (λ e. is_no_longer e.0 w rest) symbols && not (begins_comment (w ++ rest)))
fits (station i) rest = not (begins is_word rest)

-- each is a piece where the others, and then that rest, follow it
abbrev pub all_fit : List Bit → List ℕ → Bool
all_fit [] rest = true
all_fit (b ∷ bs) rest = fits b (text_of bs ++ rest) && all_fit bs rest

-- ---- a text without symbols of two bytes, cut from its end

-- a letter before bits begins a word, or goes on with one to the left
abbrev pub before_letter : ℕ → List Bit → List Bit
before_letter b (word w ∷ bs) = word (b ∷ w) ∷ bs
before_letter b (number w ∷ bs) = word (b ∷ w) ∷ bs
before_letter b bs = word (b ∷ []) ∷ bs

-- a digit, likewise
abbrev pub before_digit : ℕ → List Bit → List Bit
before_digit b (word w ∷ bs) = word (b ∷ w) ∷ bs
before_digit b (number w ∷ bs) = number (b ∷ w) ∷ bs
before_digit b bs = number (b ∷ []) ∷ bs

abbrev pub before : ℕ → List Bit → List Bit
before b bs =
    if is_blank b then blank b ∷ bs
    else (if is_letter b then before_letter b bs
    else (if is_digit b then before_digit b bs
    else sign (b ∷ []) ∷ bs))

abbrev pub cut : List ℕ → List Bit
cut [] = []
cut (b ∷ bs) = before b (cut bs)
