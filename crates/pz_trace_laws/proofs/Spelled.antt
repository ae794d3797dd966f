-- No LF stands in an identifier, and so in none of those that a text is cut into.
use Rattle.std.proofs.Common.{◌≡◌, ℕ, Bool, true, false, List, [], ◌∷◌, map, Option, Some, None, refl, sym, subst}
use Rattle.std.specs.Prelude.{◌&&◌, nat_eq, unwrap_or, option_map}
use Rattle.std.specs.List.{list_all}
use Rattle.std.proofs.lemmas.Bool.{eqb-true, false≢true}
use Rattle.pz_trace.specs.pz_syntax.declared.tokens.Keyword.{Keyword}
use Rattle.pz_trace.specs.pz_syntax.declared.tokens.TokenKind.{TokenKind}
use Rattle.pz_trace.specs.pz_syntax.declared.tokens.TokenKind.TheVariants as kind
use Rattle.pz_trace.specs.pz_syntax.declared.tokens.Mark.{Mark}
use Rattle.pz_trace.specs.pz_syntax.declared.tokens.Pos.{Pos}
use Rattle.pz_trace.specs.pz_syntax.declared.tokens.Token.{Token}
use Rattle.pz_trace.specs.pz_syntax.ModelForm.{Each}
use Rattle.pz_trace.specs.pz_syntax.Heads.{heads}
use Rattle.pz_parser_cursor.specs.devices.Input.{marks}
use Rattle.pz_lexer.specs.declared.sorts.Sort.{Sort}
use Rattle.pz_lexer.specs.declared.sorts.Sort.TheVariants as sort
use Rattle.pz_lexer.specs.Bytes.{is_word}
use Rattle.pz_lexer.specs.Spellings.{spelled}
use Rattle.pz_lexer.specs.Words.{keywords}
use Rattle.pz_lexer.specs.Places.{origin, place_after}
use Rattle.pz_lexer.specs.Pieces.{IsPiece, a_blank, a_line_comment, a_block_comment, a_word, an_integer, a_float, a_character, a_string, a_symbol, Piece, ArePieces}
use Rattle.pz_lexer.specs.Tokens.{Placed, kept, placed, marked, AreTokens}
use Rattle.pz_trace.specs.Laws.{Unbroken}
use Rattle.pz_trace_laws.proofs.Lists.{both}

abbrev pub KindUnbroken : TokenKind → Type 0
KindUnbroken (kind.Ident name) = Unbroken name
KindUnbroken _ = Unit {0}

abbrev pub MarkUnbroken : Mark → Type 0
MarkUnbroken x = KindUnbroken x.kind

abbrev PlacedUnbroken : Placed → Type 0
PlacedUnbroken t = KindUnbroken t.kind

abbrev SortUnbroken : Sort → Type 0
SortUnbroken (sort.Token k) = KindUnbroken k
SortUnbroken _ = Unit {0}

split : (a b : Bool) → (a && b) ≡ true → (a ≡ true) × (b ≡ true)
split true b e = (refl, e)
split false b e = absurd (false≢true e)

byte_apart : (b : ℕ) → is_word b ≡ true → nat_eq 10 b ≡ false
byte_apart b e = by (nat_eq 10 b) refl
  where
    by : (t : Bool) → nat_eq 10 b ≡ t → nat_eq 10 b ≡ false
    by false is = is
    by true is =
        let same : 10 ≡ b = eqb-true 10 b is in
        absurd (false≢true (subst (λ (n : ℕ). is_word n ≡ true) (sym same) e))

word_unbroken : (text : List ℕ) → list_all is_word text ≡ true → Unbroken text
word_unbroken [] e = refl
word_unbroken (b ∷ bs) e =
    let parts = split (is_word b) (list_all is_word bs) e in
    rw (byte_apart b parts.0, word_unbroken bs parts.1) refl

-- a reserved word is no identifier
kind_unbroken : (o : Option Keyword) (text : List ℕ) → Unbroken text → KindUnbroken (unwrap_or (option_map kind.Key o) (kind.Ident text))
kind_unbroken None text whole = whole
kind_unbroken (Some k) text whole = tt

piece_unbroken : (text : List ℕ) (s : Sort) (rest : List ℕ) → IsPiece text s rest → SortUnbroken s
piece_unbroken _ _ _ (a_blank is) = tt
piece_unbroken _ _ _ (a_line_comment is) = tt
piece_unbroken _ _ _ (a_block_comment is) = tt
piece_unbroken _ _ _ (a_word {text} is) = kind_unbroken (spelled keywords text) text (word_unbroken text is.inside)
piece_unbroken _ _ _ (an_integer is) = tt
piece_unbroken _ _ _ (a_float is) = tt
piece_unbroken _ _ _ (a_character is) = tt
piece_unbroken _ _ _ (a_string is) = tt
piece_unbroken _ _ _ (a_symbol is) = tt

kept_unbroken : (s : Sort) (at : Pos) → SortUnbroken s → Each PlacedUnbroken (kept s at)
kept_unbroken (sort.Token k) at h = (h, tt)
kept_unbroken sort.Blank at h = tt
kept_unbroken sort.LineComment at h = tt
kept_unbroken sort.BlockComment at h = tt

placed_unbroken : (at : Pos) (ps : List Piece) (rest : List ℕ) → ArePieces ps rest → Each PlacedUnbroken (placed at ps)
placed_unbroken at [] rest are = tt
placed_unbroken at (p ∷ ps) rest are =
    both PlacedUnbroken (kept p.sort at) (placed (place_after at p.text) ps)
    (kept_unbroken p.sort at (piece_unbroken p.text p.sort _ are.0))
    (placed_unbroken (place_after at p.text) ps rest are.1)

marked_unbroken : (ts : List Placed) (hs : List Bool) → Each PlacedUnbroken ts → Each MarkUnbroken (marks (marked ts hs))
marked_unbroken [] hs h = tt
marked_unbroken (t ∷ ts) [] h = tt
marked_unbroken (t ∷ ts) (head ∷ hs) h = (h.0, marked_unbroken ts hs h.1)

pub tokens_unbroken : (text : List ℕ) (ts : List Token) → AreTokens text ts → Each MarkUnbroken (marks ts)
tokens_unbroken text ts are =
    let ps = placed origin are.pieces in
    subst (λ (l : List Token). Each MarkUnbroken (marks l)) are.kept
    (marked_unbroken ps (heads (map (λ t. t.kind) ps)) (placed_unbroken origin are.pieces [] are.cut))
