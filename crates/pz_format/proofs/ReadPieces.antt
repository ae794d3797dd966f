-- What is known of pieces that were read.
use Rattle.std.proofs.Common.{◌≡◌, ℕ, ◌+◌, ◌-◌, ◌*◌, ◌<◌, List, [], ◌∷◌, ◌++◌, Bool, true, false, Option, Some, None, refl, sym, ◌∙◌, ap, subst, arith}
use Rattle.std.specs.Prelude.{◌&&◌, ◌==◌, nat_le, if◌then◌else◌, unwrap_or, option_map, is_some}
use Rattle.std.specs.List.{list_all}
use Rattle.std.proofs.lemmas.Bool.{false≢true, and_parts}
use Rattle.std.proofs.lemmas.Bool.Decides.{nat_tests}
use Rattle.std.proofs.lemmas.List.Folds.{list_all-append}
use Rattle.pz_syntax.specs.declared.tokens.Keyword.{Keyword}
use Rattle.pz_syntax.specs.declared.tokens.Pos.{Pos}
use Rattle.pz_syntax.specs.declared.tokens.TokenKind.{TokenKind}
use Rattle.pz_lexer.specs.declared.sorts.Sort.{Sort}
use Rattle.pz_lexer.specs.declared.kept.Piece.{Piece as Kept}
use Rattle.pz_lexer.specs.Bytes.{is_blank}
use Rattle.pz_lexer.specs.Comments.{is_in_line, IsLineComment}
use Rattle.pz_lexer.specs.Quoted.{escaped, hex_value, IsItem, plain, escape, hex, AreItems, none, more}
use Rattle.pz_lexer.specs.Words.{keywords, IsWord, word_kind}
use Rattle.pz_lexer.specs.Spellings.{spelled}
use Rattle.pz_lexer.specs.Pieces.{IsPiece, a_blank, a_line_comment, a_block_comment, a_word, an_integer, a_float, a_character, a_string, a_symbol, Piece, joined, ArePieces}
use Rattle.pz_lexer.specs.Places.{place_after}
use Rattle.pz_lexer.specs.Kept.{trimmed}
use Rattle.pz_lexer.specs.devices.Cutting.{unmarked_piece, unmarked}
use Rattle.pz_format.specs.ReadingBack.{is_byte}
use Rattle.pz_format.proofs.WrittenTokens.{IsReadable}
use Rattle.pz_format.proofs.LayoutCut.{IsReadablePiece, AreReadable}

-- Comments without the blanks at their end.

trimmed_blank : (text : List ℕ) → list_all is_blank (trimmed text) ≡ list_all is_blank text
trimmed_blank [] = refl
trimmed_blank (b ∷ bs) = by (list_all is_blank (b ∷ bs)) refl (trimmed_blank bs)
  where
    by : (a : Bool) → list_all is_blank (b ∷ bs) ≡ a → list_all is_blank (trimmed bs) ≡ list_all is_blank bs → list_all is_blank (if a then [] else b ∷ trimmed bs) ≡ a
    by true e others = refl
    by false e others = ap (λ t. is_blank b && t) others ∙ e

trimmed_twice : (text : List ℕ) → trimmed (trimmed text) ≡ trimmed text
trimmed_twice [] = refl
trimmed_twice (b ∷ bs) = by (list_all is_blank (b ∷ bs)) refl (trimmed_twice bs)
  where
    by : (a : Bool) → list_all is_blank (b ∷ bs) ≡ a → trimmed (trimmed bs) ≡ trimmed bs → trimmed (if a then [] else b ∷ trimmed bs) ≡ (if a then [] else b ∷ trimmed bs)
    by true e others = refl
    by false e others =
        let blank : (is_blank b && list_all is_blank (trimmed bs)) ≡ false = ap (λ t. is_blank b && t) (trimmed_blank bs) ∙ e in
        rw blank (ap (λ l. b ∷ l) others)

trimmed_all : (p : ℕ → Bool) (text : List ℕ) → list_all p text ≡ true → list_all p (trimmed text) ≡ true
trimmed_all p [] e = refl
trimmed_all p (b ∷ bs) e = let parts = and_parts _ _ e in by (list_all is_blank (b ∷ bs)) parts.0 (trimmed_all p bs parts.1)
  where
    by : (a : Bool) → p b ≡ true → list_all p (trimmed bs) ≡ true → list_all p (if a then [] else b ∷ trimmed bs) ≡ true
    by true first others = refl
    by false first others = rw (first, others) refl

line_readable : (text rest : List ℕ) → IsLineComment text rest → IsReadablePiece (Kept.Line (trimmed text))
line_readable text rest is = (
  trimmed is.body,
  ap trimmed is.spelling,
  trimmed_all is_in_line is.body is.inside,
  trimmed_twice text,
)

-- The bytes of items.

escaped_byte : (b v : ℕ) → escaped b ≡ Some v → is_byte v ≡ true
escaped_byte b v e = by (b == 92) (b == 34) (b == 39) (b == 110) (b == 116) (b == 114) e
  where
    is : (n : ℕ) → is_byte n ≡ true → Some n ≡ Some v → is_byte v ≡ true
    is n small same = subst (λ m. is_byte m ≡ true) (ap (λ o. unwrap_or o 0) same) small

    by : (c1 c2 c3 c4 c5 c6 : Bool) → (if c1 then Some 92 else (if c2 then Some 34 else (if c3 then Some 39 else (if c4 then Some 10 else (if c5 then Some 9 else (if c6 then Some 13 else None)))))) ≡ Some v → is_byte v ≡ true
    by true c2 c3 c4 c5 c6 e = is 92 refl e
    by false true c3 c4 c5 c6 e = is 34 refl e
    by false false true c4 c5 c6 e = is 39 refl e
    by false false false true c5 c6 e = is 10 refl e
    by false false false false true c6 e = is 9 refl e
    by false false false false false true e = is 13 refl e
    by false false false false false false e = absurd (false≢true (ap is_some e))

hex_small : (b v : ℕ) → hex_value b ≡ Some v → v < 16
hex_small b v e = by (nat_le 48 b && nat_le b 57) (nat_le 97 b && nat_le b 102) (nat_le 65 b && nat_le b 70) refl refl refl e
  where
    same : (n : ℕ) → Some n ≡ Some v → n ≡ v
    same n e = ap (λ o. unwrap_or o 0) e

    digit : (nat_le 48 b && nat_le b 57) ≡ true → b - 48 < 16
    digit e = grind (arith, nat_tests)

    lower : (nat_le 97 b && nat_le b 102) ≡ true → b - 87 < 16
    lower e = grind (arith, nat_tests)

    upper : (nat_le 65 b && nat_le b 70) ≡ true → b - 55 < 16
    upper e = grind (arith, nat_tests)

    by : (c1 c2 c3 : Bool) → (nat_le 48 b && nat_le b 57) ≡ c1 → (nat_le 97 b && nat_le b 102) ≡ c2 → (nat_le 65 b && nat_le b 70) ≡ c3 → (if c1 then Some (b - 48) else (if c2 then Some (b - 87) else (if c3 then Some (b - 55) else None))) ≡ Some v → v < 16
    by true c2 c3 e1 e2 e3 e = subst (λ n. n < 16) (same (b - 48) e) (digit e1)
    by false true c3 e1 e2 e3 e = subst (λ n. n < 16) (same (b - 87) e) (lower e2)
    by false false true e1 e2 e3 e = subst (λ n. n < 16) (same (b - 55) e) (upper e3)
    by false false false e1 e2 e3 e = absurd (false≢true (ap is_some e))

small_byte : (m n : ℕ) → m < 16 → n < 16 → is_byte (16 * m + n) ≡ true
small_byte m n h l = let small : 16 * m + n < 256 = omega (arith, h, l) in grind (arith, nat_tests)

item_byte : (quote : ℕ) (text : List ℕ) (v : ℕ) → IsItem quote text v → list_all is_byte text ≡ true → is_byte v ≡ true
item_byte quote text v (plain is) e = (and_parts _ _ e).0
item_byte quote text v (escape {b = b} {v = w} is) e = escaped_byte b w is
item_byte quote text v (hex {h = h} {l = l} {m = m} {n = n} first second) e = small_byte m n (hex_small h m first) (hex_small l n second)

items_bytes : (quote : ℕ) (text values : List ℕ) → AreItems quote text values → list_all is_byte text ≡ true → list_all is_byte values ≡ true
items_bytes quote text values none e = refl
items_bytes quote text values (more {item = item} {text = others} {v = v} {vs = vs} first are) e =
    let parts = and_parts _ _ (sym (list_all-append is_byte item others) ∙ e) in
    rw (item_byte quote item v first parts.0, items_bytes quote others vs are parts.1) refl

-- between two quotes
inside_bytes : (quote : ℕ) (inside : List ℕ) (text : List ℕ) → text ≡ quote ∷ inside ++ quote ∷ [] → list_all is_byte text ≡ true → list_all is_byte inside ≡ true
inside_bytes quote inside text same e =
    let all = subst (λ t. list_all is_byte t ≡ true) same e in
    (and_parts _ _ (sym (list_all-append is_byte inside (quote ∷ [])) ∙ (and_parts _ _ all).1)).0

-- What was read is readable.

word_readable : (text : List ℕ) (rest : List ℕ) → IsWord text rest → IsReadable (word_kind text)
word_readable text rest is = by (spelled keywords text) refl
  where
    by : (o : Option Keyword) → spelled keywords text ≡ o → IsReadable (unwrap_or (option_map TokenKind.Key o) (TokenKind.Ident text))
    by None e = (is.first, is.inside, e)
    by (Some keyword) e = tt

one_readable : (text : List ℕ) (sort : Sort) (rest : List ℕ) (pos : Pos) (others : List Kept) → IsPiece text sort rest → list_all is_byte text ≡ true → AreReadable others → AreReadable (unmarked_piece sort pos text ++ others)
one_readable text sort rest pos others (a_blank is) e are = are
one_readable text sort rest pos others (a_line_comment is) e are = (line_readable text rest is, are)
one_readable text sort rest pos others (a_block_comment is) e are = (is, are)
one_readable text sort rest pos others (a_word is) e are = (word_readable text rest is, are)
one_readable text sort rest pos others (an_integer {value = value} is) e are = ((value, refl, is.fits), are)
one_readable text sort rest pos others (a_float is) e are = (tt, are)
one_readable text sort rest pos others (a_character {value = value} is) e are = (item_byte 39 is.inside value is.item (inside_bytes 39 is.inside text is.spelling e), are)
one_readable text sort rest pos others (a_string {values = values} is) e are = (items_bytes 34 is.inside values is.items (inside_bytes 34 is.inside text is.spelling e), are)
one_readable text sort rest pos others (a_symbol is) e are = (tt, are)

pub cut_readable : (ps : List Piece) (rest : List ℕ) (pos : Pos) → ArePieces ps rest → list_all is_byte (joined ps) ≡ true → AreReadable (unmarked pos ps)
cut_readable [] rest pos are e = tt
cut_readable (p ∷ ps) rest pos are e =
    let parts = and_parts _ _ (sym (list_all-append is_byte p.text (joined ps)) ∙ e) in
    one_readable p.text p.sort (joined ps ++ rest) pos (unmarked (place_after pos p.text) ps) are.0 parts.0 (cut_readable ps rest (place_after pos p.text) are.1 parts.1)
