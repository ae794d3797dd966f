-- Tokens as they are written, before a text that does not make them longer.
use Rattle.std.proofs.Common.{◌≡◌, ℕ, zero, suc, ◌+◌, ◌-◌, ◌*◌, ◌/◌, ◌%◌, ◌^◌, ◌<◌, ◌≤◌, List, [], ◌∷◌, ◌++◌, Bool, true, false, Some, None, refl, sym, ◌∙◌, ap, ap₂, subst, arith}
use Rattle.std.specs.Prelude.{ℤ, pos, ◌||◌, ◌&&◌, ◌==◌, nat_le, if◌then◌else◌, codes}
use Rattle.std.specs.List.{list_all, flat_map}
use Rattle.std.specs.Fmt.{decimal, signed_decimal}
use Rattle.std.proofs.lemmas.Fmt.{decimal_by_steps}
use Rattle.std.proofs.lemmas.Bool.{or_parts, and_parts, eqb-true}
use Rattle.std.proofs.lemmas.Bool.Decides.{nat_tests}
use Rattle.std.proofs.lemmas.List.{append-nil}
use Rattle.std.proofs.lemmas.List.Folds.{list_all-append}
use Rattle.std.proofs.lemmas.List.Sums.{fold-append}
use Rattle.std.proofs.Math.Nat.{mod-lt, div-add-mod}
use Rattle.pz_syntax.specs.declared.tokens.TokenKind.{TokenKind}
use Rattle.pz_syntax.specs.declared.tokens.TokenKind.TheVariants as kind
use Rattle.pz_lexer.specs.declared.sorts.Sort.{Sort}
use Rattle.pz_lexer.specs.Bytes.{is_letter, is_digit, is_word, begins}
use Rattle.pz_lexer.specs.Spellings.{spelled}
use Rattle.pz_lexer.specs.Words.{keywords, word_kind}
use Rattle.pz_lexer.specs.Numbers.{AreDigits, value_of, begins_fraction}
use Rattle.pz_lexer.specs.Quoted.{escaped, hex_value, IsItem, plain, escape, hex, AreItems, none, more}
use Rattle.pz_lexer.specs.Pieces.{IsPiece, a_word, an_integer, a_float, a_character, a_string}
use Rattle.pz_lexer.proofs.Runs.{begins-append}
use Rattle.pz_format.specs.Spellings.{keyword_text}
use Rattle.pz_format.specs.Writing.{hex_digit, item_text, kind_text}
use Rattle.pz_format.specs.ReadingBack.{is_byte}
use Rattle.pz_format.proofs.Symbols.{can_extend, symbol_piece, keyword_word}

-- what is known of a token that was read
abbrev pub IsReadable : TokenKind → Type 0
IsReadable (kind.Ident name) = (begins is_letter name ≡ true) × (list_all is_word name ≡ true) × (spelled keywords name ≡ None)
IsReadable (kind.Key keyword) = Unit {0}
IsReadable (kind.Int value) = (n : ℕ) × (value ≡ pos n) × (n < 2 ^ 63)
IsReadable kind.Float = Unit {0}
IsReadable (kind.Char value) = is_byte value ≡ true
IsReadable (kind.Str values) = list_all is_byte values ≡ true
IsReadable (kind.Sym symbol) = Unit {0}

-- such a token ends before this text
abbrev pub Stands : TokenKind → List ℕ → Type 0
Stands (kind.Ident name) rest = begins is_word rest ≡ false
Stands (kind.Key keyword) rest = begins is_word rest ≡ false
Stands (kind.Int value) rest = (begins is_word rest ≡ false) × (begins_fraction rest ≡ false)
Stands kind.Float rest = begins is_word rest ≡ false
Stands (kind.Char value) rest = Unit {0}
Stands (kind.Str values) rest = Unit {0}
Stands (kind.Sym symbol) rest = begins (can_extend symbol) rest ≡ false

-- Numbers.

abbrev Reads : ℕ → List ℕ → Type 0
Reads n digits = AreDigits digits × (value_of digits ≡ n)

one_digit : (d : ℕ) → d < 10 → is_digit (48 + d) ≡ true
one_digit d small = grind (arith, nat_tests)

decimal_reads : (n : ℕ) → n < 2 ^ 64 → Reads n (decimal n)
decimal_reads n small = decimal_by_steps Reads one others n small
  where
    one : (n : ℕ) → n < 10 → Reads n ((48 + n) ∷ [])
    one n h = (record { some = one_digit n h; all = ap (λ t. t && true) (one_digit n h) }, omega arith)

    others : (n : ℕ) (digits : List ℕ) → 10 ≤ n → Reads (n / 10) digits → Reads n (digits ++ ((48 + n % 10) ∷ []))
    others n digits h is =
        let last = one_digit (n % 10) (mod-lt n (omega arith)) in (
          record {
            some = begins-append is_digit digits ((48 + n % 10) ∷ []) is.0.some;
            all = list_all-append is_digit digits ((48 + n % 10) ∷ []) ∙ ap₂ (λ x y. x && (y && true)) is.0.all last;
          },
          fold-append (λ m d. 10 * m + (d - 48)) 0 digits ((48 + n % 10) ∷ []) ∙ ap (λ m. 10 * m + ((48 + n % 10) - 48)) is.1 ∙ omega (arith, div-add-mod n 10),
        )

wide : (n : ℕ) → n < 2 ^ 63 → n < 2 ^ 64
wide n h = omega (arith, h)

pub decimal_front : (value : ℤ) → IsReadable (kind.Int value) → begins is_digit (kind_text (kind.Int value)) ≡ true
decimal_front value is = subst (λ v. begins is_digit (signed_decimal v) ≡ true) (sym is.1) (decimal_reads is.0 (wide is.0 is.2)).0.some

integer_piece : (n : ℕ) (rest : List ℕ) → n < 2 ^ 63 → begins is_word rest ≡ false → begins_fraction rest ≡ false → IsPiece (decimal n) (Sort.Token (kind.Int (pos n))) rest
integer_piece n rest small word fraction =
    let reads = decimal_reads n (wide n small) in
    an_integer (record { digits = reads.0; whole = word; no_fraction = fraction; stands_for = reads.1; fits = small })

-- Items.

hex_back : (d : ℕ) → d < 16 → hex_value (hex_digit d) ≡ Some d
hex_back zero small = refl
hex_back (suc zero) small = refl
hex_back (suc (suc zero)) small = refl
hex_back (suc (suc (suc zero))) small = refl
hex_back (suc (suc (suc (suc zero)))) small = refl
hex_back (suc (suc (suc (suc (suc zero))))) small = refl
hex_back (suc (suc (suc (suc (suc (suc zero)))))) small = refl
hex_back (suc (suc (suc (suc (suc (suc (suc zero))))))) small = refl
hex_back (suc (suc (suc (suc (suc (suc (suc (suc zero)))))))) small = refl
hex_back (suc (suc (suc (suc (suc (suc (suc (suc (suc zero))))))))) small = refl
hex_back (suc (suc (suc (suc (suc (suc (suc (suc (suc (suc zero)))))))))) small = refl
hex_back (suc (suc (suc (suc (suc (suc (suc (suc (suc (suc (suc zero))))))))))) small = refl
hex_back (suc (suc (suc (suc (suc (suc (suc (suc (suc (suc (suc (suc zero)))))))))))) small = refl
hex_back (suc (suc (suc (suc (suc (suc (suc (suc (suc (suc (suc (suc (suc zero))))))))))))) small = refl
hex_back (suc (suc (suc (suc (suc (suc (suc (suc (suc (suc (suc (suc (suc (suc zero)))))))))))))) small = refl
hex_back (suc (suc (suc (suc (suc (suc (suc (suc (suc (suc (suc (suc (suc (suc (suc zero))))))))))))))) small = refl
hex_back (suc (suc (suc (suc (suc (suc (suc (suc (suc (suc (suc (suc (suc (suc (suc (suc d)))))))))))))))) small = absurd (omega (arith, small))

escaped_back : (quote b : ℕ) → escaped quote ≡ Some quote → (b == 92 || b == quote) ≡ true → escaped b ≡ Some b
escaped_back quote b is e = by (b == 92) refl e
  where
    by : (t : Bool) → (b == 92) ≡ t → (t || b == quote) ≡ true → escaped b ≡ Some b
    by true same e = subst (λ n. escaped n ≡ Some n) (sym (eqb-true b 92 same)) refl
    by false same e = subst (λ n. escaped n ≡ Some n) (sym (eqb-true b quote e)) is

plain_byte : (b : ℕ) → (nat_le 32 b && nat_le b 126) ≡ true → (b == 10) ≡ false
plain_byte b e = grind (arith, nat_tests)

halves : (b : ℕ) → is_byte b ≡ true → (b / 16 < 16) × (b % 16 < 16)
halves b e =
    let small : b < 256 = grind (arith, nat_tests) in
    (omega (arith, div-add-mod b 16, small), mod-lt b (omega arith))

item_back : (quote b : ℕ) → escaped quote ≡ Some quote → is_byte b ≡ true → IsItem quote (item_text quote b) b
item_back quote b is small = by (b == 92 || b == quote) (nat_le 32 b && nat_le b 126) refl refl
  where
    by : (s t : Bool) → (b == 92 || b == quote) ≡ s → (nat_le 32 b && nat_le b 126) ≡ t → IsItem quote (if s then 92 ∷ b ∷ [] else (if t then b ∷ [] else 92 ∷ 120 ∷ hex_digit (b / 16) ∷ hex_digit (b % 16) ∷ [])) b
    by true t e f = escape (escaped_back quote b is e)
    by false true e f = let p = or_parts (b == 92) (b == quote) e in plain (rw (plain_byte b f, p.0, p.1) refl)
    by false false e f =
        let h = halves b small in
        subst (λ v. IsItem quote (92 ∷ 120 ∷ hex_digit (b / 16) ∷ hex_digit (b % 16) ∷ []) v) (div-add-mod b 16) (hex (hex_back (b / 16) h.0) (hex_back (b % 16) h.1))

items_back : (quote : ℕ) (values : List ℕ) → escaped quote ≡ Some quote → list_all is_byte values ≡ true → AreItems quote (flat_map (item_text quote) values) values
items_back quote [] is small = none
items_back quote (v ∷ vs) is small =
    let p = and_parts _ _ small in
    more (item_back quote v is p.0) (items_back quote vs is p.1)

-- Words.

word_piece : (text rest : List ℕ) (is_kind : TokenKind) → begins is_letter text ≡ true → list_all is_word text ≡ true → word_kind text ≡ is_kind → begins is_word rest ≡ false → IsPiece text (Sort.Token is_kind) rest
word_piece text rest is_kind first inside same whole =
    subst (λ k. IsPiece text (Sort.Token k) rest) same (a_word (record { first = first; inside = inside; whole = whole }))

-- a token is read again as it was written
pub kind_piece : (x : TokenKind) (rest : List ℕ) → IsReadable x → Stands x rest → IsPiece (kind_text x) (Sort.Token x) rest
kind_piece (kind.Ident name) rest is stands = word_piece name rest (kind.Ident name) is.0 is.1 (rw is.2 refl) stands
kind_piece (kind.Key keyword) rest is stands =
    let word = keyword_word keyword in
    word_piece (keyword_text keyword) rest (kind.Key keyword) word.0 word.1 (rw word.2 refl) stands
kind_piece (kind.Int value) rest is stands =
    subst (λ v. IsPiece (signed_decimal v) (Sort.Token (kind.Int v)) rest) (sym is.1) (integer_piece is.0 rest is.2 stands.0 stands.1)
kind_piece kind.Float rest is stands =
    a_float (record { front = codes "0"; fraction = codes "0"; spelling = refl; digits = record { some = refl; all = refl }; decimals = record { some = refl; all = refl }; whole = stands })
kind_piece (kind.Char value) rest is stands =
    a_character (record {
      inside = flat_map (item_text 39) (value ∷ []);
      spelling = refl;
      item = subst (λ t. IsItem 39 t value) (sym (append-nil (item_text 39 value))) (item_back 39 value refl is);
    })
kind_piece (kind.Str values) rest is stands = a_string (record { inside = flat_map (item_text 34) values; spelling = refl; items = items_back 34 values refl is })
kind_piece (kind.Sym symbol) rest is stands = symbol_piece symbol rest stands
