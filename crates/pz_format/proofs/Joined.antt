-- Which tokens stand behind one another without a blank, and that they do not merge.
use Rattle.std.proofs.Common.{◌≡◌, ℕ, List, [], ◌∷◌, ◌++◌, true, false, refl, sym, ap, arith}
use Rattle.std.specs.Prelude.{◌||◌, ◌==◌, nat_eq}
use Rattle.std.proofs.lemmas.Bool.{false≢true}
use Rattle.std.proofs.lemmas.Bool.Decides.{nat_tests}
use Rattle.pz_syntax.specs.declared.tokens.Symbol.{Symbol}
use Rattle.pz_syntax.specs.declared.tokens.Symbol.TheVariants as s
use Rattle.pz_syntax.specs.declared.tokens.TokenKind.{TokenKind}
use Rattle.pz_syntax.specs.declared.tokens.TokenKind.TheVariants as kind
use Rattle.pz_lexer.specs.Bytes.{is_letter, is_digit, is_word, begins}
use Rattle.pz_lexer.specs.Numbers.{begins_fraction}
use Rattle.pz_format.specs.Spellings.{keyword_text, symbol_text}
use Rattle.pz_format.specs.Writing.{kind_text}
use Rattle.pz_format.specs.Blanks.{holds_on, takes, joins}
use Rattle.pz_format.specs.ReadingBack.{merge}
use Rattle.pz_format.proofs.Symbols.{can_extend, symbol_front, keyword_word, not_extended}
use Rattle.pz_format.proofs.WrittenTokens.{IsReadable, Stands, decimal_front}

pub never : (text : List ℕ) → begins (λ c. false) text ≡ false
never [] = refl
never (b ∷ bs) = refl

letter_apart : (b : ℕ) → is_letter b ≡ true → (nat_eq 61 b ≡ false) × (is_digit b ≡ false)
letter_apart b e = grind (arith, nat_tests)

digit_apart : (b : ℕ) → is_digit b ≡ true → nat_eq 61 b ≡ false
digit_apart b e = grind (arith, nat_tests)

letter_front : (name more : List ℕ) → begins is_letter name ≡ true → (begins (nat_eq 61) (name ++ more) ≡ false) × (begins is_digit (name ++ more) ≡ false)
letter_front [] more e = absurd (false≢true e)
letter_front (b ∷ bs) more e = letter_apart b e

digit_front : (digits more : List ℕ) → begins is_digit digits ≡ true → begins (nat_eq 61) (digits ++ more) ≡ false
digit_front [] more e = absurd (false≢true e)
digit_front (b ∷ bs) more e = digit_apart b e

-- behind an LF or a blank each token ends
pub stands_newline : (x : TokenKind) (more : List ℕ) → Stands x (10 ∷ more)
stands_newline (kind.Ident name) more = refl
stands_newline (kind.Key keyword) more = refl
stands_newline (kind.Int value) more = (refl, refl)
stands_newline kind.Float more = refl
stands_newline (kind.Char value) more = tt
stands_newline (kind.Str values) more = tt
stands_newline (kind.Sym symbol) more = (not_extended symbol).0

pub stands_space : (x : TokenKind) (more : List ℕ) → Stands x (32 ∷ more)
stands_space (kind.Ident name) more = refl
stands_space (kind.Key keyword) more = refl
stands_space (kind.Int value) more = (refl, refl)
stands_space kind.Float more = refl
stands_space (kind.Char value) more = tt
stands_space (kind.Str values) more = tt
stands_space (kind.Sym symbol) more = (not_extended symbol).1

-- what stands at a token that does not hold the next one: a symbol
held_word : (x y : TokenKind) (more : List ℕ) → (holds_on y || takes x y) ≡ true → begins is_word (kind_text y ++ more) ≡ false
held_word x (kind.Ident name) more e = absurd (false≢true e)
held_word x (kind.Key keyword) more e = absurd (false≢true e)
held_word x (kind.Int value) more e = absurd (false≢true e)
held_word x kind.Float more e = absurd (false≢true e)
held_word x (kind.Char value) more e = absurd (false≢true e)
held_word x (kind.Str values) more e = absurd (false≢true e)
held_word x (kind.Sym symbol) more e = (symbol_front symbol more).0

symbol_fraction : (symbol : Symbol) (more : List ℕ) → (symbol ≡ s.Dot → begins is_digit more ≡ false) → begins_fraction (symbol_text symbol ++ more) ≡ false
symbol_fraction s.LeftParen more dot = refl
symbol_fraction s.RightParen more dot = refl
symbol_fraction s.LeftBrace more dot = refl
symbol_fraction s.RightBrace more dot = refl
symbol_fraction s.LeftBracket more dot = refl
symbol_fraction s.RightBracket more dot = refl
symbol_fraction s.Comma more dot = refl
symbol_fraction s.Semicolon more dot = refl
symbol_fraction s.Colon more dot = refl
symbol_fraction s.Assign more dot = refl
symbol_fraction s.Bang more dot = refl
symbol_fraction s.Query more dot = refl
symbol_fraction s.Bar more dot = refl
symbol_fraction s.Dot more dot = dot refl
symbol_fraction s.Plus more dot = refl
symbol_fraction s.Minus more dot = refl
symbol_fraction s.Star more dot = refl
symbol_fraction s.Slash more dot = refl
symbol_fraction s.Equal more dot = refl
symbol_fraction s.Same more dot = refl
symbol_fraction s.Unequal more dot = refl
symbol_fraction s.Distinct more dot = refl
symbol_fraction s.Less more dot = refl
symbol_fraction s.LessEqual more dot = refl
symbol_fraction s.Greater more dot = refl
symbol_fraction s.GreaterEqual more dot = refl
symbol_fraction s.Ampersand more dot = refl

held_fraction : (x y : TokenKind) (more : List ℕ) → (holds_on y || takes x y) ≡ true → (y ≡ kind.Sym s.Dot → begins is_digit more ≡ false) → begins_fraction (kind_text y ++ more) ≡ false
held_fraction x (kind.Ident name) more e dot = absurd (false≢true e)
held_fraction x (kind.Key keyword) more e dot = absurd (false≢true e)
held_fraction x (kind.Int value) more e dot = absurd (false≢true e)
held_fraction x kind.Float more e dot = absurd (false≢true e)
held_fraction x (kind.Char value) more e dot = absurd (false≢true e)
held_fraction x (kind.Str values) more e dot = absurd (false≢true e)
held_fraction x (kind.Sym symbol) more e dot = symbol_fraction symbol more (λ is. dot (ap kind.Sym is))

held_symbol : (x : TokenKind) (y : Symbol) (more : List ℕ) → (holds_on (kind.Sym y) || takes x (kind.Sym y)) ≡ true → (begins (nat_eq 61) (symbol_text y ++ more) ≡ false) × (begins (λ c. c == 47 || c == 42) (symbol_text y ++ more) ≡ false)
held_symbol x s.LeftParen more e = (refl, refl)
held_symbol x s.RightParen more e = (refl, refl)
held_symbol x s.LeftBrace more e = (refl, refl)
held_symbol x s.RightBrace more e = (refl, refl)
held_symbol x s.LeftBracket more e = (refl, refl)
held_symbol x s.RightBracket more e = (refl, refl)
held_symbol x s.Comma more e = (refl, refl)
held_symbol x s.Semicolon more e = (refl, refl)
held_symbol x s.Colon more e = (refl, refl)
held_symbol x s.Assign more e = (refl, refl)
held_symbol x s.Bang more e = (refl, refl)
held_symbol x s.Query more e = (refl, refl)
held_symbol x s.Bar more e = (refl, refl)
held_symbol x s.Dot more e = (refl, refl)
held_symbol x s.Plus more e = (refl, refl)
held_symbol x s.Minus more e = (refl, refl)
held_symbol x s.Star more e = absurd (false≢true e)
held_symbol x s.Slash more e = absurd (false≢true e)
held_symbol x s.Equal more e = absurd (false≢true e)
held_symbol x s.Same more e = absurd (false≢true e)
held_symbol x s.Unequal more e = (refl, refl)
held_symbol x s.Distinct more e = (refl, refl)
held_symbol x s.Less more e = (refl, refl)
held_symbol x s.LessEqual more e = (refl, refl)
held_symbol x s.Greater more e = (refl, refl)
held_symbol x s.GreaterEqual more e = (refl, refl)
held_symbol x s.Ampersand more e = (refl, refl)

held_extends : (x y : TokenKind) (more : List ℕ) → (holds_on y || takes x y) ≡ true → (begins (nat_eq 61) (kind_text y ++ more) ≡ false) × (begins (λ c. c == 47 || c == 42) (kind_text y ++ more) ≡ false)
held_extends x (kind.Ident name) more e = absurd (false≢true e)
held_extends x (kind.Key keyword) more e = absurd (false≢true e)
held_extends x (kind.Int value) more e = absurd (false≢true e)
held_extends x kind.Float more e = absurd (false≢true e)
held_extends x (kind.Char value) more e = absurd (false≢true e)
held_extends x (kind.Str values) more e = absurd (false≢true e)
held_extends x (kind.Sym symbol) more e = held_symbol x symbol more e

bang_symbol : (y : Symbol) (more : List ℕ) → merge (kind.Sym s.Bang) (kind.Sym y) ≡ false → begins (nat_eq 61) (symbol_text y ++ more) ≡ false
bang_symbol s.LeftParen more e = refl
bang_symbol s.RightParen more e = refl
bang_symbol s.LeftBrace more e = refl
bang_symbol s.RightBrace more e = refl
bang_symbol s.LeftBracket more e = refl
bang_symbol s.RightBracket more e = refl
bang_symbol s.Comma more e = refl
bang_symbol s.Semicolon more e = refl
bang_symbol s.Colon more e = refl
bang_symbol s.Assign more e = refl
bang_symbol s.Bang more e = refl
bang_symbol s.Query more e = refl
bang_symbol s.Bar more e = refl
bang_symbol s.Dot more e = refl
bang_symbol s.Plus more e = refl
bang_symbol s.Minus more e = refl
bang_symbol s.Star more e = refl
bang_symbol s.Slash more e = refl
bang_symbol s.Equal more e = absurd (false≢true (sym e))
bang_symbol s.Same more e = absurd (false≢true (sym e))
bang_symbol s.Unequal more e = refl
bang_symbol s.Distinct more e = refl
bang_symbol s.Less more e = refl
bang_symbol s.LessEqual more e = refl
bang_symbol s.Greater more e = refl
bang_symbol s.GreaterEqual more e = refl
bang_symbol s.Ampersand more e = refl

-- behind `!`
bang_front : (y : TokenKind) (more : List ℕ) → merge (kind.Sym s.Bang) y ≡ false → IsReadable y → begins (nat_eq 61) (kind_text y ++ more) ≡ false
bang_front (kind.Ident name) more e is = (letter_front name more is.0).0
bang_front (kind.Key keyword) more e is = (letter_front (keyword_text keyword) more (keyword_word keyword).0).0
bang_front (kind.Int value) more e is = digit_front (kind_text (kind.Int value)) more (decimal_front value is)
bang_front kind.Float more e is = refl
bang_front (kind.Char value) more e is = refl
bang_front (kind.Str values) more e is = refl
bang_front (kind.Sym symbol) more e is = bang_symbol symbol more e

-- behind `.`
pub dot_front : (y : TokenKind) (more : List ℕ) → merge (kind.Sym s.Dot) y ≡ false → IsReadable y → begins is_digit (kind_text y ++ more) ≡ false
dot_front (kind.Ident name) more e is = (letter_front name more is.0).1
dot_front (kind.Key keyword) more e is = (letter_front (keyword_text keyword) more (keyword_word keyword).0).1
dot_front (kind.Int value) more e is = absurd (false≢true (sym e))
dot_front kind.Float more e is = absurd (false≢true (sym e))
dot_front (kind.Char value) more e is = refl
dot_front (kind.Str values) more e is = refl
dot_front (kind.Sym symbol) more e is = (symbol_front symbol more).1

symbol_joined : (x : Symbol) (y : TokenKind) (more : List ℕ) → joins (kind.Sym x) y ≡ true → merge (kind.Sym x) y ≡ false → IsReadable y → begins (can_extend x) (kind_text y ++ more) ≡ false
symbol_joined s.LeftParen y more j e is = never (kind_text y ++ more)
symbol_joined s.RightParen y more j e is = never (kind_text y ++ more)
symbol_joined s.LeftBrace y more j e is = never (kind_text y ++ more)
symbol_joined s.RightBrace y more j e is = never (kind_text y ++ more)
symbol_joined s.LeftBracket y more j e is = never (kind_text y ++ more)
symbol_joined s.RightBracket y more j e is = never (kind_text y ++ more)
symbol_joined s.Comma y more j e is = never (kind_text y ++ more)
symbol_joined s.Semicolon y more j e is = never (kind_text y ++ more)
symbol_joined s.Colon y more j e is = (held_extends (kind.Sym s.Colon) y more j).0
symbol_joined s.Assign y more j e is = never (kind_text y ++ more)
symbol_joined s.Bang y more j e is = bang_front y more e is
symbol_joined s.Query y more j e is = never (kind_text y ++ more)
symbol_joined s.Bar y more j e is = never (kind_text y ++ more)
symbol_joined s.Dot y more j e is = never (kind_text y ++ more)
symbol_joined s.Plus y more j e is = never (kind_text y ++ more)
symbol_joined s.Minus y more j e is = never (kind_text y ++ more)
symbol_joined s.Star y more j e is = never (kind_text y ++ more)
symbol_joined s.Slash y more j e is = (held_extends (kind.Sym s.Slash) y more j).1
symbol_joined s.Equal y more j e is = (held_extends (kind.Sym s.Equal) y more j).0
symbol_joined s.Same y more j e is = never (kind_text y ++ more)
symbol_joined s.Unequal y more j e is = (held_extends (kind.Sym s.Unequal) y more j).0
symbol_joined s.Distinct y more j e is = never (kind_text y ++ more)
symbol_joined s.Less y more j e is = (held_extends (kind.Sym s.Less) y more j).0
symbol_joined s.LessEqual y more j e is = never (kind_text y ++ more)
symbol_joined s.Greater y more j e is = (held_extends (kind.Sym s.Greater) y more j).0
symbol_joined s.GreaterEqual y more j e is = never (kind_text y ++ more)
symbol_joined s.Ampersand y more j e is = never (kind_text y ++ more)

-- a token ends before one that is written behind it with no blank between
pub stands_joined : (x y : TokenKind) (more : List ℕ) → joins x y ≡ true → merge x y ≡ false → IsReadable y → (y ≡ kind.Sym s.Dot → begins is_digit more ≡ false) → Stands x (kind_text y ++ more)
stands_joined (kind.Ident name) y more j e is dot = held_word (kind.Ident name) y more j
stands_joined (kind.Key keyword) y more j e is dot = held_word (kind.Key keyword) y more j
stands_joined (kind.Int value) y more j e is dot = (held_word (kind.Int value) y more j, held_fraction (kind.Int value) y more j dot)
stands_joined kind.Float y more j e is dot = held_word kind.Float y more j
stands_joined (kind.Char value) y more j e is dot = tt
stands_joined (kind.Str values) y more j e is dot = tt
stands_joined (kind.Sym symbol) y more j e is dot = symbol_joined symbol y more j e is
