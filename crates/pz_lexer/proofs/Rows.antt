-- Texts and their tokens or refusals, computed.
use Rattle.std.proofs.Common.{◌≡◌, ℕ, List, [], ◌∷◌, map, Bool, true, false, Option, Some, None, Result, Ok, Err, refl}
use Rattle.std.specs.Prelude.{codes, pos}
use Rattle.pz_syntax.specs.declared.tokens.TokenKind.{TokenKind}
use Rattle.pz_syntax.specs.declared.tokens.TokenKind.TheVariants.{Ident, Key, Int, Float, Char, Str, Sym}
use Rattle.pz_syntax.specs.declared.tokens.Token.{Token}
use Rattle.pz_syntax.specs.declared.tokens.Keyword.{Keyword}
use Rattle.pz_syntax.specs.declared.tokens.Symbol.{Symbol}
use Rattle.pz_syntax.specs.declared.tokens.Pos.{Pos}
use Rattle.pz_lexer.specs.declared.error.LexError.{LexError}
use Rattle.pz_lexer.specs.declared.kept.Piece.{Piece as Kept}
use Rattle.pz_lexer.specs.devices.Twin.{lexed, pieced}

abbrev place : ℕ → ℕ → Pos
place line column = record { line = line; column = column }

-- a token that is no head, at a line and a column
abbrev plain : ℕ → ℕ → TokenKind → Token
plain line column kind = record { mark = record { kind = kind; head = false }; pos = place line column }

abbrev kinds_of : Result (List Token) LexError → Option (List TokenKind)
kinds_of (Ok tokens) = Some (map (λ t. t.mark.kind) tokens)
kinds_of (Err error) = None

abbrev heads_of : Result (List Token) LexError → Option (List Bool)
heads_of (Ok tokens) = Some (map (λ t. t.mark.head) tokens)
heads_of (Err error) = None

abbrev kinds_in : List ℕ → Option (List TokenKind)
kinds_in text = kinds_of (lexed text)

abbrev heads_in : List ℕ → Option (List Bool)
heads_in text = heads_of (lexed text)

assignment : lexed (codes "x:=1") ≡ Ok (plain 1 1 (Ident (codes "x")) ∷ plain 1 2 (Sym Symbol.Assign) ∷ plain 1 4 (Int (pos 1)) ∷ [])
assignment = refl

no_text : lexed (codes "") ≡ Ok ([])
no_text = refl

each_keyword : kinds_in (codes "data process cluster class system extends ports messages variables init methods instances channels skip delay par and rap sel or les if then else fi while do od abort interrupt with new self nil true false return currentTime super native import importlib") ≡ Some ((Key Keyword.Data) ∷ (Key Keyword.Process) ∷ (Key Keyword.Cluster) ∷ (Key Keyword.Class) ∷ (Key Keyword.System) ∷ (Key Keyword.Extends) ∷ (Key Keyword.Ports) ∷ (Key Keyword.Messages) ∷ (Key Keyword.Variables) ∷ (Key Keyword.Init) ∷ (Key Keyword.Methods) ∷ (Key Keyword.Instances) ∷ (Key Keyword.Channels) ∷ (Key Keyword.Skip) ∷ (Key Keyword.Delay) ∷ (Key Keyword.Par) ∷ (Key Keyword.And) ∷ (Key Keyword.Rap) ∷ (Key Keyword.Sel) ∷ (Key Keyword.Or) ∷ (Key Keyword.Les) ∷ (Key Keyword.If) ∷ (Key Keyword.Then) ∷ (Key Keyword.Else) ∷ (Key Keyword.Fi) ∷ (Key Keyword.While) ∷ (Key Keyword.Do) ∷ (Key Keyword.Od) ∷ (Key Keyword.Abort) ∷ (Key Keyword.Interrupt) ∷ (Key Keyword.With) ∷ (Key Keyword.New) ∷ (Key Keyword.Me) ∷ (Key Keyword.Nil) ∷ (Key Keyword.True) ∷ (Key Keyword.False) ∷ (Key Keyword.Return) ∷ (Key Keyword.CurrentTime) ∷ (Key Keyword.Super) ∷ (Key Keyword.Native) ∷ (Key Keyword.Import) ∷ (Key Keyword.ImportLib) ∷ [])
each_keyword = refl

each_symbol : kinds_in (codes "( ) { } [ ] , ; : := ! ? | . + - * / = == != !== < <= > >= &") ≡ Some ((Sym Symbol.LeftParen) ∷ (Sym Symbol.RightParen) ∷ (Sym Symbol.LeftBrace) ∷ (Sym Symbol.RightBrace) ∷ (Sym Symbol.LeftBracket) ∷ (Sym Symbol.RightBracket) ∷ (Sym Symbol.Comma) ∷ (Sym Symbol.Semicolon) ∷ (Sym Symbol.Colon) ∷ (Sym Symbol.Assign) ∷ (Sym Symbol.Bang) ∷ (Sym Symbol.Query) ∷ (Sym Symbol.Bar) ∷ (Sym Symbol.Dot) ∷ (Sym Symbol.Plus) ∷ (Sym Symbol.Minus) ∷ (Sym Symbol.Star) ∷ (Sym Symbol.Slash) ∷ (Sym Symbol.Equal) ∷ (Sym Symbol.Same) ∷ (Sym Symbol.Unequal) ∷ (Sym Symbol.Distinct) ∷ (Sym Symbol.Less) ∷ (Sym Symbol.LessEqual) ∷ (Sym Symbol.Greater) ∷ (Sym Symbol.GreaterEqual) ∷ (Sym Symbol.Ampersand) ∷ [])
each_symbol = refl

words_near_keywords : kinds_in (codes "dat datax Data _ a1_") ≡ Some ((Ident (codes "dat")) ∷ (Ident (codes "datax")) ∷ (Ident (codes "Data")) ∷ (Ident (codes "_")) ∷ (Ident (codes "a1_")) ∷ [])
words_near_keywords = refl

-- the longest symbol is taken at each place
longest_symbols : kinds_in (codes "!==!=!::===<==>==") ≡ Some ((Sym Symbol.Distinct) ∷ (Sym Symbol.Unequal) ∷ (Sym Symbol.Bang) ∷ (Sym Symbol.Colon) ∷ (Sym Symbol.Assign) ∷ (Sym Symbol.Same) ∷ (Sym Symbol.LessEqual) ∷ (Sym Symbol.Equal) ∷ (Sym Symbol.GreaterEqual) ∷ (Sym Symbol.Equal) ∷ [])
longest_symbols = refl

numbers : kinds_in (codes "0 007 9223372036854775807 1.5 12.034") ≡ Some ((Int (pos 0)) ∷ (Int (pos 7)) ∷ (Int (pos 9223372036854775807)) ∷ Float ∷ Float ∷ [])
numbers = refl

dots : kinds_in (codes "1. 1..2 1.2.3 1.x") ≡ Some ((Int (pos 1)) ∷ (Sym Symbol.Dot) ∷ (Int (pos 1)) ∷ (Sym Symbol.Dot) ∷ (Sym Symbol.Dot) ∷ (Int (pos 2)) ∷ Float ∷ (Sym Symbol.Dot) ∷ (Int (pos 3)) ∷ (Int (pos 1)) ∷ (Sym Symbol.Dot) ∷ (Ident (codes "x")) ∷ [])
dots = refl

-- the bound is one of integers
large_float : kinds_in (codes "9223372036854775808.0") ≡ Some (Float ∷ [])
large_float = refl

too_large : lexed (codes "9223372036854775808") ≡ Err (LexError.BadNumber (place 1 1))
too_large = refl

lettered : lexed (codes "a 1x") ≡ Err (LexError.BadNumber (place 1 3))
lettered = refl

underscored : lexed (codes "1_") ≡ Err (LexError.BadNumber (place 1 1))
underscored = refl

lettered_float : lexed (codes "1.5x") ≡ Err (LexError.BadNumber (place 1 1))
lettered_float = refl

large_and_lettered : lexed (codes "  99999999999999999999x") ≡ Err (LexError.BadNumber (place 1 3))
large_and_lettered = refl

large_before_dot : lexed (codes "9223372036854775808.") ≡ Err (LexError.BadNumber (place 1 1))
large_before_dot = refl

comments : kinds_in (codes "a // b\nc /* d\n * / e */ f /**/ g //") ≡ Some ((Ident (codes "a")) ∷ (Ident (codes "c")) ∷ (Ident (codes "f")) ∷ (Ident (codes "g")) ∷ [])
comments = refl

-- a block comment ends with the next `*/`, and a line comment holds `/*`
comment_stars : kinds_in (codes "/***/a/*//*/b//*\nc") ≡ Some ((Ident (codes "a")) ∷ (Ident (codes "b")) ∷ (Ident (codes "c")) ∷ [])
comment_stars = refl

open_comment : lexed (codes "/* a") ≡ Err (LexError.OpenComment (place 1 1))
open_comment = refl

half_closed : lexed (codes "a /*/") ≡ Err (LexError.OpenComment (place 1 3))
half_closed = refl

open_after_line : lexed (codes "a\n /* b *") ≡ Err (LexError.OpenComment (place 2 2))
open_after_line = refl

lines : lexed (codes "a\r\nb\n\tc") ≡ Ok (plain 1 1 (Ident (codes "a")) ∷ plain 2 1 (Ident (codes "b")) ∷ plain 3 2 (Ident (codes "c")) ∷ [])
lines = refl

columns_of_returns : lexed (codes "\r\ra") ≡ Ok (plain 1 3 (Ident (codes "a")) ∷ [])
columns_of_returns = refl

-- any byte may stand in a comment
columns_of_bytes : lexed ((47 ∷ 42 ∷ 255 ∷ 254 ∷ 42 ∷ 47 ∷ 97 ∷ [])) ≡ Ok (plain 1 7 (Ident (codes "a")) ∷ [])
columns_of_bytes = refl

byte_in_line_comment : kinds_in ((47 ∷ 47 ∷ 255 ∷ 10 ∷ 97 ∷ [])) ≡ Some ((Ident (codes "a")) ∷ [])
byte_in_line_comment = refl

byte_in_string : kinds_in ((34 ∷ 255 ∷ 0 ∷ 34 ∷ [])) ≡ Some ((Str (255 ∷ 0 ∷ [])) ∷ [])
byte_in_string = refl

byte_alone : lexed ((255 ∷ [])) ≡ Err (LexError.BadByte (place 1 1))
byte_alone = refl

bad_byte : lexed (codes "x $") ≡ Err (LexError.BadByte (place 1 3))
bad_byte = refl

-- the refusal is the first in the text
bad_bytes_first : lexed (codes "x $ \"") ≡ Err (LexError.BadByte (place 1 3))
bad_bytes_first = refl

bad_backslash : lexed (codes "a\n\\") ≡ Err (LexError.BadByte (place 2 1))
bad_backslash = refl

no_items : kinds_in (codes "\"\"") ≡ Some ((Str ([])) ∷ [])
no_items = refl

string_escapes : kinds_in (codes "\"\\\\\\\"\\'\\n\\t\\r\\x41\\xfF\"") ≡ Some ((Str (92 ∷ 34 ∷ 39 ∷ 10 ∷ 9 ∷ 13 ∷ 65 ∷ 255 ∷ [])) ∷ [])
string_escapes = refl

plain_items : kinds_in (codes "\"a'/*\"") ≡ Some ((Str (97 ∷ 39 ∷ 47 ∷ 42 ∷ [])) ∷ [])
plain_items = refl

characters : kinds_in (codes "'a' '\"' '\\'' '\\\\' '\\n' '\\t' '\\r' '\\x0a'") ≡ Some ((Char 97) ∷ (Char 34) ∷ (Char 39) ∷ (Char 92) ∷ (Char 10) ∷ (Char 9) ∷ (Char 13) ∷ (Char 10) ∷ [])
characters = refl

open_string : lexed (codes "\"a") ≡ Err (LexError.OpenString (place 1 1))
open_string = refl

string_cut_by_line : lexed (codes "a \"b\n\"") ≡ Err (LexError.OpenString (place 1 3))
string_cut_by_line = refl

string_closed_by_escape : lexed (codes "\"a\\\"") ≡ Err (LexError.OpenString (place 1 1))
string_closed_by_escape = refl

unknown_escape : lexed (codes "\"a\\q\"") ≡ Err (LexError.BadByte (place 1 3))
unknown_escape = refl

escape_cut_by_end : lexed (codes "\"a\\") ≡ Err (LexError.BadByte (place 1 3))
escape_cut_by_end = refl

escape_cut_by_line : lexed (codes "\"\\\n") ≡ Err (LexError.BadByte (place 1 2))
escape_cut_by_line = refl

hex_cut_by_end : lexed (codes "\"\\x4") ≡ Err (LexError.BadByte (place 1 2))
hex_cut_by_end = refl

hex_cut_by_line : lexed (codes "\"\\x4\n1\"") ≡ Err (LexError.BadByte (place 1 2))
hex_cut_by_line = refl

hex_of_no_digit : lexed (codes "\"\\x4g\"") ≡ Err (LexError.BadByte (place 1 2))
hex_of_no_digit = refl

hex_closed : lexed (codes "\"\\x4\"") ≡ Err (LexError.BadByte (place 1 2))
hex_closed = refl

empty_character : lexed (codes "''") ≡ Err (LexError.OpenString (place 1 1))
empty_character = refl

two_items : lexed (codes "'ab'") ≡ Err (LexError.OpenString (place 1 1))
two_items = refl

second_escape : lexed (codes "'a\\q'") ≡ Err (LexError.OpenString (place 1 1))
second_escape = refl

open_character : lexed (codes "'a") ≡ Err (LexError.OpenString (place 1 1))
open_character = refl

character_cut_by_line : lexed (codes " '\n'") ≡ Err (LexError.OpenString (place 1 2))
character_cut_by_line = refl

character_alone : lexed (codes "'") ≡ Err (LexError.OpenString (place 1 1))
character_alone = refl

character_of_bad_escape : lexed (codes "'\\q'") ≡ Err (LexError.BadByte (place 1 2))
character_of_bad_escape = refl

character_escape_cut : lexed (codes "'\\") ≡ Err (LexError.BadByte (place 1 2))
character_escape_cut = refl

call_with_two_groups : heads_in (codes "b()() skip") ≡ Some (true ∷ false ∷ false ∷ false ∷ false ∷ false ∷ [])
call_with_two_groups = refl

call_with_one_group : heads_in (codes "x f(1)") ≡ Some (false ∷ false ∷ false ∷ false ∷ false ∷ [])
call_with_one_group = refl

typed : heads_in (codes "x : Integer") ≡ Some (true ∷ false ∷ false ∷ [])
typed = refl

start : heads_in (codes "init a()()") ≡ Some (false ∷ true ∷ false ∷ false ∷ false ∷ false ∷ [])
start = refl

init_with_result : heads_in (codes "init() : Integer") ≡ Some (true ∷ false ∷ false ∷ false ∷ false ∷ [])
init_with_result = refl

keywords_are_none : heads_in (codes "skip () () self : x") ≡ Some (false ∷ false ∷ false ∷ false ∷ false ∷ false ∷ false ∷ false ∷ [])
keywords_are_none = refl

nested : heads_in (codes "a(b(c))(d()())") ≡ Some (true ∷ false ∷ false ∷ false ∷ false ∷ false ∷ false ∷ false ∷ true ∷ false ∷ false ∷ false ∷ false ∷ false ∷ [])
nested = refl

-- round brackets alone count
other_brackets : heads_in (codes "a([)(]") ≡ Some (true ∷ false ∷ false ∷ false ∷ false ∷ false ∷ [])
other_brackets = refl

without_match : heads_in (codes "a((b)( c(") ≡ Some (false ∷ false ∷ false ∷ false ∷ false ∷ false ∷ false ∷ false ∷ [])
without_match = refl

closed_too_often : heads_in (codes "x)a()(") ≡ Some (false ∷ false ∷ true ∷ false ∷ false ∷ false ∷ [])
closed_too_often = refl

-- Tokens and comments.

comments_kept : pieced (codes "a // b \t\r\n/* c \n */ d") ≡ Ok (Kept.Token (plain 1 1 (Ident (codes "a"))) ∷ Kept.Line (codes "// b") ∷ Kept.Block (codes "/* c \n */") ∷ Kept.Token (plain 3 5 (Ident (codes "d"))) ∷ [])
comments_kept = refl

empty_comments : pieced (codes "//\n/**/// \r") ≡ Ok (Kept.Line (codes "//") ∷ Kept.Block (codes "/**/") ∷ Kept.Line (codes "//") ∷ [])
empty_comments = refl

-- a comment parts no head from what makes it one
head_past_comments : pieced (codes "p /**/ : //\nP") ≡ Ok (Kept.Token (record { mark = record { kind = Ident (codes "p"); head = true }; pos = place 1 1 }) ∷ Kept.Block (codes "/**/") ∷ Kept.Token (plain 1 8 (Sym Symbol.Colon)) ∷ Kept.Line (codes "//") ∷ Kept.Token (plain 2 1 (Ident (codes "P"))) ∷ [])
head_past_comments = refl

comment_refused : pieced (codes "a // b\n/* c") ≡ Err (LexError.OpenComment (place 2 1))
comment_refused = refl
