-- Symbols and keywords as they are written, before any text that does not make them longer.
use Rattle.std.proofs.Common.{◌≡◌, ℕ, List, [], ◌∷◌, ◌++◌, Bool, true, false, refl, subst}
use Rattle.std.specs.Prelude.{◌||◌, ◌==◌, nat_eq, Some}
use Rattle.std.specs.List.{list_all}
use Rattle.std.proofs.lemmas.Bool.{or_parts}
use Rattle.pz_syntax.specs.declared.tokens.Keyword.{Keyword}
use Rattle.pz_syntax.specs.declared.tokens.Keyword.TheVariants as k
use Rattle.pz_syntax.specs.declared.tokens.Symbol.{Symbol}
use Rattle.pz_syntax.specs.declared.tokens.Symbol.TheVariants as s
use Rattle.pz_syntax.specs.declared.tokens.TokenKind.{TokenKind}
use Rattle.pz_lexer.specs.declared.sorts.Sort.{Sort}
use Rattle.pz_lexer.specs.Bytes.{is_letter, is_digit, is_word, begins}
use Rattle.pz_lexer.specs.Spellings.{spelled}
use Rattle.pz_lexer.specs.Words.{keywords}
use Rattle.pz_lexer.specs.Pieces.{IsPiece}
use Rattle.pz_lexer.specs.devices.Step.{piece}
use Rattle.pz_lexer.specs.devices.Twin.{first_step}
use Rattle.pz_lexer.proofs.Steps.{HasByte, IsRight}
use Rattle.pz_lexer.proofs.FirstStep.{step_right}
use Rattle.pz_format.specs.Spellings.{keyword_text, symbol_text}

-- what a byte behind a symbol would make of it: a longer symbol, or a comment
abbrev pub can_extend : Symbol → ℕ → Bool
can_extend s.Colon c = nat_eq 61 c
can_extend s.Bang c = nat_eq 61 c
can_extend s.Unequal c = nat_eq 61 c
can_extend s.Equal c = nat_eq 61 c
can_extend s.Less c = nat_eq 61 c
can_extend s.Greater c = nat_eq 61 c
can_extend s.Slash c = c == 47 || c == 42
can_extend _ c = false

-- what is read first is a piece
pub read_first : (all text rest : List ℕ) (sort : Sort) → HasByte all → first_step all ≡ piece text sort rest → IsPiece text sort rest
read_first [] text rest sort some e = absurd some
read_first (b ∷ bs) text rest sort some e = (subst (IsRight (b ∷ bs)) e (step_right b bs)).2

symbol_first : (x : Symbol) (rest : List ℕ) → begins (can_extend x) rest ≡ false → first_step (symbol_text x ++ rest) ≡ piece (symbol_text x) (Sort.Token (TokenKind.Sym x)) rest
symbol_first s.LeftParen [] e = refl
symbol_first s.LeftParen (c ∷ []) e = refl
symbol_first s.LeftParen (c ∷ d ∷ ds) e = refl
symbol_first s.RightParen [] e = refl
symbol_first s.RightParen (c ∷ []) e = refl
symbol_first s.RightParen (c ∷ d ∷ ds) e = refl
symbol_first s.LeftBrace [] e = refl
symbol_first s.LeftBrace (c ∷ []) e = refl
symbol_first s.LeftBrace (c ∷ d ∷ ds) e = refl
symbol_first s.RightBrace [] e = refl
symbol_first s.RightBrace (c ∷ []) e = refl
symbol_first s.RightBrace (c ∷ d ∷ ds) e = refl
symbol_first s.LeftBracket [] e = refl
symbol_first s.LeftBracket (c ∷ []) e = refl
symbol_first s.LeftBracket (c ∷ d ∷ ds) e = refl
symbol_first s.RightBracket [] e = refl
symbol_first s.RightBracket (c ∷ []) e = refl
symbol_first s.RightBracket (c ∷ d ∷ ds) e = refl
symbol_first s.Comma [] e = refl
symbol_first s.Comma (c ∷ []) e = refl
symbol_first s.Comma (c ∷ d ∷ ds) e = refl
symbol_first s.Semicolon [] e = refl
symbol_first s.Semicolon (c ∷ []) e = refl
symbol_first s.Semicolon (c ∷ d ∷ ds) e = refl
symbol_first s.Colon [] e = refl
symbol_first s.Colon (c ∷ []) e = rw e refl
symbol_first s.Colon (c ∷ d ∷ ds) e = rw e refl
symbol_first s.Assign [] e = refl
symbol_first s.Assign (c ∷ []) e = refl
symbol_first s.Assign (c ∷ d ∷ ds) e = refl
symbol_first s.Bang [] e = refl
symbol_first s.Bang (c ∷ []) e = rw e refl
symbol_first s.Bang (c ∷ d ∷ ds) e = rw e refl
symbol_first s.Query [] e = refl
symbol_first s.Query (c ∷ []) e = refl
symbol_first s.Query (c ∷ d ∷ ds) e = refl
symbol_first s.Bar [] e = refl
symbol_first s.Bar (c ∷ []) e = refl
symbol_first s.Bar (c ∷ d ∷ ds) e = refl
symbol_first s.Dot [] e = refl
symbol_first s.Dot (c ∷ []) e = refl
symbol_first s.Dot (c ∷ d ∷ ds) e = refl
symbol_first s.Plus [] e = refl
symbol_first s.Plus (c ∷ []) e = refl
symbol_first s.Plus (c ∷ d ∷ ds) e = refl
symbol_first s.Minus [] e = refl
symbol_first s.Minus (c ∷ []) e = refl
symbol_first s.Minus (c ∷ d ∷ ds) e = refl
symbol_first s.Star [] e = refl
symbol_first s.Star (c ∷ []) e = refl
symbol_first s.Star (c ∷ d ∷ ds) e = refl
symbol_first s.Slash [] e = refl
symbol_first s.Slash (c ∷ []) e = let p = or_parts (c == 47) (c == 42) e in rw (p.0, p.1) refl
symbol_first s.Slash (c ∷ d ∷ ds) e = let p = or_parts (c == 47) (c == 42) e in rw (p.0, p.1) refl
symbol_first s.Equal [] e = refl
symbol_first s.Equal (c ∷ []) e = rw e refl
symbol_first s.Equal (c ∷ d ∷ ds) e = rw e refl
symbol_first s.Same [] e = refl
symbol_first s.Same (c ∷ []) e = refl
symbol_first s.Same (c ∷ d ∷ ds) e = refl
symbol_first s.Unequal [] e = refl
symbol_first s.Unequal (c ∷ []) e = rw e refl
symbol_first s.Unequal (c ∷ d ∷ ds) e = rw e refl
symbol_first s.Distinct [] e = refl
symbol_first s.Distinct (c ∷ []) e = refl
symbol_first s.Distinct (c ∷ d ∷ ds) e = refl
symbol_first s.Less [] e = refl
symbol_first s.Less (c ∷ []) e = rw e refl
symbol_first s.Less (c ∷ d ∷ ds) e = rw e refl
symbol_first s.LessEqual [] e = refl
symbol_first s.LessEqual (c ∷ []) e = refl
symbol_first s.LessEqual (c ∷ d ∷ ds) e = refl
symbol_first s.Greater [] e = refl
symbol_first s.Greater (c ∷ []) e = rw e refl
symbol_first s.Greater (c ∷ d ∷ ds) e = rw e refl
symbol_first s.GreaterEqual [] e = refl
symbol_first s.GreaterEqual (c ∷ []) e = refl
symbol_first s.GreaterEqual (c ∷ d ∷ ds) e = refl
symbol_first s.Ampersand [] e = refl
symbol_first s.Ampersand (c ∷ []) e = refl
symbol_first s.Ampersand (c ∷ d ∷ ds) e = refl

symbol_some : (x : Symbol) (rest : List ℕ) → HasByte (symbol_text x ++ rest)
symbol_some s.LeftParen rest = tt
symbol_some s.RightParen rest = tt
symbol_some s.LeftBrace rest = tt
symbol_some s.RightBrace rest = tt
symbol_some s.LeftBracket rest = tt
symbol_some s.RightBracket rest = tt
symbol_some s.Comma rest = tt
symbol_some s.Semicolon rest = tt
symbol_some s.Colon rest = tt
symbol_some s.Assign rest = tt
symbol_some s.Bang rest = tt
symbol_some s.Query rest = tt
symbol_some s.Bar rest = tt
symbol_some s.Dot rest = tt
symbol_some s.Plus rest = tt
symbol_some s.Minus rest = tt
symbol_some s.Star rest = tt
symbol_some s.Slash rest = tt
symbol_some s.Equal rest = tt
symbol_some s.Same rest = tt
symbol_some s.Unequal rest = tt
symbol_some s.Distinct rest = tt
symbol_some s.Less rest = tt
symbol_some s.LessEqual rest = tt
symbol_some s.Greater rest = tt
symbol_some s.GreaterEqual rest = tt
symbol_some s.Ampersand rest = tt

pub symbol_piece : (x : Symbol) (rest : List ℕ) → begins (can_extend x) rest ≡ false → IsPiece (symbol_text x) (Sort.Token (TokenKind.Sym x)) rest
symbol_piece x rest e = read_first (symbol_text x ++ rest) (symbol_text x) rest _ (symbol_some x rest) (symbol_first x rest e)

-- no symbol begins a word or a number
pub symbol_front : (x : Symbol) (rest : List ℕ) → (begins is_word (symbol_text x ++ rest) ≡ false) × (begins is_digit (symbol_text x ++ rest) ≡ false)
symbol_front s.LeftParen rest = (refl, refl)
symbol_front s.RightParen rest = (refl, refl)
symbol_front s.LeftBrace rest = (refl, refl)
symbol_front s.RightBrace rest = (refl, refl)
symbol_front s.LeftBracket rest = (refl, refl)
symbol_front s.RightBracket rest = (refl, refl)
symbol_front s.Comma rest = (refl, refl)
symbol_front s.Semicolon rest = (refl, refl)
symbol_front s.Colon rest = (refl, refl)
symbol_front s.Assign rest = (refl, refl)
symbol_front s.Bang rest = (refl, refl)
symbol_front s.Query rest = (refl, refl)
symbol_front s.Bar rest = (refl, refl)
symbol_front s.Dot rest = (refl, refl)
symbol_front s.Plus rest = (refl, refl)
symbol_front s.Minus rest = (refl, refl)
symbol_front s.Star rest = (refl, refl)
symbol_front s.Slash rest = (refl, refl)
symbol_front s.Equal rest = (refl, refl)
symbol_front s.Same rest = (refl, refl)
symbol_front s.Unequal rest = (refl, refl)
symbol_front s.Distinct rest = (refl, refl)
symbol_front s.Less rest = (refl, refl)
symbol_front s.LessEqual rest = (refl, refl)
symbol_front s.Greater rest = (refl, refl)
symbol_front s.GreaterEqual rest = (refl, refl)
symbol_front s.Ampersand rest = (refl, refl)

-- each keyword is a word, and reads as itself
pub keyword_word : (x : Keyword) → (begins is_letter (keyword_text x) ≡ true) × (list_all is_word (keyword_text x) ≡ true) × (spelled keywords (keyword_text x) ≡ Some x)
keyword_word k.Data = (refl, refl, refl)
keyword_word k.Process = (refl, refl, refl)
keyword_word k.Cluster = (refl, refl, refl)
keyword_word k.Class = (refl, refl, refl)
keyword_word k.System = (refl, refl, refl)
keyword_word k.Extends = (refl, refl, refl)
keyword_word k.Ports = (refl, refl, refl)
keyword_word k.Messages = (refl, refl, refl)
keyword_word k.Variables = (refl, refl, refl)
keyword_word k.Init = (refl, refl, refl)
keyword_word k.Methods = (refl, refl, refl)
keyword_word k.Instances = (refl, refl, refl)
keyword_word k.Channels = (refl, refl, refl)
keyword_word k.Skip = (refl, refl, refl)
keyword_word k.Delay = (refl, refl, refl)
keyword_word k.Par = (refl, refl, refl)
keyword_word k.And = (refl, refl, refl)
keyword_word k.Rap = (refl, refl, refl)
keyword_word k.Sel = (refl, refl, refl)
keyword_word k.Or = (refl, refl, refl)
keyword_word k.Les = (refl, refl, refl)
keyword_word k.If = (refl, refl, refl)
keyword_word k.Then = (refl, refl, refl)
keyword_word k.Else = (refl, refl, refl)
keyword_word k.Fi = (refl, refl, refl)
keyword_word k.While = (refl, refl, refl)
keyword_word k.Do = (refl, refl, refl)
keyword_word k.Od = (refl, refl, refl)
keyword_word k.Abort = (refl, refl, refl)
keyword_word k.Interrupt = (refl, refl, refl)
keyword_word k.With = (refl, refl, refl)
keyword_word k.New = (refl, refl, refl)
keyword_word k.Me = (refl, refl, refl)
keyword_word k.Nil = (refl, refl, refl)
keyword_word k.True = (refl, refl, refl)
keyword_word k.False = (refl, refl, refl)
keyword_word k.Return = (refl, refl, refl)
keyword_word k.CurrentTime = (refl, refl, refl)
keyword_word k.Super = (refl, refl, refl)
keyword_word k.Native = (refl, refl, refl)
keyword_word k.Import = (refl, refl, refl)
keyword_word k.ImportLib = (refl, refl, refl)

-- neither a blank nor an LF makes a symbol longer
pub not_extended : (x : Symbol) → (can_extend x 10 ≡ false) × (can_extend x 32 ≡ false)
not_extended s.LeftParen = (refl, refl)
not_extended s.RightParen = (refl, refl)
not_extended s.LeftBrace = (refl, refl)
not_extended s.RightBrace = (refl, refl)
not_extended s.LeftBracket = (refl, refl)
not_extended s.RightBracket = (refl, refl)
not_extended s.Comma = (refl, refl)
not_extended s.Semicolon = (refl, refl)
not_extended s.Colon = (refl, refl)
not_extended s.Assign = (refl, refl)
not_extended s.Bang = (refl, refl)
not_extended s.Query = (refl, refl)
not_extended s.Bar = (refl, refl)
not_extended s.Dot = (refl, refl)
not_extended s.Plus = (refl, refl)
not_extended s.Minus = (refl, refl)
not_extended s.Star = (refl, refl)
not_extended s.Slash = (refl, refl)
not_extended s.Equal = (refl, refl)
not_extended s.Same = (refl, refl)
not_extended s.Unequal = (refl, refl)
not_extended s.Distinct = (refl, refl)
not_extended s.Less = (refl, refl)
not_extended s.LessEqual = (refl, refl)
not_extended s.Greater = (refl, refl)
not_extended s.GreaterEqual = (refl, refl)
not_extended s.Ampersand = (refl, refl)
