-- The longest symbol, computed.
use Rattle.std.specs.Prelude.{ℕ, List, [], Option, None, Some, take, drop}
use Rattle.pz_syntax.specs.declared.tokens.Symbol.{Symbol}
use Rattle.pz_syntax.specs.declared.tokens.TokenKind.{TokenKind}
use Rattle.pz_lexer.specs.Spellings.{spelled}
use Rattle.pz_lexer.specs.Symbols.{symbols}
use Rattle.pz_lexer.specs.declared.sorts.Sort.{Sort}
use Rattle.pz_lexer.specs.declared.sorts.Reason.{Reason}
use Rattle.pz_lexer.specs.devices.Step.{piece, stop, Step}

-- so many bytes where they spell a symbol
abbrev pub symbol_by : Option Symbol → ℕ → List ℕ → Step → Step
symbol_by (Some symbol) n text shorter = piece (take n text) (Sort.Token (TokenKind.Sym symbol)) (drop n text)
symbol_by None n text shorter = shorter

abbrev pub symbol_at : ℕ → List ℕ → Step → Step
symbol_at n text shorter = symbol_by (spelled symbols (take n text)) n text shorter

abbrev pub symbol_step : List ℕ → Step
symbol_step text = symbol_at 3 text (symbol_at 2 text (symbol_at 1 text (stop [] text Reason.BadByte)))
