-- The refusal with its place, from one that says how many tokens are left.
use Rattle.std.specs.Prelude.{◌-◌, ℕ, List, [], ◌∷◌, length, drop}
use Rattle.pz_syntax.specs.declared.tokens.Pos.{Pos}
use Rattle.pz_syntax.specs.declared.tokens.Token.{Token}
use Rattle.pz_parser_cursor.specs.declared.refusal.Refusal.{Refusal}
use Rattle.pz_parser_cursor.specs.declared.refusal.Refusal.TheVariants as refusal
use Rattle.pz_parser.specs.declared.error.ParseError.{ParseError}
use Rattle.pz_parser.specs.declared.error.ParseError.TheVariants.{NoMemory, Syntax, TooNested}

abbrev pub first_or : Pos → List Token → Pos
first_or end [] = end
first_or end (t ∷ ts) = t.pos

-- the place of the token from which on so many are left; the end where none is
unfoldable pub place_left : List Token → Pos → ℕ → Pos
place_left tokens end left = first_or end (drop (length tokens - left) tokens)

abbrev pub error_of : List Token → Pos → Refusal → ParseError
error_of tokens end refusal.NoMemory = NoMemory
error_of tokens end (refusal.Syntax left) = Syntax (place_left tokens end left)
error_of tokens end (refusal.TooNested left) = TooNested (place_left tokens end left)
