-- When a text is refused, as what, and at which place: first its tokens, then its tree, then the rules
-- on models.
use Rattle.std.specs.Prelude.{ℕ, List}
use Rattle.pz_bind_rules.specs.pz_syntax.declared.tokens.Pos.{Pos}
use Rattle.pz_bind_rules.specs.pz_syntax.declared.tokens.Token.{Token}
use Rattle.pz_bind_rules.specs.pz_syntax.Classes.{ModelTree}
use Rattle.pz_lexer.specs.declared.error.LexError.{LexError}
use Rattle.pz_lexer.specs.declared.error.LexError.TheVariants as lex
use Rattle.pz_lexer.specs.Tokens.{AreTokens}
use Rattle.pz_lexer.specs.Tokens as tokens
use Rattle.pz_lexer.specs.Places.{origin, place_after}
use Rattle.pz_parser.specs.declared.error.ParseError.{ParseError}
use Rattle.pz_parser.specs.declared.error.ParseError.TheVariants as parse
use Rattle.pz_parser.specs.Cuts.{Refuses}
use Rattle.pz_parser.specs.Parsing.{IsTextOf}
use Rattle.pz_bind_rules.specs.pz_check_violations.declared.violation.Violation.{Violation}
use Rattle.pz_bind_rules.specs.pz_check_violations.Order.{IsLeast}
use Rattle.pz_bind_rules.specs.pz_classes_rules.Violations.{Violates}
use Rattle.pz_bind_rules.specs.pz_classes_rules.Soundness.{Breaks}
use Rattle.pz_run_reading.specs.declared.refusal.Refusal.{Refusal}
use Rattle.pz_run_reading.specs.declared.refusal.Refusal.TheVariants as refusal
use Rattle.pz_run_reading.specs.Models.{IsTreeOf, nesting_limit}

-- the place behind the last byte
abbrev pub end_of : List ℕ → Pos
end_of text = place_after origin text

-- the refusal of a text without tokens
pub data IsOfLexer : LexError → Refusal → Type 0 where
  bad_byte : (at : Pos) → IsOfLexer (lex.BadByte at) (refusal.BadByte at)
  open_comment : (at : Pos) → IsOfLexer (lex.OpenComment at) (refusal.OpenComment at)
  open_string : (at : Pos) → IsOfLexer (lex.OpenString at) (refusal.OpenString at)
  bad_number : (at : Pos) → IsOfLexer (lex.BadNumber at) (refusal.BadNumber at)

-- the refusal of tokens without a tree
pub data IsOfParser : ParseError → Refusal → Type 0 where
  syntax : (at : Pos) → IsOfParser (parse.Syntax at) (refusal.Syntax at)
  too_nested : (at : Pos) → IsOfParser (parse.TooNested at) (refusal.TooNested at)

-- the least violation of C1 to C3; where these hold, that of C4 to C22
pub data IsViolation (t : ModelTree) : Violation → Type 0 where
  in_classes : (v : Violation) → IsLeast (Violates t) v → IsViolation t v
  in_rules : (v : Violation) → ((w : Violation) → Violates t w → ⊥) → IsLeast (Breaks t) v → IsViolation t v

pub data IsRefused (text : List ℕ) : Refusal → Type 0 where
  -- the text has no tokens
  no_tokens : (error : LexError) (r : Refusal) → tokens.IsRefused text error → IsOfLexer error r → IsRefused text r
  -- the tokens are those of no tree; the refusal says where they cease to be those of one
  no_tree : (ts : List Token) (error : ParseError) (r : Refusal) → AreTokens text ts → ((t : ModelTree) → ¬ IsTextOf nesting_limit ts t) → Refuses nesting_limit ts (end_of text) error → IsOfParser error r → IsRefused text r
  -- the tree violates a rule
  violates : (ts : List Token) (t : ModelTree) (v : Violation) → AreTokens text ts → IsTreeOf ts t → IsViolation t v → IsRefused text (refusal.Violates v)
