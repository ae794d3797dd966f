-- The model of a text.
use Rattle.std.specs.Prelude.{ℕ, List}
use Rattle.pz_bind_rules.specs.pz_syntax.declared.tokens.Token.{Token}
use Rattle.pz_bind_rules.specs.pz_syntax.Classes.{ModelTree}
use Rattle.pz_lexer.specs.Tokens.{AreTokens}
use Rattle.pz_parser.specs.Parsing.{IsTextOf, IsInPlace}
use Rattle.pz_bind_rules.specs.pz_classes_rules.Soundness.{IsSound}

-- how many constructs of a model may stand one in another
abbrev pub nesting_limit : ℕ
nesting_limit = 100

-- the tokens are those of this tree, whose parts stand where their tokens do
pub record IsTreeOf (tokens : List Token) (tree : ModelTree) : Type 0 where
  pub is_text : IsTextOf nesting_limit tokens tree
  pub in_place : IsInPlace tokens tree

-- the text is that of the model, which violates no rule
pub record IsModelOf (text : List ℕ) (m : ModelTree) : Type 0 where
  pub tokens : List Token
  pub are_tokens : AreTokens text tokens
  pub is_tree : IsTreeOf tokens m
  pub sound : IsSound m
