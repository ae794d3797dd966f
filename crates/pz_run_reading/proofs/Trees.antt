-- A text that has a tree is read as that tree.
use Rattle.std.proofs.Common.{◌≡◌, ◌⊎◌, inl, inr, ℕ, List, sym, subst, ◌∙◌}
use Rattle.pz_bind_rules.specs.pz_syntax.declared.tokens.Token.{Token}
use Rattle.pz_bind_rules.specs.pz_syntax.Classes.{ModelTree}
use Rattle.pz_lexer.specs.declared.error.LexError.{LexError}
use Rattle.pz_lexer.specs.declared.error.LexError.TheVariants as lex
use Rattle.pz_lexer.specs.Tokens.{AreTokens}
use Rattle.pz_lexer.specs.Tokens as tokens
use Rattle.pz_parser_cursor.specs.Places.{positions}
use Rattle.pz_parser.specs.declared.error.ParseError.{ParseError}
use Rattle.pz_parser.specs.declared.error.ParseError.TheVariants as parse
use Rattle.pz_parser.specs.ModelPlaces.{place_model}
use Rattle.pz_parser.specs.Parsing.{IsTextOf}
use Rattle.pz_run_reading.specs.Models.{nesting_limit, IsTreeOf, IsModelOf}
use Rattle.pz_run_reading.specs.devices.Reading.{HasTree}

-- what the lexer says of all texts
abbrev pub OneList : Type 0
OneList = (text : List ℕ) (a b : List Token) → AreTokens text a → AreTokens text b → a ≡ b

abbrev pub NeverBoth : Type 0
NeverBoth = (text : List ℕ) (ts : List Token) (e : LexError) → AreTokens text ts → tokens.IsRefused text e → ⊥

-- the tree of a model's text
pub tree_of : (text : List ℕ) (m : ModelTree) → IsModelOf text m → HasTree text m
tree_of text m is = record { tokens = is.tokens; are_tokens = is.are_tokens; is_tree = is.is_tree }

module _ (one_list : OneList) where
  -- the tree of a text, at its tokens
  pub tree_at : (text : List ℕ) (ts : List Token) (t : ModelTree) → AreTokens text ts → HasTree text t → IsTreeOf ts t
  tree_at text ts t are has = subst (λ (l : List Token). IsTreeOf l t) (one_list text has.tokens ts has.are_tokens are) has.is_tree

  -- a text that has a tree is refused by its tokens for want of memory alone
  pub tokens_there : NeverBoth → (text : List ℕ) (t : ModelTree) (e : LexError) → HasTree text t → (e ≡ lex.NoMemory) ⊎ tokens.IsRefused text e → e ≡ lex.NoMemory
  tokens_there never text t e has (inl wanting) = wanting
  tokens_there never text t e has (inr refused) = absurd (never text has.tokens e has.are_tokens refused)

  pub tree_there : (text : List ℕ) (ts : List Token) (t : ModelTree) (e : ParseError) → AreTokens text ts → HasTree text t → ((u : ModelTree) → IsTextOf nesting_limit ts u → e ≡ parse.NoMemory) → e ≡ parse.NoMemory
  tree_there text ts t e are has only = only t (tree_at text ts t are has).is_text

  -- what is read of the tokens is the tree of the text
  pub read_is : (text : List ℕ) (ts : List Token) (u t : ModelTree) → AreTokens text ts → HasTree text t → ((v : ModelTree) → IsTextOf nesting_limit ts v → u ≡ place_model (positions ts) 0 v) → u ≡ t
  read_is text ts u t are has only = only t (tree_at text ts t are has).is_text ∙ sym (tree_at text ts t are has).in_place
