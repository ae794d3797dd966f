-- The layout of the text of a model.
use Rattle.std.specs.Prelude.{◌≡◌, ℕ, List}
use Rattle.pz_classes.specs.pz_syntax.declared.tokens.Token.{Token}
use Rattle.pz_classes.specs.pz_syntax.Classes.{ModelTree}
use Rattle.pz_classes.specs.pz_syntax.ModelErasure.{erase}
use Rattle.pz_lexer.specs.declared.kept.Piece.{Piece}
use Rattle.pz_lexer.specs.Tokens.{AreTokens}
use Rattle.pz_lexer.specs.Kept.{AreKept}
use Rattle.pz_format.specs.Layout.{layout}
use Rattle.pz_run_reading.specs.Models.{IsTreeOf}
use Rattle.pz_run_reading.specs.Openings.{IsOpenModelOf}

-- the text is that of a model which violates no rule, and this is the layout of its tokens and comments
pub record IsLayoutOf (text out : List ℕ) : Type 0 where
  pub model : ModelTree
  pub is_model : IsOpenModelOf text model
  pub pieces : List Piece
  pub are_kept : AreKept text pieces
  pub laid_out : out ≡ layout pieces

-- the text is that of this tree, wherever its parts stand
pub record IsTextOfSame (text : List ℕ) (m : ModelTree) : Type 0 where
  pub tree : ModelTree
  pub same : erase tree ≡ erase m
  pub tokens : List Token
  pub are_tokens : AreTokens text tokens
  pub is_tree : IsTreeOf tokens tree
