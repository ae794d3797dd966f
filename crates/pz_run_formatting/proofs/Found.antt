-- Why a text is refused.
use Rattle.std.proofs.Common.{◌≡◌, ◌⊎◌, inl, inr, ℕ, List, Result, ap}
use Rattle.pz_classes.specs.pz_syntax.Classes.{ModelTree}
use Rattle.pz_lexer.specs.declared.error.LexError.{LexError}
use Rattle.pz_lexer.specs.declared.error.LexError.TheVariants as lex
use Rattle.pz_lexer.specs.Tokens.{IsRefused}
use Rattle.pz_run_reading.specs.Openings.{IsOpenModelOf, IsRefusedToOpen}
use Rattle.pz_run_reading.specs.Answers.{OnRefused}
use Rattle.pz_run_reading.specs.devices.Errors.{of_lexer}
use Rattle.pz_run_reading.specs.declared.read_error.ReadModelError.TheVariants.{NoMemory}
use Rattle.pz_run_reading.proofs.Causes.{lexer_cause}
use Rattle.pz_run_reading.proofs.Trees.{OneList, NeverBoth, tree_of, tokens_there}
use Rattle.pz_run_reading.proofs.Opened.{refused_at_once}

module _ (text : List ℕ) (e : LexError) (cause : (e ≡ lex.NoMemory) ⊎ IsRefused text e) where
  pub no_pieces : OnRefused (IsRefusedToOpen text) (of_lexer e)
  no_pieces = refused_at_once text (of_lexer e) (lexer_cause text e cause)

  pub wanting : OneList → NeverBoth → (m : ModelTree) → IsOpenModelOf text m → of_lexer e ≡ NoMemory
  wanting one never m is = ap of_lexer (tokens_there one never text m e (tree_of text m is.is_model) cause)
