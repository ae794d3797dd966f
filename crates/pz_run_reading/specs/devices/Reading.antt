-- What the parts of the reading of a model hand to each other.
use Rattle.std.specs.Prelude.{◌≡◌, ℕ, List, Result, MatchResult}
use Rattle.pz_bind_rules.specs.pz_syntax.declared.tokens.Token.{Token}
use Rattle.pz_bind_rules.specs.pz_syntax.declared.clusters.Model.{Model}
use Rattle.pz_bind_rules.specs.pz_syntax.Classes.{ModelTree}
use Rattle.pz_bind_rules.specs.pz_syntax.ClassView.{model_view}
use Rattle.pz_lexer.specs.Tokens.{AreTokens}
use Rattle.pz_run_reading.specs.Models.{IsTreeOf}
use Rattle.pz_run_reading.specs.Refusals.{IsViolation}
use Rattle.pz_run_reading.specs.declared.refusal.Refusal.{Refusal}
use Rattle.pz_run_reading.specs.declared.refusal.Refusal.TheVariants.{Violates}
use Rattle.pz_run_reading.specs.declared.read_error.ReadModelError.{ReadModelError}
use Rattle.pz_run_reading.specs.declared.read_error.ReadModelError.TheVariants.{NoMemory}

-- the text is that of this tree, sound or not
pub record HasTree (text : List ℕ) (tree : ModelTree) : Type 0 where
  pub tokens : List Token
  pub are_tokens : AreTokens text tokens
  pub is_tree : IsTreeOf tokens tree

-- the answer is this tree, unless memory runs out
abbrev pub IsOnlyTree : ModelTree → Result Model ReadModelError → Type 0
IsOnlyTree tree result = MatchResult result (λ m. model_view m ≡ tree) (λ e. e ≡ NoMemory)

-- the tree violates a rule
abbrev pub IsViolationOf : ModelTree → Refusal → Type 0
IsViolationOf tree (Violates v) = IsViolation tree v
IsViolationOf tree _ = ⊥
