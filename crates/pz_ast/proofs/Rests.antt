-- What is still to be written after so many parts of a list with separators.
use Rattle.std.proofs.Common.{ℕ, zero, suc, List}
use Rattle.pz_syntax.specs.declared.tokens.Symbol.{Symbol}
use Rattle.pz_syntax.specs.declared.tokens.Mark.{Mark}
use Rattle.pz_syntax.specs.declared.names.Id.{Id}
use Rattle.pz_syntax.specs.Marks.{separated, tail_separated}
use Rattle.pz_syntax.specs.Expressions.{Expressions}
use Rattle.pz_syntax.specs.ExpressionText.{texts, tail_texts}
use Rattle.pz_syntax.specs.declared.tokens.Keyword.{Keyword}
use Rattle.pz_syntax.specs.Statements.{Statements, Branches}
use Rattle.pz_syntax.specs.StatementText.{branches_text, tail_branches}
use Rattle.pz_syntax.specs.StatementText as statement

abbrev pub rest_separated : {A : Type 0} → ℕ → (A → List Mark) → Symbol → List A → List Mark
rest_separated zero text_of separator xs = separated text_of separator xs
rest_separated (suc n) text_of separator xs = tail_separated text_of separator xs

abbrev pub rest_texts : ℕ → Symbol → Expressions Id Id → List Mark
rest_texts zero separator ts = texts separator ts
rest_texts (suc n) separator ts = tail_texts separator ts

abbrev pub rest_statements : ℕ → Statements Id Id Id → List Mark
rest_statements zero ts = statement.texts ts
rest_statements (suc n) ts = statement.tail_texts ts

abbrev pub rest_branches : ℕ → Keyword → Branches Id Id Id → List Mark
rest_branches zero separator bs = branches_text separator bs
rest_branches (suc n) separator bs = tail_branches separator bs
