-- A function value that parses the parts of an expression: those one construct further in, and those
-- of later rules.
use Rattle.std.specs.Prelude.{ℕ, List, Result, ◌<◌}
use Rattle.std.specs.declared.alloc.Global.{Global}
use denote.Ref.{MutBor}
use Rattle.pz_syntax.specs.declared.exprs.Expr.{Expr}
use Rattle.pz_syntax.specs.declared.tokens.Token.{Token}
use Rattle.pz_syntax.specs.ExpressionView.{view}
use Rattle.pz_parser_cursor.specs.declared.refusal.Refusal.{Refusal}
use Rattle.pz_parser_cursor.specs.devices.Device.{Reads}
use Rattle.pz_parser_expressions.specs.declared.rule.Rule.{Rule}
use Rattle.pz_parser_expressions.specs.devices.Rules.{rank}
use Rattle.pz_parser_expressions.specs.devices.Values.{expr}

pub record Nests (depth : ℕ) (rule : Rule) (pre : Global → MutBor (List Token) → ℕ → Rule → Type 0)
    (post : Global → MutBor (List Token) → ℕ → Rule → Result Expr Refusal → MutBor (List Token) → Type 0) : Type 0 where
  pub deeper : (alloc : Global) (old : MutBor (List Token)) (d : ℕ) (r : Rule) → d < depth → pre alloc old d r
  pub later : (alloc : Global) (old : MutBor (List Token)) (r : Rule) → rank rule < rank r → pre alloc old depth r
  pub reads : (alloc : Global) (old new : MutBor (List Token)) (d : ℕ) (r : Rule) (result : Result Expr Refusal) → post alloc old d r result new
      → Reads view (expr d r old.now) result new.now
