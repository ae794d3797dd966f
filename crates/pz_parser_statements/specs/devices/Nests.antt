-- A function value that parses the statements one construct further in.
use Rattle.std.specs.Prelude.{ℕ, List, Result, ◌<◌}
use Rattle.std.specs.declared.alloc.Global.{Global}
use denote.Ref.{MutBor}
use Rattle.pz_syntax.specs.declared.stmts.Stmt.{Stmt}
use Rattle.pz_syntax.specs.declared.tokens.Token.{Token}
use Rattle.pz_syntax.specs.StatementView.{view}
use Rattle.pz_parser_cursor.specs.declared.refusal.Refusal.{Refusal}
use Rattle.pz_parser_cursor.specs.devices.Device.{Reads}
use Rattle.pz_parser_statements.specs.devices.Statements.{stmt}

pub record Nests (depth : ℕ) (pre : Global → MutBor (List Token) → ℕ → Type 0)
    (post : Global → MutBor (List Token) → ℕ → Result Stmt Refusal → MutBor (List Token) → Type 0) : Type 0 where
  pub deeper : (alloc : Global) (old : MutBor (List Token)) (d : ℕ) → d < depth → pre alloc old d
  pub reads : (alloc : Global) (old new : MutBor (List Token)) (d : ℕ) (result : Result Stmt Refusal) → post alloc old d result new
      → Reads view (stmt d old.now) result new.now
