-- The plain data that a statement of the code stands for.
use Rattle.std.specs.Prelude.{List, [], ◌∷◌, map, Option, Some, None, option_map}
use Rattle.pz_syntax.specs.declared.tokens.Pos.{Pos}
use Rattle.pz_syntax.specs.declared.names.Id.{Id}
use Rattle.pz_syntax.specs.declared.stmts.StmtForm.{StmtForm, fold-StmtForm}
use Rattle.pz_syntax.specs.declared.stmts.StmtForm.TheOpen.{StmtForm-F, Stmt-F}
use Rattle.pz_syntax.specs.declared.stmts.Stmt.{Stmt, fold-Stmt}
use Rattle.pz_syntax.specs.ExpressionView.{list_view, part_view}
use Rattle.pz_syntax.specs.ExpressionView as expression
use Rattle.pz_syntax.specs.Statements.{Statement, skip, delay, bracketed, block, guarded, parallel, select, conditional, repeated, abort, interrupt, send, receive, call, assignment, value, Statements, no_statements, then, StatementPart, not_written, otherwise, Branches, no_branches, branch}

-- a statement whose variables, classes and ports are names at their places
abbrev pub Tree : Type 0
Tree = Statement Id Id Id

abbrev pub sequence_of : List Tree → Statements Id Id Id
sequence_of [] = no_statements
sequence_of (t ∷ ts) = then t (sequence_of ts)

abbrev pub otherwise_of : Option (List Tree) → StatementPart Id Id Id
otherwise_of None = not_written
otherwise_of (Some ts) = otherwise (sequence_of ts)

abbrev pub branches_of : List (List Tree) → Branches Id Id Id
branches_of [] = no_branches
branches_of (b ∷ bs) = branch (sequence_of b) (branches_of bs)

-- a form stands for a statement once its place is known
abbrev pub form_step : StmtForm-F (Pos → Tree) Tree → Pos → Tree
form_step StmtForm-F.Skip pos = skip pos
form_step (StmtForm-F.Delay e) pos = delay pos (expression.view e)
form_step (StmtForm-F.Group ts) pos = bracketed pos (sequence_of ts)
form_step (StmtForm-F.Block es) pos = block pos (list_view es)
form_step (StmtForm-F.Guard e t) pos = guarded pos (expression.view e) t
form_step (StmtForm-F.Par bs) pos = parallel pos (branches_of bs)
form_step (StmtForm-F.Sel bs) pos = select pos (branches_of bs)
form_step (StmtForm-F.If e body other) pos = conditional pos (expression.view e) (sequence_of body) (otherwise_of other)
form_step (StmtForm-F.While e body) pos = repeated pos (expression.view e) (sequence_of body)
form_step (StmtForm-F.Abort ts t) pos = abort pos (sequence_of ts) t
form_step (StmtForm-F.Interrupt ts t) pos = interrupt pos (sequence_of ts) t
form_step (StmtForm-F.Send port name args after) pos = send pos port name (part_view args) (part_view after)
form_step (StmtForm-F.Receive port name into condition after) pos = receive pos port name into (option_map expression.view condition) (part_view after)
form_step (StmtForm-F.Call method args results) pos = call pos method (list_view args) results
form_step (StmtForm-F.Assign x e) pos = assignment pos x (expression.view e)
form_step (StmtForm-F.Value e) pos = value pos (expression.view e)

abbrev pub stmt_step : Stmt-F (Pos → Tree) Tree → Tree
stmt_step s = s.form s.pos

abbrev pub form_view : StmtForm → Pos → Tree
form_view = fold-StmtForm (Pos → Tree) Tree form_step stmt_step

abbrev pub view : Stmt → Tree
view = fold-Stmt (Pos → Tree) Tree form_step stmt_step

abbrev pub sequence_view : List Stmt → Statements Id Id Id
sequence_view ss = sequence_of (map view ss)
