use Rattle.std.proofs.Common.{◌≡◌, ◌+◌, ◌*◌, ◌++◌, map, drop}
use Rattle.pz_syntax.specs.StatementText.{texts, branches_text}
use Rattle.pz_syntax.specs.StatementView.{view, sequence_view, branches_of}
use Rattle.pz_ast.proofs.Rests.{rest_statements, rest_branches}
use Rattle.pz_ast.proofs.printing.stmts.+put.Given as goal

abbrev pub invariant-put_stmts-loop-i : goal.invariant-put_stmts-loop-i
invariant-put_stmts-loop-i l = l.out ++ rest_statements l.i (sequence_view (drop l.i l.statements)) ≡ l.fn.out ++ texts (sequence_view l.statements)

abbrev pub invariant-put_branches-loop-i : goal.invariant-put_branches-loop-i
invariant-put_branches-loop-i l = l.out ++ rest_branches l.i l.separator (branches_of (map (map view) (drop l.i l.branches))) ≡ l.fn.out ++ branches_text l.separator (branches_of (map (map view) l.branches))

-- the depth comes first; at the same depth, lists of lists come before lists and these before one statement
abbrev pub decreases-put_stmt : goal.decreases-put_stmt
decreases-put_stmt l = 4 * goal.size-put_stmt l

abbrev pub decreases-put_stmts : goal.decreases-put_stmts
decreases-put_stmts l = 4 * goal.size-put_stmts l + 1

abbrev pub decreases-put_body : goal.decreases-put_body
decreases-put_body l = 4 * goal.size-put_body l + 2

abbrev pub decreases-put_first : goal.decreases-put_first
decreases-put_first l = 4 * goal.size-put_first l + 3

abbrev pub decreases-put_branches : goal.decreases-put_branches
decreases-put_branches l = 4 * goal.size-put_branches l + 2

abbrev pub decreases-put_group : goal.decreases-put_group
decreases-put_group l = 4 * goal.size-put_group l + 2

abbrev pub decreases-put_closed : goal.decreases-put_closed
decreases-put_closed l = 4 * goal.size-put_closed l + 3
