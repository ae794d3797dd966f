use Rattle.std.proofs.Common.{◌≡◌, ◌+◌, ◌*◌, max, map, drop}
use Rattle.pz_syntax.specs.StatementView.{view, sequence_view, branches_of}
use Rattle.pz_syntax.specs.StatementNesting.{nestings, branches_nesting}
use Rattle.pz_ast.proofs.depth.stmts.+nest.Given as goal

abbrev pub invariant-stmts_nesting-loop-statement : goal.invariant-stmts_nesting-loop-statement
invariant-stmts_nesting-loop-statement l = max l.deepest (nestings (sequence_view (drop l.statement-index l.statements))) ≡ nestings (sequence_view l.statements)

abbrev pub invariant-branches_nesting-loop-branch : goal.invariant-branches_nesting-loop-branch
invariant-branches_nesting-loop-branch l = max l.deepest (branches_nesting (branches_of (map (map view) (drop l.branch-index l.branches)))) ≡ branches_nesting (branches_of (map (map view) l.branches))

-- the depth comes first; at the same depth, lists of lists come before lists and these before one statement
abbrev pub decreases-stmt_nesting : goal.decreases-stmt_nesting
decreases-stmt_nesting l = 3 * goal.size-stmt_nesting l

abbrev pub decreases-stmts_nesting : goal.decreases-stmts_nesting
decreases-stmts_nesting l = 3 * goal.size-stmts_nesting l + 1

abbrev pub decreases-branches_nesting : goal.decreases-branches_nesting
decreases-branches_nesting l = 3 * goal.size-branches_nesting l + 2
