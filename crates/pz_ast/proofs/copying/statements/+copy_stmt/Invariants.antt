use Rattle.std.proofs.Common.{◌≡◌, ◌+◌, ◌*◌, take}
use Rattle.pz_ast.proofs.copying.statements.+copy_stmt.Given as goal

abbrev pub invariant-copy_branches-loop-branch : goal.invariant-copy_branches-loop-branch
invariant-copy_branches-loop-branch l = l.copy ≡ take l.branch-index l.branches

abbrev pub invariant-copy_statements-loop-stmt : goal.invariant-copy_statements-loop-stmt
invariant-copy_statements-loop-stmt l = l.copy ≡ take l.stmt-index l.list

-- the depth comes first; at the same depth, lists of lists come before lists and these before one statement
abbrev pub decreases-copy_statement : goal.decreases-copy_statement
decreases-copy_statement l = 3 * goal.size-copy_statement l

abbrev pub decreases-copy_form : goal.decreases-copy_form
decreases-copy_form l = 3 * goal.size-copy_form l

abbrev pub decreases-copy_boxed : goal.decreases-copy_boxed
decreases-copy_boxed l = 3 * goal.size-copy_boxed l + 1

abbrev pub decreases-copy_statements : goal.decreases-copy_statements
decreases-copy_statements l = 3 * goal.size-copy_statements l + 1

abbrev pub decreases-copy_branches : goal.decreases-copy_branches
decreases-copy_branches l = 3 * goal.size-copy_branches l + 2
