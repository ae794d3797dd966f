use Rattle.std.proofs.Common.{◌≡◌, map, take}
use Rattle.pz_syntax.specs.StatementView as tree
use Rattle.pz_classes_code.specs.StepView as step
use Rattle.pz_classes_code.specs.Resolution.{resolved_statement}
use Rattle.pz_classes_code.specs.ScopeView.{scope_view}
use Rattle.pz_classes_code.proofs.resolving.statements.+resolve_stmt.Given as goal

abbrev pub invariant-resolve_statements-loop-stmt : goal.invariant-resolve_statements-loop-stmt
invariant-resolve_statements-loop-stmt l = map step.view l.steps ≡ map (λ s. resolved_statement (scope_view l.scope) (tree.view s)) (take l.stmt-index l.list)

abbrev pub invariant-resolve_branches-loop-branch : goal.invariant-resolve_branches-loop-branch
invariant-resolve_branches-loop-branch l = map (map step.view) l.steps ≡ map (λ b. map (λ s. resolved_statement (scope_view l.scope) (tree.view s)) b) (take l.branch-index l.branches)

abbrev pub invariant-resolve_branches-loop-stmt : goal.invariant-resolve_branches-loop-stmt
invariant-resolve_branches-loop-stmt l = map step.view l.part ≡ map (λ s. resolved_statement (scope_view l.scope) (tree.view s)) (take l.stmt-index l.stmt-items)
