use Rattle.std.proofs.Common.{◌≡◌, ap, ◌∙◌, rules, Some, Option, List, map, arith}
use Rattle.pz_syntax.specs.declared.stmts.Stmt.{Stmt}
use Rattle.pz_syntax.specs.declared.stmts.StmtForm.TheVariants.{If}
use Rattle.pz_syntax.specs.ExpressionView as expression
use Rattle.pz_syntax.specs.StatementView as tree
use Rattle.pz_classes_code.specs.CodeView as code
use Rattle.pz_classes_code.specs.StepView as step
use Rattle.pz_classes_code.specs.Resolution.{resolved, resolved_statement, resolved_statements}
use Rattle.pz_classes_code.specs.ScopeView.{scope_view}
use Rattle.pz_classes_code.proofs.Branches.{branch_step}
use Rattle.pz_classes_code.proofs.ResolvedSteps.{once_shared, list_done, branches_done, two_parts}
use Rattle.pz_classes_code.proofs.resolving.statements.+resolve_stmt.Goals as goal

pub resolve_statements-returns : goal.resolve_statements-returns
resolve_statements-returns t c = once_shared _ c.loop-stmt.steps c.new.result c.new.ensures (list_done (scope_view c.args.scope.now) c.loop-stmt.steps c.args.list.now c.loop-stmt.stmt-index c.loop-stmt-test.false c.loop-stmt.invariant)

pub resolve_branches-returns : goal.resolve_branches-returns
resolve_branches-returns t c = once_shared _ c.loop-branch.steps c.new-2.result c.new-2.ensures (branches_done (scope_view c.args.scope.now) c.loop-branch.steps c.args.branches.now c.loop-branch.branch-index c.loop-branch-test.false c.loop-branch.invariant)

pub resolve_form-returns-in_ok-test-in-Some : goal.resolve_form-returns-in_ok-test-in-Some
resolve_form-returns-in_ok-test-in-Some t c =
    let is : c.args.form.now ≡ If c.in-If.test c.in-If.part (Some c.in-Some.rest) = c.in-If.is ∙ ap (λ (o : Option (List Stmt)). If c.in-If.test c.in-If.part o) c.in-Some.is in
    let test : code.view c.in_ok-test-in-Some.test ≡ resolved (scope_view c.args.scope.now) (expression.view c.in-If.test) = search rules in
    let part : step.sequence_view c.in_ok-test-in-Some.part ≡ resolved_statements (scope_view c.args.scope.now) (tree.sequence_view c.in-If.part) = search rules in
    let rest : step.sequence_view c.in_ok-test-in-Some.rest ≡ resolved_statements (scope_view c.args.scope.now) (tree.sequence_view c.in-Some.rest) = search rules in
    two_parts (scope_view c.args.scope.now) c.args.pos c.in_ok-test-in-Some.test c.in_ok-test-in-Some.part c.in_ok-test-in-Some.rest c.in-If.test c.in-If.part c.in-Some.rest c.args.form.now is test part rest

pub resolve_branches-loop-branch-preserved : goal.resolve_branches-loop-branch-preserved
resolve_branches-loop-branch-preserved t c =
    branch_step step.view (λ s. resolved_statement (scope_view c.args.scope.now) (tree.view s)) c.loop-branch.steps c.push-in-loop-branch.new.self c.in_ok-new.field-0 c.args.branches.now c.branch-item.result c.as_slice-stmt-items.result.now
    c.loop-branch.branch-index _ c.loop-stmt.stmt-index c.loop-branch-test.true (omega arith) c.branch-item.is c.as_slice-stmt-items.ensures c.loop-stmt-test.false (ap (map step.view) c.in_ok-new.ensures ∙ c.loop-stmt.invariant) c.in_ok-push-2.ensures.ok c.loop-branch.invariant
