use Rattle.std.proofs.Common.{◌≡◌, ap, sym, ◌∙◌, rules, None, Some, Option, List}
use Rattle.pz_syntax.specs.declared.exprs.Expr.{Expr}
use Rattle.pz_syntax.specs.declared.exprs.ExprForm.TheVariants.{If}
use Rattle.pz_syntax.specs.ExpressionView as tree
use Rattle.pz_classes_code.specs.declared.code.CodeForm.TheVariants as codes
use Rattle.pz_classes_code.specs.CodeView as code
use Rattle.pz_classes_code.specs.Resolution.{resolved, resolved_all}
use Rattle.pz_classes_code.specs.ScopeView.{scope_view}
use Rattle.pz_classes_code.proofs.ResolvedLists.{list_done, links_done, sendings_done, one_part, two_parts}
use Rattle.pz_classes_code.proofs.ResolvedSteps.{once_shared}
use Rattle.pz_classes_code.proofs.resolving.expressions.+resolve_expr.Goals as goal

pub resolve_form-returns-in_ok-test-in-None : goal.resolve_form-returns-in_ok-test-in-None
resolve_form-returns-in_ok-test-in-None t c =
    let is : c.args.form.now ≡ If c.in-If.test c.in-If.part None = c.in-If.is ∙ ap (λ (o : Option (List Expr)). If c.in-If.test c.in-If.part o) (sym c.get-in-If-3.ensures ∙ c.in-None.is) in
    let test : code.view c.in_ok-test-in-None.test ≡ resolved (scope_view c.args.scope.now) (tree.view c.in-If.test) = search rules in
    let part : code.list_view c.in_ok-test-in-None.part ≡ resolved_all (scope_view c.args.scope.now) (tree.list_view c.in-If.part) = search rules in
    once_shared (λ f. code.form_view f c.args.pos ≡ resolved (scope_view c.args.scope.now) (tree.form_view c.args.form.now c.args.pos)) (codes.If c.in_ok-test-in-None.test c.in_ok-test-in-None.part None) c.choice.result c.choice.ensures
    (one_part (scope_view c.args.scope.now) c.args.pos c.in_ok-test-in-None.test c.in_ok-test-in-None.part c.in-If.test c.in-If.part c.args.form.now is test part)

pub resolve_form-returns-in_ok-test-in-Some : goal.resolve_form-returns-in_ok-test-in-Some
resolve_form-returns-in_ok-test-in-Some t c =
    let is : c.args.form.now ≡ If c.in-If.test c.in-If.part (Some c.in-Some.rest) = c.in-If.is ∙ ap (λ (o : Option (List Expr)). If c.in-If.test c.in-If.part o) (sym c.get-in-If-3.ensures ∙ c.in-Some.is) in
    let test : code.view c.in_ok-test-in-Some.test ≡ resolved (scope_view c.args.scope.now) (tree.view c.in-If.test) = search rules in
    let part : code.list_view c.in_ok-test-in-Some.part ≡ resolved_all (scope_view c.args.scope.now) (tree.list_view c.in-If.part) = search rules in
    let rest : code.list_view c.in_ok-test-in-Some.rest ≡ resolved_all (scope_view c.args.scope.now) (tree.list_view c.in-Some.rest) = search rules in
    once_shared (λ f. code.form_view f c.args.pos ≡ resolved (scope_view c.args.scope.now) (tree.form_view c.args.form.now c.args.pos)) (codes.If c.in_ok-test-in-Some.test c.in_ok-test-in-Some.part (Some c.in_ok-test-in-Some.rest)) c.choice-in-Some.result c.choice-in-Some.ensures
    (two_parts (scope_view c.args.scope.now) c.args.pos c.in_ok-test-in-Some.test c.in_ok-test-in-Some.part c.in_ok-test-in-Some.rest c.in-If.test c.in-If.part c.in-Some.rest c.args.form.now is test part rest)

pub resolve_links-returns : goal.resolve_links-returns
resolve_links-returns t c = links_done (scope_view c.args.scope.now) c.loop-link.codes c.args.links.now c.loop-link.link-index c.loop-link-test.false c.loop-link.invariant

pub resolve_list-returns : goal.resolve_list-returns
resolve_list-returns t c = list_done (scope_view c.args.scope.now) c.loop-expr.codes c.args.list.now c.loop-expr.expr-index c.loop-expr-test.false c.loop-expr.invariant

pub resolve_sendings-returns : goal.resolve_sendings-returns
resolve_sendings-returns t c = sendings_done (scope_view c.args.scope.now) c.loop-sending.codes c.args.sendings.now c.loop-sending.sending-index c.loop-sending-test.false c.loop-sending.invariant
