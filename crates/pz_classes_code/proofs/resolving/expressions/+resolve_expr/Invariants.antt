use Rattle.std.proofs.Common.{◌≡◌, map, take}
use Rattle.pz_syntax.specs.ExpressionView as tree
use Rattle.pz_classes_code.specs.CodeView as code
use Rattle.pz_classes_code.specs.Resolution.{resolved}
use Rattle.pz_classes_code.specs.ScopeView.{scope_view}
use Rattle.pz_classes_code.proofs.ResolvedLists.{resolved_link, resolved_sending}
use Rattle.pz_classes_code.proofs.resolving.expressions.+resolve_expr.Given as goal

abbrev pub invariant-resolve_list-loop-expr : goal.invariant-resolve_list-loop-expr
invariant-resolve_list-loop-expr l = map code.view l.codes ≡ map (λ e. resolved (scope_view l.scope) (tree.view e)) (take l.expr-index l.list)

abbrev pub invariant-resolve_links-loop-link : goal.invariant-resolve_links-loop-link
invariant-resolve_links-loop-link l = map code.link_view l.codes ≡ map (λ e. resolved_link (scope_view l.scope) (tree.link_view e)) (take l.link-index l.links)

abbrev pub invariant-resolve_sendings-loop-sending : goal.invariant-resolve_sendings-loop-sending
invariant-resolve_sendings-loop-sending l = map code.sending_view l.codes ≡ map (λ e. resolved_sending (scope_view l.scope) (tree.sending_view e)) (take l.sending-index l.sendings)
