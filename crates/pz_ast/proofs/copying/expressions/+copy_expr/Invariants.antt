use Rattle.std.proofs.Common.{◌≡◌, take}
use Rattle.pz_ast.proofs.copying.expressions.+copy_expr.Given as goal

abbrev pub invariant-copy_links-loop-link : goal.invariant-copy_links-loop-link
invariant-copy_links-loop-link l = l.copy ≡ take l.link-index l.links

abbrev pub invariant-copy_list-loop-expr : goal.invariant-copy_list-loop-expr
invariant-copy_list-loop-expr l = l.copy ≡ take l.expr-index l.list

abbrev pub invariant-copy_sendings-loop-sending : goal.invariant-copy_sendings-loop-sending
invariant-copy_sendings-loop-sending l = l.copy ≡ take l.sending-index l.sendings
