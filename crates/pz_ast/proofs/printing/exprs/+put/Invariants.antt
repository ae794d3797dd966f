use Rattle.std.proofs.Common.{◌≡◌, ◌++◌, map, drop}
use Rattle.pz_syntax.specs.ExpressionText.{texts, links_text, sendings_text}
use Rattle.pz_syntax.specs.ExpressionView.{list_view, link_view, sending_view, links_of, sendings_of}
use Rattle.pz_ast.proofs.Rests.{rest_texts}
use Rattle.pz_ast.proofs.printing.exprs.+put.Given as goal

abbrev pub invariant-put_exprs-loop-i : goal.invariant-put_exprs-loop-i
invariant-put_exprs-loop-i l = l.out ++ rest_texts l.i l.separator (list_view (drop l.i l.es)) ≡ l.fn.out ++ texts l.separator (list_view l.es)

abbrev pub invariant-put_links-loop-link : goal.invariant-put_links-loop-link
invariant-put_links-loop-link l = l.out ++ links_text (links_of (map link_view (drop l.link-index l.links))) ≡ l.fn.out ++ links_text (links_of (map link_view l.links))

abbrev pub invariant-put_sendings-loop-sending : goal.invariant-put_sendings-loop-sending
invariant-put_sendings-loop-sending l = l.out ++ sendings_text (sendings_of (map sending_view (drop l.sending-index l.sendings))) ≡ l.fn.out ++ sendings_text (sendings_of (map sending_view l.sendings))
