use Rattle.std.proofs.Common.{◌≡◌, max, map, drop}
use Rattle.pz_syntax.specs.ExpressionView.{list_view, link_view, sending_view, links_of, sendings_of}
use Rattle.pz_syntax.specs.ExpressionNesting.{nestings, links_nesting, sendings_nesting}
use Rattle.pz_ast.proofs.depth.exprs.+nest.Given as goal

abbrev pub invariant-exprs_nesting-loop-e : goal.invariant-exprs_nesting-loop-e
invariant-exprs_nesting-loop-e l = max l.deepest (nestings (list_view (drop l.e-index l.es))) ≡ nestings (list_view l.es)

abbrev pub invariant-links_nesting-loop-link : goal.invariant-links_nesting-loop-link
invariant-links_nesting-loop-link l = max l.deepest (links_nesting (links_of (map link_view (drop l.link-index l.links)))) ≡ links_nesting (links_of (map link_view l.links))

abbrev pub invariant-sendings_nesting-loop-sending : goal.invariant-sendings_nesting-loop-sending
invariant-sendings_nesting-loop-sending l = max l.deepest (sendings_nesting (sendings_of (map sending_view (drop l.sending-index l.sendings)))) ≡ sendings_nesting (sendings_of (map sending_view l.sendings))
