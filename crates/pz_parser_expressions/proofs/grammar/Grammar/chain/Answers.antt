use Rattle.std.proofs.Common.{map, refl}
use Rattle.pz_syntax.specs.ExpressionView.{view, link_view}
use Rattle.pz_parser_expressions.specs.devices.Values.{chained, chain_of}
use Rattle.pz_parser_expressions.proofs.Loops.{made}
use Rattle.pz_parser_expressions.proofs.grammar.Grammar.chain.Goals as goal

pub returns : goal.returns
unfolding chain_of
returns g c = record { reads = made view _ _ (chained c.pos-pos.result (view c.in_ok-first.first) (map link_view c.in_ok-found.found)) _ (rw (c.in_ok-first.ensures.reads, c.in_ok-found.ensures.reads, c.pos-pos.ensures.is) refl) c.chained.ensures }
