use Rattle.std.proofs.Common.{refl}
use Rattle.pz_syntax.specs.Expressions.{choice}
use Rattle.pz_syntax.specs.ExpressionView.{view, list_view, part_view}
use Rattle.pz_parser_expressions.specs.devices.Values.{conditional}
use Rattle.pz_parser_expressions.proofs.Loops.{made}
use Rattle.pz_parser_expressions.proofs.grammar.Grammar.conditional.Goals as goal

pub returns : goal.returns
unfolding conditional
returns g c = record { reads = made view _ _ (choice c.pos-pos.result (view c.in_ok-test.test) (list_view c.in_ok-body.body) (part_view c.in_ok-other.other)) _ (rw (c.in_ok-deepen.ensures.reads, c.in_ok-test.ensures.reads, c.in_ok-body.ensures.reads, c.in_ok-other.ensures.reads, c.in_ok-expect.ensures.reads, c.pos-pos.ensures.is) refl) c.choice.ensures }
