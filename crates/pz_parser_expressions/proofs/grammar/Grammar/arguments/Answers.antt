use Rattle.std.proofs.Common.{refl}
use Rattle.pz_parser_expressions.specs.devices.Values.{arguments}
use Rattle.pz_parser_expressions.proofs.grammar.Grammar.arguments.Goals as goal

pub returns-in_ok-enclosed-in-LeftParen : goal.returns-in_ok-enclosed-in-LeftParen
unfolding arguments
returns-in_ok-enclosed-in-LeftParen g c = record { reads = rw (← c.in-LeftParen.ensures.is, c.in_ok-enclosed-in-LeftParen.ensures.reads) refl }
