use Rattle.pz_parser_expressions.specs.devices.Values.{primary}
use Rattle.pz_parser_expressions.proofs.grammar.Grammar.primary.Goals as goal

pub returns-in-LeftParen : goal.returns-in-LeftParen
unfolding primary
returns-in-LeftParen g c = record { reads = rw (← c.in-LeftParen.ensures.is) c.group.ensures.reads }

pub returns-in-If : goal.returns-in-If
unfolding primary
returns-in-If g c = record { reads = rw (← c.in-If.ensures.is) c.conditional.ensures.reads }

pub returns-in-While : goal.returns-in-While
unfolding primary
returns-in-While g c = record { reads = rw (← c.in-While.ensures.is) c.repetition.ensures.reads }
