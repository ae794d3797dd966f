use Rattle.pz_parser_expressions.proofs.Loops.{expr_is}
use Rattle.pz_parser_expressions.proofs.grammar.+expr.Goals as goal

pub returns : goal.returns
returns t c = rw (expr_is c.args.depth c.args.rule) c.whole.ensures
