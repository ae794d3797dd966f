use Rattle.pz_parser_statements.proofs.Loops.{stmt_is}
use Rattle.pz_parser_statements.proofs.grammar.+stmt.Goals as goal

pub returns : goal.returns
returns t c = rw (stmt_is c.args.depth) c.statement.ensures
