use Rattle.std.proofs.Common.{◌+◌, arith}
use Rattle.pz_parser_statements.proofs.Loops.{body_is}
use Rattle.pz_parser_statements.proofs.grammar.stmts.Goals as goal

pub returns : goal.returns
returns c = record { reads = body_is c.args.depth (c.args.depth + 1) c.args.cursor.now c.sequence.result c.sequence.new.cursor (omega arith) c.sequence.ensures.reads }
