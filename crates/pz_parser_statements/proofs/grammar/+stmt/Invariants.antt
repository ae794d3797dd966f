use Rattle.pz_parser_statements.proofs.grammar.+stmt.Given as goal

abbrev pub decreases-stmt : goal.decreases-stmt
decreases-stmt l = l.depth
