use Rattle.std.proofs.Common.{◌+◌, ◌*◌, ◌-◌}
use Rattle.pz_parser_expressions.specs.devices.Rules.{rank}
use Rattle.pz_parser_expressions.proofs.grammar.+expr.Given as goal

abbrev pub decreases-expr : goal.decreases-expr
decreases-expr l = 7 * l.depth + (6 - rank l.rule)
