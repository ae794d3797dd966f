use Rattle.std.proofs.Common.{◌≡◌, ◌-◌, map}
use Rattle.pz_syntax.specs.ExpressionView.{view}
use Rattle.pz_parser_cursor.specs.devices.Lists.{more_of, tail_of, with_front}
use Rattle.pz_parser_expressions.specs.declared.rule.Rule.TheVariants as rule
use Rattle.pz_parser_expressions.specs.devices.Values.{below}
use Rattle.pz_parser_expressions.proofs.grammar.Grammar.more.Given as goal

abbrev pub invariant-loop-turn : goal.invariant-loop-turn
invariant-loop-turn g l = more_of (below l.self.depth rule.Expression) l.fn.separator (map view l.fn.found) l.fn.cursor ≡ with_front (map view l.found) (tail_of (below l.self.depth rule.Expression) l.fn.separator (l._turn-end - l._turn) l.cursor)
