use Rattle.std.proofs.Common.{◌≡◌, ◌-◌, map}
use Rattle.pz_syntax.specs.ExpressionView.{link_view}
use Rattle.pz_parser_cursor.specs.devices.Lists.{with_front}
use Rattle.pz_parser_expressions.specs.devices.Rules.{operator}
use Rattle.pz_parser_expressions.specs.devices.Values.{expr, all_links, links_by}
use Rattle.pz_parser_expressions.proofs.grammar.Grammar.links.Given as goal

abbrev pub invariant-loop-turn : goal.invariant-loop-turn
invariant-loop-turn g l = all_links (operator l.self.rule) (expr l.self.depth l.fn.operand) l.fn.cursor ≡ with_front (map link_view l.found) (links_by (operator l.self.rule) (expr l.self.depth l.fn.operand) (l._turn-end - l._turn) l.cursor)
