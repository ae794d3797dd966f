use Rattle.std.proofs.Common.{◌≡◌, ◌-◌, map}
use Rattle.pz_syntax.specs.ExpressionView.{sending_view}
use Rattle.pz_parser_cursor.specs.devices.Input.{selects}
use Rattle.pz_parser_cursor.specs.devices.Lists.{with_front, repeat}
use Rattle.pz_parser_expressions.specs.devices.Values.{below, all_sendings, one_sending}
use Rattle.pz_parser_expressions.proofs.grammar.Grammar.sendings.Given as goal

abbrev pub invariant-loop-turn : goal.invariant-loop-turn
invariant-loop-turn g l = all_sendings l.self.depth (below l.self.depth) l.fn.cursor ≡ with_front (map sending_view l.found) (repeat selects (one_sending l.self.depth (below l.self.depth)) (l._turn-end - l._turn) l.cursor)
