use Rattle.std.proofs.Common.{◌≡◌, ◌-◌, map}
use Rattle.pz_syntax.specs.StatementView.{view}
use Rattle.pz_parser_cursor.specs.devices.Lists.{more_of, tail_of, with_front}
use Rattle.pz_parser_statements.specs.devices.Statements.{below_stmt, sequence}
use Rattle.pz_parser_statements.proofs.grammar.Grammar.more_branches.Given as goal

abbrev pub invariant-loop-turn : goal.invariant-loop-turn
invariant-loop-turn g l = more_of (sequence l.self.depth (below_stmt l.self.depth)) l.fn.separator (map (map view) l.fn.found) l.fn.cursor ≡ with_front (map (map view) l.found) (tail_of (sequence l.self.depth (below_stmt l.self.depth)) l.fn.separator (l._turn-end - l._turn) l.cursor)
