use Rattle.std.proofs.Common.{◌≡◌, ◌-◌, map}
use Rattle.pz_syntax.specs.StatementView.{view}
use Rattle.pz_parser_cursor.specs.declared.ahead.Next.TheVariants as n
use Rattle.pz_parser_cursor.specs.devices.Lists.{more_of, tail_of, with_front}
use Rattle.pz_parser_statements.specs.devices.Statements.{below_stmt}
use Rattle.pz_parser_statements.proofs.grammar.Grammar.more.Given as goal

abbrev pub invariant-loop-turn : goal.invariant-loop-turn
invariant-loop-turn g l = more_of (below_stmt l.self.depth) n.Semicolon (map view l.fn.found) l.fn.cursor ≡ with_front (map view l.found) (tail_of (below_stmt l.self.depth) n.Semicolon (l._turn-end - l._turn) l.cursor)
