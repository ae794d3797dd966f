use Rattle.std.proofs.Common.{◌≡◌, ◌-◌}
use Rattle.pz_parser_cursor.specs.declared.ahead.Next.TheVariants as n
use Rattle.pz_parser_cursor.specs.devices.Lists.{more_of, tail_of, with_front}
use Rattle.pz_parser_cursor.specs.devices.Names.{group}
use Rattle.pz_parser_cursor.proofs.naming.more_groups.Given as goal

abbrev pub invariant-loop-turn : goal.invariant-loop-turn
invariant-loop-turn l = more_of group n.Comma l.fn.found l.fn.cursor ≡ with_front l.found (tail_of group n.Comma (l._turn-end - l._turn) l.cursor)
