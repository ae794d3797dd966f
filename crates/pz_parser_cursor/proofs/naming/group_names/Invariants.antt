use Rattle.std.proofs.Common.{◌≡◌, ◌-◌}
use Rattle.pz_parser_cursor.specs.devices.Lists.{with_front}
use Rattle.pz_parser_cursor.specs.devices.Names.{group_names, names_of_group}
use Rattle.pz_parser_cursor.proofs.naming.group_names.Given as goal

abbrev pub invariant-loop-turn : goal.invariant-loop-turn
invariant-loop-turn l = group_names l.fn.cursor ≡ with_front l.found (names_of_group (l._turn-end - l._turn) l.cursor)
