use Rattle.std.proofs.Common.{◌≡◌, ◌-◌}
use Rattle.pz_parser_cursor.specs.declared.ahead.Next.TheVariants as n
use Rattle.pz_parser_cursor.specs.devices.Input.{sees}
use Rattle.pz_parser_cursor.specs.devices.Lists.{repeat, with_front}
use Rattle.pz_parser_declarations.specs.devices.Clusters.{channels, one_channel}
use Rattle.pz_parser_declarations.proofs.channels.channels.Given as goal

abbrev pub invariant-loop-turn : goal.invariant-loop-turn
invariant-loop-turn l = channels l.fn.cursor ≡ with_front l.found (repeat (sees n.LeftBrace) one_channel (l._turn-end - l._turn) l.cursor)
