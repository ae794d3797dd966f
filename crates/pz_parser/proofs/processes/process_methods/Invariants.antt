use Rattle.std.proofs.Common.{◌≡◌, ◌-◌, map}
use Rattle.pz_syntax.specs.ClassView.{process_method_view}
use Rattle.pz_parser_cursor.specs.declared.ahead.Next.TheVariants as n
use Rattle.pz_parser_cursor.specs.devices.Input.{sees}
use Rattle.pz_parser_cursor.specs.devices.Lists.{repeat, with_front}
use Rattle.pz_parser.specs.devices.Processes.{process_methods, process_method}
use Rattle.pz_parser.proofs.processes.process_methods.Given as goal

abbrev pub invariant-loop-turn : goal.invariant-loop-turn
invariant-loop-turn l = process_methods l.fn.depth l.fn.cursor ≡ with_front (map process_method_view l.found) (repeat (sees n.Head) (process_method l.fn.depth) (l._turn-end - l._turn) l.cursor)
