use Rattle.std.proofs.Common.{◌≡◌, ◌-◌, map}
use Rattle.pz_syntax.specs.ClassView.{data_method_view}
use Rattle.pz_parser_cursor.specs.devices.Input.{selects_head}
use Rattle.pz_parser_cursor.specs.devices.Lists.{with_front, repeat}
use Rattle.pz_parser_declarations.specs.devices.DataClasses.{data_methods, data_method}
use Rattle.pz_parser_declarations.proofs.data_classes.data_methods.Given as goal

abbrev pub invariant-loop-turn : goal.invariant-loop-turn
invariant-loop-turn l = data_methods l.fn.depth l.fn.cursor ≡ with_front (map data_method_view l.found) (repeat selects_head (data_method l.fn.depth) (l._turn-end - l._turn) l.cursor)
