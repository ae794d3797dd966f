use Rattle.std.proofs.Common.{◌≡◌, ◌-◌, map}
use Rattle.pz_syntax.specs.ClassView.{decl_view}
use Rattle.pz_parser_cursor.specs.devices.Lists.{repeat, with_front}
use Rattle.pz_parser.specs.devices.Models.{more_decls, begins_decl, decl}
use Rattle.pz_parser.proofs.models.more_decls.Given as goal

abbrev pub invariant-loop-turn : goal.invariant-loop-turn
invariant-loop-turn l = more_decls l.fn.depth (map decl_view l.fn.found) l.fn.cursor ≡ with_front (map decl_view l.found) (repeat begins_decl (decl l.fn.depth) (l._turn-end - l._turn) l.cursor)
