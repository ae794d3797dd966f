use Rattle.std.proofs.Common.{◌≡◌, suc, ◌+◌, ◌-◌, true, map, ap, ◌∙◌, arith}
use Rattle.pz_syntax.specs.ClassView.{data_method_view}
use Rattle.pz_parser_cursor.specs.devices.Input.{selects_head}
use Rattle.pz_parser_cursor.specs.devices.Lists.{with_front, repeat}
use Rattle.pz_parser_cursor.proofs.Loops.{repeat_more, map_more}
use Rattle.pz_parser_declarations.specs.devices.DataClasses.{data_method}
use Rattle.pz_parser_declarations.proofs.data_classes.data_methods.Goals as goal

pub loop-turn-preserved : goal.loop-turn-preserved
loop-turn-preserved c =
    let k : c.left-turn-end.result - c.loop-turn._turn ≡ suc (c.left-turn-end.result - (c.loop-turn._turn + 1)) = omega arith in
    let seen : selects_head c.loop-turn.cursor ≡ true = grind (arith, c.sees_selector_head.ensures.is) in
    let item = data_method c.args.depth in
    c.loop-turn.invariant
    ∙ ap (λ n. with_front (map data_method_view c.loop-turn.found) (repeat selects_head item n c.loop-turn.cursor)) k
    ∙ repeat_more selects_head item _ _ _ _ _ seen c.in_ok-data_method.ensures
    ∙ ap (λ l. with_front l (repeat selects_head item (c.left-turn-end.result - (c.loop-turn._turn + 1)) c.data_method.new.cursor)) (map_more data_method_view _ _ _ c.in_ok-push.ensures.ok)
