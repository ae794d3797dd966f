use Rattle.std.proofs.Common.{◌≡◌, suc, ◌+◌, ◌-◌, true, map, ap, ◌∙◌, arith}
use Rattle.pz_syntax.specs.ExpressionView.{sending_view}
use Rattle.pz_parser_cursor.specs.devices.Input.{selects}
use Rattle.pz_parser_cursor.specs.devices.Lists.{with_front, repeat}
use Rattle.pz_parser_cursor.proofs.Loops.{repeat_more, map_more}
use Rattle.pz_parser_expressions.specs.devices.Values.{below, one_sending}
use Rattle.pz_parser_expressions.proofs.grammar.Grammar.sendings.Goals as goal

pub loop-turn-preserved : goal.loop-turn-preserved
loop-turn-preserved g c =
    let k : c.left-turn-end.result - c.loop-turn._turn ≡ suc (c.left-turn-end.result - (c.loop-turn._turn + 1)) = omega arith in
    let seen : selects c.loop-turn.cursor ≡ true = grind (arith, c.sees_selector.ensures.is) in
    let item = one_sending c.args.self.now.depth (below c.args.self.now.depth) in
    c.loop-turn.invariant
    ∙ ap (λ n. with_front (map sending_view c.loop-turn.found) (repeat selects item n c.loop-turn.cursor)) k
    ∙ repeat_more selects item _ _ _ _ _ seen c.in_ok-sending.ensures.reads
    ∙ ap (λ l. with_front l (repeat selects item (c.left-turn-end.result - (c.loop-turn._turn + 1)) c.sending.new.cursor)) (map_more sending_view _ _ _ c.in_ok-push.ensures.ok)
