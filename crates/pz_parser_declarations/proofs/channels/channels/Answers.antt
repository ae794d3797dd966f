use Rattle.std.proofs.Common.{◌≡◌, suc, ◌+◌, ◌-◌, true, sym, ap, ◌∙◌, arith}
use Rattle.pz_parser_cursor.specs.declared.ahead.Next.TheVariants as n
use Rattle.pz_parser_cursor.specs.devices.Input.{sees}
use Rattle.pz_parser_cursor.specs.devices.Lists.{repeat, with_front}
use Rattle.pz_parser_cursor.proofs.Loops.{repeat_more}
use Rattle.pz_parser_declarations.specs.devices.Clusters.{one_channel}
use Rattle.pz_parser_declarations.proofs.channels.channels.Goals as goal

pub loop-turn-preserved : goal.loop-turn-preserved
loop-turn-preserved c =
    let k : c.left-turn-end.result - c.loop-turn._turn ≡ suc (c.left-turn-end.result - (c.loop-turn._turn + 1)) = omega arith in
    let seen : sees n.LeftBrace c.loop-turn.cursor ≡ true = grind (arith, c.sees.ensures.is) in
    c.loop-turn.invariant
    ∙ ap (λ t. with_front c.loop-turn.found (repeat (sees n.LeftBrace) one_channel t c.loop-turn.cursor)) k
    ∙ repeat_more (sees n.LeftBrace) one_channel _ _ _ _ _ seen c.in_ok-channel.ensures
    ∙ ap (λ l. with_front l (repeat (sees n.LeftBrace) one_channel (c.left-turn-end.result - (c.loop-turn._turn + 1)) c.channel.new.cursor)) (sym c.in_ok-push.ensures.ok)
