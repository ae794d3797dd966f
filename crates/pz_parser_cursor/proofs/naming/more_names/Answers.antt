use Rattle.std.proofs.Common.{◌≡◌, suc, ◌+◌, ◌-◌, true, Ok, sym, ap, ◌∙◌, arith}
use Rattle.pz_parser_cursor.specs.declared.ahead.Next.TheVariants as n
use Rattle.pz_parser_cursor.specs.devices.Input.{sees, after}
use Rattle.pz_parser_cursor.specs.devices.Names.{word}
use Rattle.pz_parser_cursor.specs.devices.Lists.{tail_of, with_front}
use Rattle.pz_parser_cursor.proofs.Loops.{tail_more, past_is}
use Rattle.pz_parser_cursor.proofs.naming.more_names.Goals as goal

pub loop-turn-preserved : goal.loop-turn-preserved
loop-turn-preserved c =
    let k : c.left-turn-end.result - c.loop-turn._turn ≡ suc (c.left-turn-end.result - (c.loop-turn._turn + 1)) = omega arith in
    let seen : sees n.Comma c.loop-turn.cursor ≡ true = grind (arith, c.eat.ensures.found) in
    let read : word (after c.loop-turn.cursor) ≡ Ok (c.in_ok-expect_id.field-0, c.expect_id.new.self) = ap word (sym (c.eat.ensures.past ∙ past_is _ _ seen)) ∙ c.in_ok-expect_id.ensures.reads in
    c.loop-turn.invariant
    ∙ ap (λ t. with_front c.loop-turn.found (tail_of word n.Comma t c.loop-turn.cursor)) k
    ∙ tail_more word _ _ _ _ _ _ seen read
    ∙ ap (λ l. with_front l (tail_of word n.Comma (c.left-turn-end.result - (c.loop-turn._turn + 1)) c.expect_id.new.self)) (sym c.in_ok-push.ensures.ok)
