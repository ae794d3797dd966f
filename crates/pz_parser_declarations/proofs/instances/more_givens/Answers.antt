use Rattle.std.proofs.Common.{◌≡◌, suc, ◌+◌, ◌-◌, true, Ok, sym, ap, ◌∙◌, arith}
use Rattle.pz_parser_cursor.specs.declared.ahead.Next.TheVariants as n
use Rattle.pz_parser_cursor.specs.devices.Input.{sees, after}
use Rattle.pz_parser_cursor.specs.devices.Lists.{tail_of, with_front}
use Rattle.pz_parser_cursor.proofs.Loops.{tail_more, past_is}
use Rattle.pz_parser_declarations.specs.devices.Clusters.{given}
use Rattle.pz_parser_declarations.proofs.instances.more_givens.Goals as goal

pub loop-turn-preserved : goal.loop-turn-preserved
loop-turn-preserved c =
    let k : c.left-turn-end.result - c.loop-turn._turn ≡ suc (c.left-turn-end.result - (c.loop-turn._turn + 1)) = omega arith in
    let seen : sees n.Comma c.loop-turn.cursor ≡ true = grind (arith, c.eat.ensures.found) in
    let read : given (after c.loop-turn.cursor) ≡ Ok (c.in_ok-given.field-0, c.given.new.cursor) = ap given (sym (c.eat.ensures.past ∙ past_is _ _ seen)) ∙ c.in_ok-given.ensures in
    c.loop-turn.invariant
    ∙ ap (λ t. with_front c.loop-turn.found (tail_of given n.Comma t c.loop-turn.cursor)) k
    ∙ tail_more given _ _ _ _ _ _ seen read
    ∙ ap (λ l. with_front l (tail_of given n.Comma (c.left-turn-end.result - (c.loop-turn._turn + 1)) c.given.new.cursor)) (sym c.in_ok-push.ensures.ok)
