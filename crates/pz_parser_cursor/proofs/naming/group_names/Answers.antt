use Rattle.std.proofs.Common.{◌≡◌, suc, ◌+◌, ◌-◌, ◌∷◌, [], ◌++◌, Ok, Err, sym, ap, ◌∙◌, arith}
use Rattle.pz_parser_cursor.specs.declared.ahead.Next.TheVariants as n
use Rattle.pz_parser_cursor.specs.devices.LookAhead.{next}
use Rattle.pz_parser_cursor.specs.devices.Input.{after, identifier}
use Rattle.pz_parser_cursor.specs.devices.Device.{expect}
use Rattle.pz_parser_cursor.specs.devices.Names.{names_of_group}
use Rattle.pz_parser_cursor.specs.devices.Lists.{with_front}
use Rattle.pz_parser_cursor.proofs.GroupLoop.{ok_is, names_more, names_refused}
use Rattle.pz_parser_cursor.proofs.naming.group_names.Goals as goal

pub returns-in_default : goal.returns-in_default
returns-in_default c = λ ne.
    let k : c.left-turn-end.result - c.loop-turn._turn ≡ suc (c.left-turn-end.result - (c.loop-turn._turn + 1)) = omega arith in
    c.loop-turn.invariant
    ∙ ap (λ t. with_front c.loop-turn.found (names_of_group t c.loop-turn.cursor)) k
    ∙ names_refused (c.left-turn-end.result - (c.loop-turn._turn + 1)) c.loop-turn.found c.loop-turn.cursor (λ e. c.in_default.not-Word (c.peek.ensures.is ∙ e)) (λ e. c.in_default.not-Head (c.peek.ensures.is ∙ e))
    ∙ ap Err (sym c.refuse.ensures.is)

pub loop-turn-preserved : goal.loop-turn-preserved
loop-turn-preserved c =
    let k : c.left-turn-end.result - c.loop-turn._turn ≡ suc (c.left-turn-end.result - (c.loop-turn._turn + 1)) = omega arith in
    let seen : next c.loop-turn.cursor ≡ n.Word = sym c.in-Word.ensures.is in
    let taken : (identifier c.loop-turn.cursor, after c.loop-turn.cursor) ≡ (c.in_ok-take_id-in-Word.field-0, c.take_id.new.self) = ok_is _ _ c.in_ok-take_id-in-Word.ensures.reads in
    let read : expect n.Comma (after c.loop-turn.cursor) ≡ Ok (tt, c.expect.new.self) = ap (expect n.Comma) (ap (λ p. p.1) taken) ∙ c.in_ok-expect-in-Word.ensures.reads in
    let pushed : c.loop-turn.found ++ identifier c.loop-turn.cursor ∷ [] ≡ c.push.new.self = ap (λ x. c.loop-turn.found ++ x ∷ []) (ap (λ p. p.0) taken) ∙ sym c.in_ok-push-in-Word.ensures.ok in
    c.loop-turn.invariant
    ∙ ap (λ t. with_front c.loop-turn.found (names_of_group t c.loop-turn.cursor)) k
    ∙ names_more (c.left-turn-end.result - (c.loop-turn._turn + 1)) c.loop-turn.found c.loop-turn.cursor c.expect.new.self seen read
    ∙ ap (λ l. with_front l (names_of_group (c.left-turn-end.result - (c.loop-turn._turn + 1)) c.expect.new.self)) pushed
