use Rattle.std.proofs.Common.{◌≡◌, ℕ, suc, ◌+◌, ◌-◌, true, Ok, sym, ap, ◌∙◌, arith, map}
use Rattle.pz_syntax.specs.ClassView.{process_method_view}
use Rattle.pz_parser_cursor.specs.declared.ahead.Next.TheVariants as n
use Rattle.pz_parser_cursor.specs.devices.Input.{sees}
use Rattle.pz_parser_cursor.specs.devices.Lists.{repeat, with_front}
use Rattle.pz_parser_cursor.proofs.Loops.{repeat_more, map_more}
use Rattle.pz_parser.specs.devices.Processes.{process_method}
use Rattle.pz_parser.proofs.processes.process_methods.Goals as goal

pub loop-turn-preserved : goal.loop-turn-preserved
loop-turn-preserved c =
    let k : c.left-turn-end.result - c.loop-turn._turn ≡ suc (c.left-turn-end.result - (c.loop-turn._turn + 1)) = omega arith in
    let seen : sees n.Head c.loop-turn.cursor ≡ true = grind (arith, c.sees.ensures.is) in
    let item = process_method c.args.depth in
    c.loop-turn.invariant
    ∙ ap (λ t. with_front (map process_method_view c.loop-turn.found) (repeat (sees n.Head) item t c.loop-turn.cursor)) k
    ∙ repeat_more (sees n.Head) item _ _ _ _ _ seen c.in_ok-process_method.ensures
    ∙ ap (λ l. with_front l (repeat (sees n.Head) item (c.left-turn-end.result - (c.loop-turn._turn + 1)) c.process_method.new.cursor)) (map_more process_method_view _ _ _ c.in_ok-push.ensures.ok)
