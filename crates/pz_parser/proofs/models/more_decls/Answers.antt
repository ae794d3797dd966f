use Rattle.std.proofs.Common.{◌≡◌, ℕ, suc, ◌+◌, ◌-◌, true, Ok, sym, ap, ◌∙◌, arith, map}
use Rattle.pz_syntax.specs.ClassView.{decl_view}
use Rattle.pz_parser_cursor.specs.devices.Lists.{repeat, with_front}
use Rattle.pz_parser_cursor.proofs.Loops.{repeat_more, map_more}
use Rattle.pz_parser.specs.devices.Models.{begins_decl, decl}
use Rattle.pz_parser.proofs.models.more_decls.Goals as goal

pub loop-turn-preserved : goal.loop-turn-preserved
loop-turn-preserved c =
    let k : c.left-turn-end.result - c.loop-turn._turn ≡ suc (c.left-turn-end.result - (c.loop-turn._turn + 1)) = omega arith in
    let seen : begins_decl c.loop-turn.cursor ≡ true = grind (arith, c.begins_decl.ensures) in
    let item = decl c.args.depth in
    c.loop-turn.invariant
    ∙ ap (λ t. with_front (map decl_view c.loop-turn.found) (repeat begins_decl item t c.loop-turn.cursor)) k
    ∙ repeat_more begins_decl item _ _ _ _ _ seen c.in_ok-decl.ensures
    ∙ ap (λ l. with_front l (repeat begins_decl item (c.left-turn-end.result - (c.loop-turn._turn + 1)) c.decl.new.cursor)) (map_more decl_view _ _ _ c.in_ok-push.ensures.ok)
