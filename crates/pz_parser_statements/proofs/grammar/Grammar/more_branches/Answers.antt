use Rattle.std.proofs.Common.{◌≡◌, suc, ◌+◌, ◌-◌, true, map, Ok, sym, ap, ◌∙◌, arith, rules}
use Rattle.pz_syntax.specs.StatementView.{view}
use Rattle.pz_parser_cursor.specs.devices.Input.{sees, after}
use Rattle.pz_parser_cursor.specs.devices.Lists.{tail_of, with_front}
use Rattle.pz_parser_cursor.proofs.Loops.{tail_more, map_more, past_is}
use Rattle.pz_parser_statements.specs.devices.Statements.{below_stmt, sequence}
use Rattle.pz_parser_statements.proofs.grammar.Grammar.more_branches.Goals as goal

pub loop-turn-preserved : goal.loop-turn-preserved
loop-turn-preserved g c =
    let k : c.left-turn-end.result - c.loop-turn._turn ≡ suc (c.left-turn-end.result - (c.loop-turn._turn + 1)) = omega arith in
    let seen : sees c.args.separator c.loop-turn.cursor ≡ true = grind (arith, c.eat.ensures.found) in
    let item = sequence c.args.self.now.depth (below_stmt c.args.self.now.depth) in
    let read : item (after c.loop-turn.cursor) ≡ Ok (map view c.in_ok-sequence.field-0, c.sequence.new.cursor) = ap item (sym (c.eat.ensures.past ∙ past_is _ _ seen)) ∙ c.in_ok-sequence.ensures.reads in
    c.loop-turn.invariant
    ∙ ap (λ t. with_front (map (map view) c.loop-turn.found) (tail_of item c.args.separator t c.loop-turn.cursor)) k
    ∙ tail_more item _ _ _ _ _ _ seen read
    ∙ ap (λ l. with_front l (tail_of item c.args.separator (c.left-turn-end.result - (c.loop-turn._turn + 1)) c.sequence.new.cursor)) (map_more (map view) _ _ _ c.in_ok-push.ensures.ok)

pub returns-in_err-sequence : goal.returns-in_err-sequence
unfolding tail_of
returns-in_err-sequence g c =
    let k : c.left-turn-end.result - c.loop-turn._turn ≡ suc (c.left-turn-end.result - (c.loop-turn._turn + 1)) = omega arith in
    let seen : sees c.args.separator c.loop-turn.cursor ≡ true = grind (arith, c.eat.ensures.found) in
    rw (c.loop-turn.invariant, k, seen, ← c.eat.ensures.past) (search rules)
