use Rattle.std.proofs.Common.{◌≡◌, suc, ◌+◌, ◌-◌, true, map, Ok, sym, ap, ◌∙◌, arith, rules}
use Rattle.pz_syntax.specs.ExpressionView.{view}
use Rattle.pz_parser_cursor.specs.devices.Input.{sees, after}
use Rattle.pz_parser_cursor.specs.devices.Lists.{tail_of, with_front}
use Rattle.pz_parser_expressions.specs.declared.rule.Rule.TheVariants as rule
use Rattle.pz_parser_expressions.specs.devices.Values.{below}
use Rattle.pz_parser_cursor.proofs.Loops.{tail_more, map_more, past_is}
use Rattle.pz_parser_expressions.proofs.grammar.Grammar.more.Goals as goal

pub loop-turn-preserved : goal.loop-turn-preserved
loop-turn-preserved g c =
    let k : c.left-turn-end.result - c.loop-turn._turn ≡ suc (c.left-turn-end.result - (c.loop-turn._turn + 1)) = omega arith in
    let seen : sees c.args.separator c.loop-turn.cursor ≡ true = grind (arith, c.eat.ensures.found) in
    let item = below c.args.self.now.depth rule.Expression in
    let read : item (after c.loop-turn.cursor) ≡ Ok (view c.in_ok-inner.field-0, c.inner.new.cursor) = ap item (sym (c.eat.ensures.past ∙ past_is _ _ seen)) ∙ c.in_ok-inner.ensures.reads in
    c.loop-turn.invariant
    ∙ ap (λ n. with_front (map view c.loop-turn.found) (tail_of item c.args.separator n c.loop-turn.cursor)) k
    ∙ tail_more item _ _ _ _ _ _ seen read
    ∙ ap (λ l. with_front l (tail_of item c.args.separator (c.left-turn-end.result - (c.loop-turn._turn + 1)) c.inner.new.cursor)) (map_more view _ _ _ c.in_ok-push.ensures.ok)

pub returns-in_err-inner : goal.returns-in_err-inner
unfolding tail_of
returns-in_err-inner g c =
    let k : c.left-turn-end.result - c.loop-turn._turn ≡ suc (c.left-turn-end.result - (c.loop-turn._turn + 1)) = omega arith in
    let seen : sees c.args.separator c.loop-turn.cursor ≡ true = grind (arith, c.eat.ensures.found) in
    rw (c.loop-turn.invariant, k, seen, ← c.eat.ensures.past) (search rules)
