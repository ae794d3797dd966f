use Rattle.std.proofs.Common.{◌≡◌, suc, ◌+◌, ◌-◌, map, Some, None, sym, ap, ◌∙◌, arith, rules}
use Rattle.pz_syntax.specs.ExpressionView.{link_view}
use Rattle.pz_parser_cursor.specs.devices.LookAhead.{next}
use Rattle.pz_parser_cursor.specs.devices.Lists.{with_front}
use Rattle.pz_parser_expressions.specs.devices.Rules.{operator}
use Rattle.pz_parser_expressions.specs.devices.Values.{expr, links_by}
use Rattle.pz_parser_expressions.proofs.Loops.{links_more, links_stop}
use Rattle.pz_parser_cursor.proofs.Loops.{map_more}
use Rattle.pz_parser_expressions.proofs.grammar.Grammar.links.Goals as goal

pub loop-turn-preserved : goal.loop-turn-preserved
loop-turn-preserved g c =
    let k : c.left-turn-end.result - c.loop-turn._turn ≡ suc (c.left-turn-end.result - (c.loop-turn._turn + 1)) = omega arith in
    let ops = operator c.args.self.now.rule in
    let item = expr c.args.self.now.depth c.args.operand in
    let seen : ops (next c.loop-turn.cursor) ≡ Some c.in-Some.op = ap ops (sym c.peek.ensures.is) ∙ sym c.in-Some.ensures in
    c.loop-turn.invariant
    ∙ ap (λ n. with_front (map link_view c.loop-turn.found) (links_by ops item n c.loop-turn.cursor)) k
    ∙ links_more ops item _ _ _ _ _ _ seen c.in_ok-link.ensures.reads
    ∙ ap (λ l. with_front l (links_by ops item (c.left-turn-end.result - (c.loop-turn._turn + 1)) c.link.new.cursor)) (map_more link_view _ _ _ c.in_ok-push.ensures.ok)

pub returns-in_err-link : goal.returns-in_err-link
unfolding links_by
returns-in_err-link g c =
    let k : c.left-turn-end.result - c.loop-turn._turn ≡ suc (c.left-turn-end.result - (c.loop-turn._turn + 1)) = omega arith in
    rw (c.loop-turn.invariant, k, ← c.peek.ensures.is, ← c.in-Some.ensures) (search rules)

pub returns-in_default : goal.returns-in_default
returns-in_default g c =
    let k : c.left-turn-end.result - c.loop-turn._turn ≡ suc (c.left-turn-end.result - (c.loop-turn._turn + 1)) = omega arith in
    let ops = operator c.args.self.now.rule in
    let item = expr c.args.self.now.depth c.args.operand in
    let seen : ops (next c.loop-turn.cursor) ≡ None = ap ops (sym c.peek.ensures.is) ∙ sym c.in_default.ensures in
    record {
      reads = c.loop-turn.invariant
          ∙ ap (λ n. with_front (map link_view c.loop-turn.found) (links_by ops item n c.loop-turn.cursor)) k
          ∙ links_stop ops item _ _ _ seen;
    }
