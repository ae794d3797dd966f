use Rattle.std.proofs.Common.{sym, ◌∙◌, refl, arith}
use Rattle.pz_nodes.specs.Arena.{find}
use Rattle.pz_tree_regrowing.proofs.HighRounds.{no_part, parallel_done, parallel_stays}
use Rattle.pz_tree_regrowing.proofs.beside.outline_parallel.Goals as goal

pub returns-then-number-keys : goal.returns-then-number-keys
returns-then-number-keys g c = no_part (find c.args.nodes.now) c.args.keys.now c.args.number c.args.left c.args.left c.args.steps.now c.args.steps.now (λ w. omega (arith, w, c.if-number-keys.true))

pub returns-then-stand_done : goal.returns-then-stand_done
returns-then-stand_done g c =
    parallel_done (find c.args.nodes.now) c.args.keys.now c.split_at.result.0.now c.split_at.result.1.now c.in-Some.behind.now c.args.number c.in-Some.field-0-0.now c.args.left c.outline_done.result c.args.steps.now c.args.steps.now
    c.split_at.ensures.front c.split_at.ensures.back c.in-Some.ensures.cases.0 c.split_at.ensures.front_len (sym c.stand_done.ensures ∙ c.if-stand_done.true) c.outline_done.ensures refl

pub returns : goal.returns
returns g c =
    parallel_stays (find c.args.nodes.now) c.args.keys.now c.split_at.result.0.now c.split_at.result.1.now c.in-Some.behind.now c.args.number c.in-Some.field-0-0.now c.args.left c.outline_above.result c.args.steps.now c.greatest_under-last.new.steps
    c.split_at.ensures.front c.split_at.ensures.back c.in-Some.ensures.cases.0 c.split_at.ensures.front_len c.max.result c.greatest_under-first.new.steps
    (sym c.stand_done.ensures ∙ c.if-stand_done.false) (omega (arith, c.max.ensures, c.max-others.ensures, c.greatest_under-first.ensures.height, c.greatest_under-last.ensures.height)) c.outline_above.ensures
    c.greatest_under-first.ensures.ticks c.greatest_under-last.ensures.ticks
