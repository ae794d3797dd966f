use Rattle.std.proofs.Common.{refl}
use Rattle.pz_nodes.specs.Arena.{find}
use Rattle.pz_term_around.specs.pz_part_opening.Homes.{home_view}
use Rattle.pz_tree_regrowing.proofs.Descending.{arrives, nothing_acts, level_outlined, outlined}
use Rattle.pz_tree_regrowing.proofs.outlining.+outlines.Goals as goal

pub outline_after-returns : goal.outline_after-returns
outline_after-returns g t c = outlined (home_view c.args.home.now) (find c.args.nodes.now) c.args.key c.past_shift-bare.result c.args.place.now c.args.part c.outline_bare.result c.args.steps.now c.past_shift-bare.new.steps c.outline_bare.new.steps
    c.past_shift-bare.ensures.past c.past_shift-bare.ensures.ticks c.outline_bare.ensures

pub outline_bare-returns-in_default : goal.outline_bare-returns-in_default
outline_bare-returns-in_default g t c = arrives (home_view c.args.home.now) (find c.args.nodes.now) c.args.key c.args.place.now c.args.part c.args.part c.args.steps.now c.args.steps.now c.in_default.ensures.cases refl refl

pub outline_bare-returns-in_default-key : goal.outline_bare-returns-in_default-key
outline_bare-returns-in_default-key g t c = nothing_acts (home_view c.args.home.now) (find c.args.nodes.now) c.args.key c.args.place.now c.in-Some.inner.now c.in-Some.number.now c.args.part c.args.part c.args.steps.now c.args.steps.now c.in_default-key.is c.in-Some.ensures.cases.0

pub outline_bare-returns : goal.outline_bare-returns
outline_bare-returns g t c =
    level_outlined (home_view c.args.home.now) (find c.args.nodes.now) c.args.key c.in-Some-key.key c.in-Some-get.node.now c.in-Some-key.is c.in-Some-get.ensures.value
    c.args.place.now c.in-Some.inner.now c.in-Some.number.now c.args.part c.outline_after-left.result c.outline_round.result c.kid_in-child.result c.args.steps.now c.get.new.steps c.outline_after-left.new.steps c.outline_round.new.steps
    c.in-Some.ensures.cases.0 c.kid_in-child.ensures c.in-Some-get.ensures.ticks c.outline_after-left.ensures c.outline_round.ensures
