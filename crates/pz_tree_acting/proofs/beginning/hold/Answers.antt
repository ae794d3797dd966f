use Rattle.std.proofs.Common.{refl, arith}
use Rattle.pz_nodes.specs.Arena.{find}
use Rattle.pz_tree_acting.proofs.Finished.{held_trouble, held_low, held_high}
use Rattle.pz_tree_acting.proofs.beginning.hold.Goals as goal

pub returns-in-Err-clause-left : goal.returns-in-Err-clause-left
returns-in-Err-clause-left g c =
    held_trouble c.args.here.now c.args.home.now (find c.args.nodes.now) c.args.root c.args.place.now c.args.pos c.args.state.now.held c.args.left c.in-Err.trouble c.in-Err.is

pub returns-then-stays_low-clause-left : goal.returns-then-stays_low-clause-left
returns-then-stays_low-clause-left g c =
    held_low c.args.here.now c.args.home.now (find c.args.nodes.now) c.args.root c.args.place.now c.args.pos c.args.state.now.held c.args.left
    c.in-Ok.part c.stays_low.result c.in-Ok.is c.stays_low.ensures.low (record { point = c.args.point; part = c.in-Ok.part }) c.if-stays_low.true refl

pub returns-clause-left : goal.returns-clause-left
returns-clause-left g c =
    held_high c.args.here.now c.args.home.now (find c.args.nodes.now) c.args.root c.args.place.now c.args.pos c.args.state.now.held c.args.left
    c.in-Ok.part c.stays_low.result c.in-Ok.is c.stays_low.ensures.low c.if-stays_low.false

pub returns-in-Err-clause-ticks : goal.returns-in-Err-clause-ticks
returns-in-Err-clause-ticks g c = λ f d p r st t may. omega arith
