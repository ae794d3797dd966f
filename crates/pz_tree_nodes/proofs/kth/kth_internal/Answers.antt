use Rattle.std.proofs.Common.{ap, arith}
use Rattle.pz_nodes.specs.Arena.{find}
use Rattle.pz_rules.specs.pz_state.declared.state.FrameId.{FrameId}
use Rattle.pz_tree_nodes.proofs.Going.{sets_out, goes_on, nowhere, too_deep, chosen, acting}
use Rattle.pz_tree_nodes.proofs.kth.kth_internal.Goals as goal

pub loop-level-init : goal.loop-level-init
loop-level-init g c =
    sets_out (find c.args.nodes.now) c.args.root.key c.args.root.frame.0 c.args.root.clock c.args.levels c.args.k c.root-place.result c.past_shift-spot.result
    c.root-place.ensures c.past_shift-spot.ensures.right (ap (λ (z : FrameId). z.0) c.past_shift-spot.ensures.frame)

pub loop-level-preserved : goal.loop-level-preserved
loop-level-preserved g c =
    goes_on (find c.args.nodes.now) c.args.root.key c.args.root.frame.0 c.args.root.clock c.args.levels c.args.k c.loop-level.place c.enter.new.self c.loop-level.spot c.in-Into.child
    c.loop-level.left c.in-Into.rest c.loop-level._level c.in-Into.number c.in_ok-enter-in-Into.ensures.ok c.loop-level.invariant c.in-Into.ensures

pub returns-in-Nowhere-clause-action : goal.returns-in-Nowhere-clause-action
returns-in-Nowhere-clause-action g c =
    nowhere (find c.args.nodes.now) c.args.root.key c.args.root.frame.0 c.args.root.clock c.args.levels c.args.k c.loop-level.place c.loop-level.spot c.loop-level.left c.loop-level._level
    c.loop-level.invariant c.in-Nowhere.ensures

pub returns-in-Acts-clause-action : goal.returns-in-Acts-clause-action
returns-in-Acts-clause-action g c =
    let x = c.acting_part.ensures in
    chosen (find c.args.nodes.now) c.args.root.key c.args.root.frame.0 c.args.root.clock c.args.levels c.args.k c.loop-level.place c.loop-level.spot c.loop-level.left c.loop-level._level
    c.loop-level.invariant c.in-Acts.key c.in-Acts.doing c.acting_part.result x.place x.key x.frame x.clock x.kind x.pos c.in-Acts.ensures

pub returns-in-Acts-clause-part : goal.returns-in-Acts-clause-part
returns-in-Acts-clause-part g c =
    let x = c.acting_part.ensures in
    acting (find c.args.nodes.now) c.args.root.key c.args.root.frame.0 c.args.root.clock c.args.levels c.args.k c.loop-level.place c.loop-level.spot c.loop-level.left c.loop-level._level
    c.loop-level.invariant c.in-Acts.key c.in-Acts.doing c.acting_part.result x.place x.key x.frame x.clock x.kind x.pos c.in-Acts.ensures

pub returns-clause-action : goal.returns-clause-action
returns-clause-action g c =
    too_deep (find c.args.nodes.now) c.args.root.key c.args.root.frame.0 c.args.root.clock c.args.levels c.args.k c.loop-level.place c.loop-level.spot c.loop-level.left c.loop-level._level
    c.loop-level.invariant (omega (arith, c.loop-level-test.false))
