use Rattle.pz_debug_session.specs.declared.step.Step.TheVariants.{Pick}
use Rattle.pz_debug_session.proofs.Roads.{sets_out, next_can, goes_further, has_come, comes_low}
use Rattle.pz_debug_session.proofs.taking.take_all.Goals as goal

pub loop-step-init : goal.loop-step-init
loop-step-init g c =
    sets_out (g.E.Simulator.simulation c.args.engine.now) c.requires.leads.0 c.args.steps.now c.requires.whole c.requires.start c.requires.leads.1

pub take-requires : goal.take-requires
take-requires g c =
    next_can c.args.steps.now c.loop-step.step-index (Pick 0) (g.E.Simulator.simulation c.args.engine.now) (g.E.Simulator.simulation c.loop-step.engine)
    c.loop-step-test.true c.loop-step.invariant c.requires.few

pub loop-step-preserved : goal.loop-step-preserved
loop-step-preserved g c =
    goes_further c.args.steps.now c.loop-step.step-index (Pick 0) (g.E.Simulator.simulation c.args.engine.now) (g.E.Simulator.simulation c.loop-step.engine)
    c.loop-step-test.true c.loop-step.invariant c.rules_are_known.ensures (g.E.Simulator.simulation c.take.new.engine) c.in_ok-take.ensures.ok c.in_ok-take.ensures.short

pub returns-clause-leads : goal.returns-clause-leads
returns-clause-leads g c =
    has_come c.args.steps.now c.loop-step.step-index (g.E.Simulator.simulation c.args.engine.now) (g.E.Simulator.simulation c.loop-step.engine) c.loop-step-test.false c.loop-step.invariant

pub returns-clause-low : goal.returns-clause-low
returns-clause-low g c = comes_low c.args.steps.now c.loop-step.step-index (g.E.Simulator.simulation c.args.engine.now) (g.E.Simulator.simulation c.loop-step.engine) c.loop-step.invariant
