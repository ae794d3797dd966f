use Rattle.pz_part_queries.specs.Standpoints.{seen_from}
use Rattle.pz_part_actions.proofs.Messages.{none_ran}
use Rattle.pz_part_actions.proofs.evaluating.run_part.Goals as goal

pub returns-in-None-clause-runs : goal.returns-in-None-clause-runs
returns-in-None-clause-runs c = λ m class known. none_ran (seen_from m c.args.here.now class c.args.state.now.held) c.args.frame.0 c.args.pos c.args.part.now c.in-None.is
