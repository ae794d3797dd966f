use Rattle.pz_classes_code.specs.CodeView.{part_view}
use Rattle.pz_part_queries.specs.Standpoints.{seen_from}
use Rattle.pz_part_actions.proofs.Messages.{run_both, run_one}
use Rattle.pz_part_actions.proofs.handing.hand_over.Goals as goal

pub returns-in-Ok-clause-runs : goal.returns-in-Ok-clause-runs
returns-in-Ok-clause-runs c = λ m class known.
    run_both c.run_part-in-Ok.result (seen_from m c.args.here.now class c.args.state.now.held) c.args.frame.0 c.args.pos (part_view c.args.args.now) (part_view c.args.block.now) c.run_part.new.state.held c.run_part-in-Ok.new.state.held
    c.in_ok-run_part.field-0 c.in-Ok.field-0 (c.in_ok-run_part.ensures.runs m class known) c.in-Ok.is (c.run_part-in-Ok.ensures.runs m class known)

pub returns-in-Err-clause-runs : goal.returns-in-Err-clause-runs
returns-in-Err-clause-runs c = λ m class known.
    run_one (seen_from m c.args.here.now class c.args.state.now.held) c.args.frame.0 c.args.pos (part_view c.args.args.now) (part_view c.args.block.now) c.run_part.new.state.held
    c.in_ok-run_part.field-0 c.in-Err.trouble (c.in_ok-run_part.ensures.runs m class known) c.in-Err.is
