use Rattle.pz_classes_code.specs.CodeView.{view}
use Rattle.pz_part_queries.specs.Standpoints.{seen_from}
use Rattle.pz_part_queries.proofs.Asked.{time_asked}
use Rattle.pz_part_queries.proofs.asking.ask_time.Goals as goal

pub returns-clause-lasts : goal.returns-clause-lasts
returns-clause-lasts c = λ m class known.
    let a = seen_from m c.args.here.now class c.args.state.now.held in
    time_asked a c.args.frame.0 c.args.pos c.allowance-allowed.result c.allowance-allowed.ensures (view c.args.time.now) c.in_ok-outcome.outcome c.duration_of.result
    (c.in_ok-outcome.ensures.finds m known) c.duration_of.ensures.means
