use Rattle.pz_rules.specs.View.{term_view}
use Rattle.pz_part_queries.specs.Standpoints.{seen_from}
use Rattle.pz_term_time.proofs.Left.{passes_as}
use Rattle.pz_term_time.proofs.passing.pass.Goals as goal

pub returns-clause-passes : goal.returns-clause-passes
returns-clause-passes c = λ m class known untroubled.
    let a = seen_from m c.args.here.now class c.args.state.now.held in
    passes_as a c.args.time (term_view c.args.term) (c.passing_is_computed.ensures.some a c.args.time 0 (term_view c.args.term) untroubled) c.pass_part.result (c.pass_part.ensures.passed m class known)
