use Rattle.std.proofs.Common.{subst}
use Rattle.pz_classes_code.specs.declared.code.Code.{Code}
use Rattle.pz_classes_code.specs.CodeView.{view}
use Rattle.pz_rules.specs.Evaluations.{Tests}
use Rattle.pz_part_queries.specs.Standpoints.{seen_from}
use Rattle.pz_part_queries.proofs.Asked.{test_asked}
use Rattle.pz_part_queries.proofs.asking.ask_test.Goals as goal

pub returns-clause-tests : goal.returns-clause-tests
returns-clause-tests c = λ m class known.
    let a = seen_from m c.args.here.now class c.args.state.now.held in
    subst (λ (test : Code). Tests a c.args.frame.0 c.args.pos (view test) c.tested.result) c.get.ensures
    (test_asked a c.args.frame.0 c.args.pos c.allowance-allowed.result c.allowance-allowed.ensures (view c.get.result.now) c.in_ok-outcome.outcome c.tested.result
    (c.in_ok-outcome.ensures.finds m known) c.tested.ensures)
