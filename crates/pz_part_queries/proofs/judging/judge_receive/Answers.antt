use Rattle.std.proofs.Common.{Some, sym, ap, ◌∙◌}
use Rattle.pz_classes_code.specs.declared.code.Code.{Code}
use Rattle.pz_part_queries.specs.Standpoints.{seen_from}
use Rattle.pz_part_queries.proofs.Verdicts.{takes_all, condition_judges}
use Rattle.pz_part_queries.proofs.judging.judge_receive.Goals as goal

pub returns-in_default-clause-judges : goal.returns-in_default-clause-judges
returns-in_default-clause-judges c = λ m class port name after known.
    takes_all (seen_from m c.args.here.now class c.args.state.now.held) c.args.frame.0 c.args.parcel.now c.args.pos port name c.args.into.now after c.args.condition.now c.in_default.is

pub returns-clause-judges : goal.returns-clause-judges
returns-clause-judges c = λ m class port name after known.
    condition_judges (seen_from m c.args.here.now class c.args.state.now.held) c.args.frame.0 c.args.parcel.now c.args.pos port name c.args.into.now after c.args.condition.now c.get.result.now c.slots_of-into.result.now
    c.allowance-allowed.result c.in_ok-outcome.outcome c.tested.result (c.in-Some.is ∙ ap (λ (x : Code). Some x) (sym c.get.ensures)) c.slots_of-into.ensures c.allowance-allowed.ensures (c.in_ok-outcome.ensures.finds m known) c.tested.ensures
