use Rattle.std.proofs.Common.{refl, ap}
use Rattle.std.proofs.lemmas.Result.{IfOk-weaker}
use Rattle.pz_classes_code.specs.CodeView.{view}
use Rattle.pz_copy.specs.pz_state.Marks.{Seen}
use Rattle.pz_eval_machine.specs.pz_eval_rules.Outcomes.{outside}
use Rattle.pz_eval_machine.specs.pz_eval_rules.devices.Outcomes.{reached_value}
use Rattle.pz_eval.proofs.Gathering.{finish_is, stop_is}
use Rattle.pz_eval.proofs.Finding.{value_found, stop_found, is_latest, is_back}
use Rattle.pz_eval.proofs.evaluating.try_eval.Goals as goal

pub undo_to-requires : goal.undo_to-requires
undo_to-requires c = is_latest c.args.state.now c.mark.new.self c.evaluate-found.new.state c.in_ok-point.point c.in_ok-point.ensures.ok c.evaluate-found.ensures.marks

pub returns-in-Ok-clause-finds : goal.returns-in-Ok-clause-finds
returns-in-Ok-clause-finds c m known = record {
  left = c.evaluate-found.new.state.held;
  finds = value_found c.computed_is_found.ensures.value known m c.args.clock c.args.frame.0 (view c.args.code.now) c.args.allowance c.args.state.now.held c.mark.new.self.held c.evaluate-found.new.state.held c.evaluate-found.new.state.held c.in-Ok.finish c.value_of.result c.evaluate-found.new.units
      (ap (λ (t : Seen). t.held) c.in_ok-point.ensures.ok) refl c.value_of.ensures
      (λ k. finish_is c.evaluate-found.result c.in-Ok.finish (outside c.evaluate-found.new.state.held) c.evaluate-found.new.units (reached_value m c.args.clock c.args.frame.0 c.mark.new.self.held (view c.args.code.now) c.args.allowance) c.in-Ok.is (c.evaluate-found.ensures.goes m k));
}

pub returns-in-Ok-clause-state : goal.returns-in-Ok-clause-state
returns-in-Ok-clause-state c = (is_back c.args.state.now c.mark.new.self c.evaluate-found.new.state c.undo_to.new.self c.in_ok-point.point c.in_ok-point.ensures.ok c.evaluate-found.ensures.marks c.undo_to.ensures)

pub returns-in-Err-clause-finds : goal.returns-in-Err-clause-finds
returns-in-Err-clause-finds c m known =
    IfOk-weaker c.outcome_of.result _ _ (λ o is. record {
      left = c.args.state.now.held;
      finds = stop_found c.computed_is_found.ensures.value known m c.args.clock c.args.frame.0 (view c.args.code.now) c.args.allowance c.args.state.now.held c.mark.new.self.held c.args.state.now.held c.in-Err.stop o c.evaluate-found.new.units
          (ap (λ (t : Seen). t.held) c.in_ok-point.ensures.ok) refl is
          (λ k. stop_is c.evaluate-found.result c.in-Err.stop (outside c.evaluate-found.new.state.held) c.evaluate-found.new.units (reached_value m c.args.clock c.args.frame.0 c.mark.new.self.held (view c.args.code.now) c.args.allowance) c.in-Err.is (c.evaluate-found.ensures.goes m k));
    }) c.outcome_of.ensures

pub returns-in-Err-clause-state : goal.returns-in-Err-clause-state
returns-in-Err-clause-state c = (is_back c.args.state.now c.mark.new.self c.evaluate-found.new.state c.undo_to.new.self c.in_ok-point.point c.in_ok-point.ensures.ok c.evaluate-found.ensures.marks c.undo_to.ensures)
