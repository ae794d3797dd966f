use Rattle.std.proofs.Common.{◌≡◌, Result, length, sym, ap, subst}
use Rattle.std.specs.Prelude.{IfOk}
use Rattle.std.proofs.lemmas.Result.{IfOk-weaker}
use Rattle.pz_classes_code.specs.CodeView.{view}
use Rattle.pz_copy.specs.pz_state.Marks.{Seen}
use Rattle.pz_eval_machine.specs.pz_eval_rules.Outcomes.{outside}
use Rattle.pz_eval_machine.specs.pz_eval_rules.devices.Outcomes.{reached_value}
use Rattle.pz_eval_machine.specs.pz_eval_operations.declared.stop.Stop.{Stop}
use Rattle.pz_eval_machine.specs.declared.control.Finish.{Finish}
use Rattle.pz_eval_machine.specs.devices.Within.{FinishWithin}
use Rattle.pz_eval.specs.Promises.{NamesWithin}
use Rattle.pz_eval.proofs.Gathering.{finish_is, stop_is}
use Rattle.pz_eval.proofs.Finding.{value_found, stop_found, is_latest, is_back, marks_kept, finish_within, value_kept, stop_within, same_kept, on_err}
use Rattle.pz_eval.proofs.evaluating.eval.Goals as goal

pub keep-requires : goal.keep-requires
keep-requires c = is_latest c.args.state.now c.mark.new.self c.evaluate.new.state c.in_ok-point.point c.in_ok-point.ensures.ok c.evaluate.ensures.marks

pub undo_to-requires : goal.undo_to-requires
undo_to-requires c = is_latest c.args.state.now c.mark.new.self c.evaluate.new.state c.in_ok-point.point c.in_ok-point.ensures.ok c.evaluate.ensures.marks

pub returns-in-Ok-clause-finds : goal.returns-in-Ok-clause-finds
returns-in-Ok-clause-finds c m known =
    value_found c.computed_is_found.ensures.value known m c.args.clock c.args.frame.0 (view c.args.code.now) c.args.allowance c.args.state.now.held c.mark.new.self.held c.evaluate.new.state.held c.keep.new.self.held c.in-Ok.finish c.value_of.result c.evaluate.new.units
    (ap (λ (t : Seen). t.held) c.in_ok-point.ensures.ok) (ap (λ (t : Seen). t.held) c.keep.ensures) c.value_of.ensures
    (λ k. finish_is c.evaluate.result c.in-Ok.finish (outside c.evaluate.new.state.held) c.evaluate.new.units (reached_value m c.args.clock c.args.frame.0 c.mark.new.self.held (view c.args.code.now) c.args.allowance) c.in-Ok.is (c.evaluate.ensures.goes m k))

pub returns-in-Ok-clause-within : goal.returns-in-Ok-clause-within
returns-in-Ok-clause-within c =
    subst (λ (t : Seen). NamesWithin (length t.held.objects) c.value_of.result) (sym c.keep.ensures)
    (finish_within c.in-Ok.finish c.value_of.result (length c.evaluate.new.state.held.objects) c.value_of.ensures
    (subst (λ (x : Result Finish Stop). IfOk x (FinishWithin (length c.evaluate.new.state.held.objects))) c.in-Ok.is c.evaluate.ensures.within))

pub returns-in-Ok-clause-kept : goal.returns-in-Ok-clause-kept
returns-in-Ok-clause-kept c = value_kept (c.keep.new.self ≡ c.args.state.now) c.in-Ok.finish c.value_of.result c.value_of.ensures

pub returns-in-Ok-clause-marks : goal.returns-in-Ok-clause-marks
returns-in-Ok-clause-marks c = marks_kept c.args.state.now c.mark.new.self c.evaluate.new.state c.keep.new.self c.in_ok-point.point c.in_ok-point.ensures.ok c.evaluate.ensures.marks c.keep.ensures

pub returns-in-Err-clause-finds : goal.returns-in-Err-clause-finds
returns-in-Err-clause-finds c m known =
    IfOk-weaker c.outcome_of.result _ _ (λ o is. stop_found c.computed_is_found.ensures.value known m c.args.clock c.args.frame.0 (view c.args.code.now) c.args.allowance c.args.state.now.held c.mark.new.self.held c.undo_to.new.self.held c.in-Err.stop o c.evaluate.new.units
    (ap (λ (t : Seen). t.held) c.in_ok-point.ensures.ok) (ap (λ (t : Seen). t.held) (is_back c.args.state.now c.mark.new.self c.evaluate.new.state c.undo_to.new.self c.in_ok-point.point c.in_ok-point.ensures.ok c.evaluate.ensures.marks c.undo_to.ensures)) is
    (λ k. stop_is c.evaluate.result c.in-Err.stop (outside c.evaluate.new.state.held) c.evaluate.new.units (reached_value m c.args.clock c.args.frame.0 c.mark.new.self.held (view c.args.code.now) c.args.allowance) c.in-Err.is (c.evaluate.ensures.goes m k))) c.outcome_of.ensures

pub returns-in-Err-clause-within : goal.returns-in-Err-clause-within
returns-in-Err-clause-within c = IfOk-weaker c.outcome_of.result _ _ (λ o is. stop_within c.in-Err.stop o (length c.undo_to.new.self.held.objects) is) c.outcome_of.ensures

pub returns-in-Err-clause-kept : goal.returns-in-Err-clause-kept
returns-in-Err-clause-kept c = IfOk-weaker c.outcome_of.result _ _ (λ o is. same_kept (c.undo_to.new.self ≡ c.args.state.now) o (is_back c.args.state.now c.mark.new.self c.evaluate.new.state c.undo_to.new.self c.in_ok-point.point c.in_ok-point.ensures.ok c.evaluate.ensures.marks c.undo_to.ensures)) c.outcome_of.ensures

pub returns-in-Err-clause-marks : goal.returns-in-Err-clause-marks
returns-in-Err-clause-marks c = ap (λ (t : Seen). t.marks) (is_back c.args.state.now c.mark.new.self c.evaluate.new.state c.undo_to.new.self c.in_ok-point.point c.in_ok-point.ensures.ok c.evaluate.ensures.marks c.undo_to.ensures)

pub returns-in-Err-clause-err : goal.returns-in-Err-clause-err
returns-in-Err-clause-err c = on_err c.outcome_of.result (is_back c.args.state.now c.mark.new.self c.evaluate.new.state c.undo_to.new.self c.in_ok-point.point c.in_ok-point.ensures.ok c.evaluate.ensures.marks c.undo_to.ensures)
