use Rattle.std.proofs.Common.{◌≡◌, List, Result, Ok, Err, length, sym, ap, subst}
use Rattle.std.specs.Prelude.{All, IfOk}
use Rattle.std.proofs.lemmas.Result.{IfOk-weaker}
use Rattle.pz_classes_code.specs.pz_value.declared.value.Value.{Value}
use Rattle.pz_classes_code.specs.CodeView.{list_view}
use Rattle.pz_copy.specs.pz_state.Marks.{Seen}
use Rattle.pz_copy.specs.pz_state.References.{RefersWithin}
use Rattle.pz_eval_machine.specs.pz_eval_rules.devices.Outcomes.{reached_list}
use Rattle.pz_eval_machine.specs.pz_eval_operations.declared.stop.Stop.{Stop}
use Rattle.pz_eval.proofs.Finding.{values_found, list_stop_found, gathers_is, is_latest, is_back, marks_kept, stop_within_all, same_kept_all, on_err}
use Rattle.pz_eval.proofs.evaluating.eval_list.Goals as goal

pub keep-requires : goal.keep-requires
keep-requires c = is_latest c.args.state.now c.mark.new.self c.evaluate_list.new.state c.in_ok-point.point c.in_ok-point.ensures.ok c.evaluate_list.ensures.marks

pub undo_to-requires : goal.undo_to-requires
undo_to-requires c = is_latest c.args.state.now c.mark.new.self c.evaluate_list.new.state c.in_ok-point.point c.in_ok-point.ensures.ok c.evaluate_list.ensures.marks

pub returns-in-Ok-clause-finds : goal.returns-in-Ok-clause-finds
returns-in-Ok-clause-finds c m known =
    values_found c.computed_is_found.ensures.list known m c.args.clock c.args.frame.0 (list_view c.args.codes.now) c.args.allowance c.args.state.now.held c.mark.new.self.held c.evaluate_list.new.state.held c.keep.new.self.held c.in-Ok.values c.evaluate_list.new.units
    (ap (λ (t : Seen). t.held) c.in_ok-point.ensures.ok) (ap (λ (t : Seen). t.held) c.keep.ensures)
    (λ k. gathers_is c.evaluate_list.result (Ok c.in-Ok.values) c.evaluate_list.new.state.held c.evaluate_list.new.units (reached_list m c.args.clock c.args.frame.0 c.mark.new.self.held (list_view c.args.codes.now) c.args.allowance) c.in-Ok.is (c.evaluate_list.ensures.gathers m k))

pub returns-in-Ok-clause-within : goal.returns-in-Ok-clause-within
returns-in-Ok-clause-within c =
    subst (λ (t : Seen). All (RefersWithin (length t.held.objects)) c.in-Ok.values) (sym c.keep.ensures)
    (subst (λ (x : Result (List Value) Stop). IfOk x (λ ys. All (RefersWithin (length c.evaluate_list.new.state.held.objects)) ys)) c.in-Ok.is c.evaluate_list.ensures.within)

pub returns-in-Ok-clause-marks : goal.returns-in-Ok-clause-marks
returns-in-Ok-clause-marks c = marks_kept c.args.state.now c.mark.new.self c.evaluate_list.new.state c.keep.new.self c.in_ok-point.point c.in_ok-point.ensures.ok c.evaluate_list.ensures.marks c.keep.ensures

pub returns-in-Err-clause-finds : goal.returns-in-Err-clause-finds
returns-in-Err-clause-finds c m known =
    IfOk-weaker c.listed_of.result _ _ (λ o is. list_stop_found c.computed_is_found.ensures.list known m c.args.clock c.args.frame.0 (list_view c.args.codes.now) c.args.allowance c.args.state.now.held c.mark.new.self.held c.evaluate_list.new.state.held c.undo_to.new.self.held c.in-Err.stop o c.evaluate_list.new.units
    (ap (λ (t : Seen). t.held) c.in_ok-point.ensures.ok) (ap (λ (t : Seen). t.held) (is_back c.args.state.now c.mark.new.self c.evaluate_list.new.state c.undo_to.new.self c.in_ok-point.point c.in_ok-point.ensures.ok c.evaluate_list.ensures.marks c.undo_to.ensures)) is
    (λ k. gathers_is c.evaluate_list.result (Err c.in-Err.stop) c.evaluate_list.new.state.held c.evaluate_list.new.units (reached_list m c.args.clock c.args.frame.0 c.mark.new.self.held (list_view c.args.codes.now) c.args.allowance) c.in-Err.is (c.evaluate_list.ensures.gathers m k))) c.listed_of.ensures

pub returns-in-Err-clause-within : goal.returns-in-Err-clause-within
returns-in-Err-clause-within c = IfOk-weaker c.listed_of.result _ _ (λ o is. stop_within_all c.in-Err.stop o (length c.undo_to.new.self.held.objects) is) c.listed_of.ensures

pub returns-in-Err-clause-kept : goal.returns-in-Err-clause-kept
returns-in-Err-clause-kept c = IfOk-weaker c.listed_of.result _ _ (λ o is. same_kept_all (c.undo_to.new.self ≡ c.args.state.now) o (is_back c.args.state.now c.mark.new.self c.evaluate_list.new.state c.undo_to.new.self c.in_ok-point.point c.in_ok-point.ensures.ok c.evaluate_list.ensures.marks c.undo_to.ensures)) c.listed_of.ensures

pub returns-in-Err-clause-marks : goal.returns-in-Err-clause-marks
returns-in-Err-clause-marks c = ap (λ (t : Seen). t.marks) (is_back c.args.state.now c.mark.new.self c.evaluate_list.new.state c.undo_to.new.self c.in_ok-point.point c.in_ok-point.ensures.ok c.evaluate_list.ensures.marks c.undo_to.ensures)

pub returns-in-Err-clause-err : goal.returns-in-Err-clause-err
returns-in-Err-clause-err c = on_err c.listed_of.result (is_back c.args.state.now c.mark.new.self c.evaluate_list.new.state c.undo_to.new.self c.in_ok-point.point c.in_ok-point.ensures.ok c.evaluate_list.ensures.marks c.undo_to.ensures)
