use Rattle.std.proofs.Common.{◌≡◌, List, [], Result, Ok, length, refl, sym, ap, subst, ◌∙◌, arith}
use Rattle.std.specs.Prelude.{All, IfOk}
use Rattle.std.proofs.lemmas.List.Elements.{All-nil, All-cons}
use Rattle.pz_classes_code.specs.pz_value.declared.value.Value.{Value}
use Rattle.pz_classes_code.specs.CodeView.{view, list_view}
use Rattle.pz_copy.specs.pz_state.References.{RefersWithin}
use Rattle.pz_eval_machine.specs.pz_eval_rules.Memories.{in_process}
use Rattle.pz_eval_machine.specs.pz_eval_rules.Outcomes.{outside}
use Rattle.pz_eval_machine.specs.pz_eval_rules.devices.Computed.{arguments, evaluated}
use Rattle.pz_eval_machine.specs.pz_eval_operations.declared.stop.Stop.{Stop}
use Rattle.pz_eval_machine.specs.declared.control.Finish.{Finish}
use Rattle.pz_eval_machine.specs.declared.control.Finish.TheVariants as finish
use Rattle.pz_eval_machine.specs.devices.Within.{FinishWithin}
use Rattle.pz_eval_machine.proofs.Within.{values_wider, all_push}
use Rattle.pz_eval.proofs.Gathering.{finish_is, stop_is, value_gathered, return_gathered, stop_gathered, all_gathered}
use Rattle.pz_eval.proofs.listing.evaluate_list.Goals as goal

pub loop-code-init : goal.loop-code-init
loop-code-init c = record {
  gathers = λ model known. ap (λ (ys : List Value). arguments model c.args.basis.clock (evaluated model c.args.basis.clock c.args.depth) (in_process c.args.frame.0) ys (list_view c.args.codes.now) (outside c.args.state.now.held) c.args.units.now) c.new-values.ensures;
  marks = refl;
  within = subst (λ (ys : List Value). All (RefersWithin (length c.args.state.now.held.objects)) ys) (sym c.new-values.ensures) (All-nil (RefersWithin (length c.args.state.now.held.objects)));
}

pub loop-code-preserved : goal.loop-code-preserved
loop-code-preserved c =
    let is : c.evaluate.result ≡ Ok (finish.Value c.in-Ok-Value.value) = c.in-Ok-Value.is ∙ ap (λ (x : Finish). Ok x) c.in-Ok-Value.field-0-is in
    let here : RefersWithin (length c.evaluate.new.state.held.objects) c.in-Ok-Value.value = subst (λ (x : Result Finish Stop). IfOk x (FinishWithin (length c.evaluate.new.state.held.objects))) is c.evaluate.ensures.within in
    record {
      gathers = λ model known. value_gathered model c.args.basis.clock c.args.depth (in_process c.args.frame.0) c.args.codes.now c.loop-code.values c.push.new.self c.loop-code.code-index c.code-item.result (outside c.loop-code.state.held) (outside c.evaluate.new.state.held) c.loop-code.units c.evaluate.new.units c.in-Ok-Value.value c.loop-code-test.true c.code-item.is
          (finish_is c.evaluate.result (finish.Value c.in-Ok-Value.value) (outside c.evaluate.new.state.held) c.evaluate.new.units (evaluated model c.args.basis.clock c.args.depth (in_process c.args.frame.0) (view c.code-item.result) (outside c.loop-code.state.held) c.loop-code.units) is (c.evaluate.ensures.goes model known)) c.in_ok-push-in-Ok-Value.ensures.ok
          ∙ c.loop-code.invariant.gathers model known;
      marks = c.evaluate.ensures.marks ∙ c.loop-code.invariant.marks;
      within = all_push (RefersWithin (length c.evaluate.new.state.held.objects)) c.loop-code.values c.push.new.self c.in-Ok-Value.value c.in_ok-push-in-Ok-Value.ensures.ok
          (values_wider (length c.loop-code.state.held.objects) (length c.evaluate.new.state.held.objects) c.evaluate.ensures.count c.loop-code.values c.loop-code.invariant.within) here;
    }

pub returns-in-Ok-Return-clause-gathers : goal.returns-in-Ok-Return-clause-gathers
returns-in-Ok-Return-clause-gathers c model known =
    let is : c.evaluate.result ≡ Ok (finish.Return c.in-Ok-Return.value) = c.in-Ok-Return.is ∙ ap (λ (x : Finish). Ok x) c.in-Ok-Return.field-0-is in
    return_gathered model c.args.basis.clock c.args.depth (in_process c.args.frame.0) c.args.codes.now c.loop-code.values c.in_ok-only-in-Ok-Return.field-0 c.loop-code.code-index c.code-item.result (outside c.loop-code.state.held) c.evaluate.new.state.held c.loop-code.units c.evaluate.new.units c.in-Ok-Return.value (arguments model c.args.basis.clock (evaluated model c.args.basis.clock c.args.depth) (in_process c.args.frame.0) [] (list_view c.args.codes.now) (outside c.args.state.now.held) c.args.units.now) c.loop-code-test.true c.code-item.is
    (finish_is c.evaluate.result (finish.Return c.in-Ok-Return.value) (outside c.evaluate.new.state.held) c.evaluate.new.units (evaluated model c.args.basis.clock c.args.depth (in_process c.args.frame.0) (view c.code-item.result) (outside c.loop-code.state.held) c.loop-code.units) is (c.evaluate.ensures.goes model known)) c.in_ok-only-in-Ok-Return.ensures
    (c.loop-code.invariant.gathers model known)

pub returns-in-Ok-Return-clause-within : goal.returns-in-Ok-Return-clause-within
returns-in-Ok-Return-clause-within c =
    let is : c.evaluate.result ≡ Ok (finish.Return c.in-Ok-Return.value) = c.in-Ok-Return.is ∙ ap (λ (x : Finish). Ok x) c.in-Ok-Return.field-0-is in
    let here : RefersWithin (length c.evaluate.new.state.held.objects) c.in-Ok-Return.value = subst (λ (x : Result Finish Stop). IfOk x (FinishWithin (length c.evaluate.new.state.held.objects))) is c.evaluate.ensures.within in
    subst (λ (ys : List Value). All (RefersWithin (length c.evaluate.new.state.held.objects)) ys) (sym c.in_ok-only-in-Ok-Return.ensures) (All-cons (RefersWithin (length c.evaluate.new.state.held.objects)) c.in-Ok-Return.value [] here (All-nil (RefersWithin (length c.evaluate.new.state.held.objects))))

pub returns-in-Ok-Return-clause-marks : goal.returns-in-Ok-Return-clause-marks
returns-in-Ok-Return-clause-marks c = c.evaluate.ensures.marks ∙ c.loop-code.invariant.marks

pub returns-in_err-only-in-Ok-Return-clause-marks : goal.returns-in_err-only-in-Ok-Return-clause-marks
returns-in_err-only-in-Ok-Return-clause-marks c = c.evaluate.ensures.marks ∙ c.loop-code.invariant.marks

pub returns-in_err-push-in-Ok-Value-clause-marks : goal.returns-in_err-push-in-Ok-Value-clause-marks
returns-in_err-push-in-Ok-Value-clause-marks c = c.evaluate.ensures.marks ∙ c.loop-code.invariant.marks

pub returns-in-Err-clause-gathers : goal.returns-in-Err-clause-gathers
returns-in-Err-clause-gathers c model known =
    stop_gathered model c.args.basis.clock c.args.depth (in_process c.args.frame.0) c.args.codes.now c.loop-code.values c.loop-code.code-index c.code-item.result (outside c.loop-code.state.held) c.evaluate.new.state.held c.loop-code.units c.evaluate.new.units c.in-Err.stop (arguments model c.args.basis.clock (evaluated model c.args.basis.clock c.args.depth) (in_process c.args.frame.0) [] (list_view c.args.codes.now) (outside c.args.state.now.held) c.args.units.now) c.loop-code-test.true c.code-item.is
    (stop_is c.evaluate.result c.in-Err.stop (outside c.evaluate.new.state.held) c.evaluate.new.units (evaluated model c.args.basis.clock c.args.depth (in_process c.args.frame.0) (view c.code-item.result) (outside c.loop-code.state.held) c.loop-code.units) c.in-Err.is (c.evaluate.ensures.goes model known))
    (c.loop-code.invariant.gathers model known)

pub returns-in-Err-clause-marks : goal.returns-in-Err-clause-marks
returns-in-Err-clause-marks c = c.evaluate.ensures.marks ∙ c.loop-code.invariant.marks

pub returns-clause-gathers : goal.returns-clause-gathers
returns-clause-gathers c model known = all_gathered model c.args.basis.clock c.args.depth (in_process c.args.frame.0) c.args.codes.now c.loop-code.values c.loop-code.code-index c.loop-code.state.held c.loop-code.units (arguments model c.args.basis.clock (evaluated model c.args.basis.clock c.args.depth) (in_process c.args.frame.0) [] (list_view c.args.codes.now) (outside c.args.state.now.held) c.args.units.now) (omega (arith, c.loop-code-test.false)) (c.loop-code.invariant.gathers model known)

pub returns-clause-marks : goal.returns-clause-marks
returns-clause-marks c = c.loop-code.invariant.marks

pub returns-clause-within : goal.returns-clause-within
returns-clause-within c = c.loop-code.invariant.within
