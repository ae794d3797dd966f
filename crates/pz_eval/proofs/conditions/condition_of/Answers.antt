use Rattle.std.proofs.Common.{Err, ap, subst, ◌∙◌}
use Rattle.std.proofs.lemmas.Result.{IfOk-weaker}
use Rattle.pz_classes_code.specs.CodeView.{view}
use Rattle.pz_copy.specs.declared.unpacking.UnpackError.{UnpackError}
use Rattle.pz_copy.specs.pz_state.States.{StateView}
use Rattle.pz_copy.specs.pz_state.Marks.{Seen}
use Rattle.pz_eval.specs.Tentative.{WouldFind}
use Rattle.pz_eval.specs.Conditions.{asked, full}
use Rattle.pz_eval.proofs.conditions.condition_of.Goals as goal

pub returns-in-Ok-clause-finds : goal.returns-in-Ok-clause-finds
returns-in-Ok-clause-finds c m known =
    IfOk-weaker c.try_eval.result _ _ (λ o found. asked c.in-Ok.ensures.fits (subst (λ (s : StateView). WouldFind m c.args.clock c.args.frame.0 s (view c.args.code.now) c.args.allowance o) (ap (λ (t : Seen). t.held) c.in-Ok.ensures.ok) found)) (c.try_eval.ensures.finds m known)

pub returns-in-Ok-clause-marks : goal.returns-in-Ok-clause-marks
returns-in-Ok-clause-marks c = ap (λ (t : Seen). t.marks) c.try_eval.ensures.state ∙ c.bind.ensures.marks

pub returns-in-Err-StoreFull-clause-finds : goal.returns-in-Err-StoreFull-clause-finds
returns-in-Err-StoreFull-clause-finds c m known = full (c.bind.ensures.full (c.in-Err-StoreFull.is ∙ ap (λ (x : UnpackError). Err x) c.in-Err-StoreFull.field-0-is))
