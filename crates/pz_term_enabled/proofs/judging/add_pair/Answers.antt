use Rattle.std.proofs.Common.{Bool, [], ◌∷◌, ◌++◌, Result, Ok, subst, refl, ap, ◌∙◌}
use Rattle.pz_bind.specs.pz_classes.CheckedView.{checked_model}
use Rattle.pz_rules.specs.pz_offer.declared.trouble.Trouble.{Trouble}
use Rattle.pz_rules.specs.declared.action.Action.{Action}
use Rattle.pz_rules.specs.Offers.{IsJudged}
use Rattle.pz_term_processes.specs.Standing.{setting_of, config_of}
use Rattle.pz_term_enabled.specs.devices.Judged.{taken, refused, failed}
use Rattle.pz_term_enabled.proofs.judging.add_pair.Goals as goal

pub returns-in_ok-push-in-Ok-true-clause-judged : goal.returns-in_ok-push-in-Ok-true-clause-judged
returns-in_ok-push-in-Ok-true-clause-judged c =
    taken
    (subst (λ (v : Result Bool Trouble). IsJudged (setting_of (checked_model c.args.checked.now) c.args.limits) (config_of c.args.clock c.args.processes.now) c.args.receiver.now.end c.args.sender.now.parcel v)
    (c.in-Ok-true.is ∙ ap (λ (b : Bool). let r : Result Bool Trouble = Ok b in r) c.in-Ok-true.field-0-test) c.in_ok-judge_receive.ensures.judged)
    (c.in_ok-push-in-Ok-true.ensures.items ∙ ap (λ (a : Action). c.args.actions.now.items ++ a ∷ []) c.in_ok-communication-in-Ok-true.ensures)

pub returns-in-Ok-false-clause-judged : goal.returns-in-Ok-false-clause-judged
returns-in-Ok-false-clause-judged c =
    refused
    (subst (λ (v : Result Bool Trouble). IsJudged (setting_of (checked_model c.args.checked.now) c.args.limits) (config_of c.args.clock c.args.processes.now) c.args.receiver.now.end c.args.sender.now.parcel v)
    (c.in-Ok-false.is ∙ ap (λ (b : Bool). let r : Result Bool Trouble = Ok b in r) c.in-Ok-false.field-0-test) c.in_ok-judge_receive.ensures.judged)
    refl

pub returns-in-Err-clause-judged : goal.returns-in-Err-clause-judged
returns-in-Err-clause-judged c =
    failed c.in-Err.trouble
    (subst (λ (v : Result Bool Trouble). IsJudged (setting_of (checked_model c.args.checked.now) c.args.limits) (config_of c.args.clock c.args.processes.now) c.args.receiver.now.end c.args.sender.now.parcel v) c.in-Err.is c.in_ok-judge_receive.ensures.judged)
