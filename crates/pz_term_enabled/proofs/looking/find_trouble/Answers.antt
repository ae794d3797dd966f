use Rattle.std.proofs.Common.{sym, ◌∙◌}
use Rattle.std.proofs.lemmas.Result.{IfOk-weaker}
use Rattle.pz_bind.specs.pz_classes.CheckedView.{checked_model}
use Rattle.pz_term_processes.specs.Standing.{setting_of, config_of}
use Rattle.pz_term_enabled.specs.devices.Communications.{OfAll}
use Rattle.pz_term_enabled.specs.devices.Deciding.{Decides}
use Rattle.pz_term_enabled.proofs.Moments.{asked_decides, pairs_decide}
use Rattle.pz_term_enabled.proofs.looking.find_trouble.Goals as goal

pub returns-then-is_some-clause-decides : goal.returns-then-is_some-clause-decides
returns-then-is_some-clause-decides c =
    asked_decides (setting_of (checked_model c.args.checked.now) c.args.limits) (config_of c.args.clock c.args.processes.now) c.args.found.now c.requires (sym c.is_some.ensures ∙ c.if-is_some.true)

pub returns-clause-decides : goal.returns-clause-decides
returns-clause-decides c =
    let setting = setting_of (checked_model c.args.checked.now) c.args.limits in
    let config = config_of c.args.clock c.args.processes.now in
    let found = c.args.found.now in
    let actions = c.add_communications.new.actions in
    IfOk-weaker c.add_communications.result (OfAll setting config found.internal.items actions.items) (Decides setting config (record found { internal = actions }))
    (λ trouble come. pairs_decide setting config found actions trouble c.requires (sym c.is_some.ensures ∙ c.if-is_some.false) come)
    c.add_communications.ensures.judged
