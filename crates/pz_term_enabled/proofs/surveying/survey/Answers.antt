use Rattle.pz_bind.specs.pz_classes.CheckedView.{checked_model}
use Rattle.pz_term_processes.specs.Standing.{setting_of, config_of}
use Rattle.pz_term_enabled.proofs.Whole.{none_surveyed}
use Rattle.pz_term_enabled.proofs.surveying.survey.Goals as goal

pub returns-clause-surveyed : goal.returns-clause-surveyed
returns-clause-surveyed c =
    let none = c.new-survey.ensures in
    c.in_ok-survey_all.ensures.surveyed
    (none_surveyed (setting_of (checked_model c.args.checked.now) c.args.limits) (config_of c.args.clock c.args.processes.now) c.new-survey.result none.internal none.senders none.receivers none.least none.trouble none.done)
