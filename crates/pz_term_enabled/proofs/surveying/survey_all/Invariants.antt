use Rattle.std.proofs.Common.{◌≡◌}
use Rattle.pz_bind.specs.pz_classes.CheckedView.{checked_model}
use Rattle.pz_term_processes.specs.Standing.{setting_of, config_of}
use Rattle.pz_term_enabled.specs.devices.Below.{SurveyedBelow}
use Rattle.pz_term_enabled.proofs.surveying.survey_all.Given as goal

abbrev pub invariant-loop-number : goal.invariant-loop-number
invariant-loop-number l = record {
  surveyed : SurveyedBelow (setting_of (checked_model l.checked) l.limits) (config_of l.clock l.initial.processes) 0 l.initial.survey
      → SurveyedBelow (setting_of (checked_model l.checked) l.limits) (config_of l.clock l.initial.processes) l.number l.survey;
  unchanged : l.processes ≡ l.initial.processes;
}
