use Rattle.std.proofs.Common.{subst}
use Rattle.pz_bind.specs.pz_classes.CheckedView.{checked_model}
use Rattle.pz_rules.specs.pz_classes_rules.Soundness.{IsSound}
use Rattle.pz_term_processes.specs.Standing.{setting_of}
use Rattle.pz_term.proofs.Moved.{high_holds, starts_high}
use Rattle.pz_term.proofs.plain.Plain.too_high.Goals as goal

pub invariant_of-result : goal.invariant_of-result
invariant_of-result c = record {
  of_model = c.requires.of_model;
  rounds = c.requires.rounds;
  holds = high_holds (setting_of (checked_model c.args.checked) c.args.limits) c.new.result.items c.args.trouble c.requires.high;
}

pub returns-clause-starts : goal.returns-clause-starts
returns-clause-starts c =
    let setting = setting_of (checked_model c.args.checked) c.args.limits in
    starts_high setting (c.start_is_one.ensures.computed setting (subst IsSound c.model-model.ensures.is c.model-model.ensures.sound))
