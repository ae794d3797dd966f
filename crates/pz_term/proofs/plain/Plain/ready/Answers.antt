use Rattle.pz_bind.specs.pz_classes.CheckedView.{checked_model}
use Rattle.pz_term_processes.specs.Standing.{setting_of, config_of}
use Rattle.pz_term.proofs.Moved.{outlook_holds, starts_there}
use Rattle.pz_term.proofs.plain.Plain.ready.Goals as goal

pub invariant_of-result : goal.invariant_of-result
invariant_of-result c = record {
  of_model = c.requires.of_model;
  rounds = c.requires.rounds;
  holds =
      outlook_holds (setting_of (checked_model c.args.checked) c.args.limits) 0 c.args.processes.items c.look_at.new.processes.items c.in_ok-outlook.outlook c.in_ok-outlook.ensures.unchanged
      c.requires.are ∣ c.starts_are_short.ensures.law (setting_of (checked_model c.args.checked) c.args.limits) (config_of 0 c.args.processes.items) c.requires.start ∣₁ c.in_ok-outlook.ensures.times c.in_ok-outlook.ensures.moment c.in_ok-outlook.ensures.actions;
}

pub returns-clause-starts : goal.returns-clause-starts
returns-clause-starts c =
    starts_there (setting_of (checked_model c.args.checked) c.args.limits) c.args.processes.items c.look_at.new.processes.items c.in_ok-outlook.ensures.unchanged
    c.requires.start
