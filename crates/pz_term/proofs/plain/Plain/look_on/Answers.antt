use Rattle.pz_bind.specs.pz_classes.CheckedView.{checked_model}
use Rattle.pz_term_processes.specs.Standing.{setting_of}
use Rattle.pz_term.proofs.Moved.{outlook_holds}
use Rattle.pz_term.proofs.plain.Plain.look_on.Goals as goal

pub invariant_of-self-2 : goal.invariant_of-self-2
invariant_of-self-2 c = record {
  of_model = c.args.self.now.of_model;
  rounds = c.args.self.now.rounds;
  holds =
      outlook_holds (setting_of (checked_model c.args.self.now.checked) c.args.self.now.limits) c.args.self.now.clock c.args.self.now.processes.items c.look_at.new.processes.items c.in_ok-outlook.outlook c.in_ok-outlook.ensures.unchanged
      c.requires.are c.requires.short c.in_ok-outlook.ensures.times c.in_ok-outlook.ensures.moment c.in_ok-outlook.ensures.actions;
}
