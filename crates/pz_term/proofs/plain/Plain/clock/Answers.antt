use Rattle.pz_bind.specs.pz_classes.CheckedView.{checked_model}
use Rattle.pz_term_processes.specs.Standing.{setting_of}
use Rattle.pz_term.proofs.Kept.{clock_is}
use Rattle.pz_term.proofs.plain.Plain.clock.Goals as goal

pub returns : goal.returns
returns c = clock_is (setting_of (checked_model c.args.self.now.checked) c.args.self.now.limits) c.args.self.now.clock c.args.self.now.processes.items c.args.self.now.standing c.args.self.now.holds
