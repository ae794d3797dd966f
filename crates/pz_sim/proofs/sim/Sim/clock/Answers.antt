use Rattle.pz_bind.specs.pz_classes.CheckedView.{checked_model}
use Rattle.pz_tree.specs.pz_term_processes.Standing.{setting_of}
use Rattle.pz_sim.proofs.Kept.{clock_is}
use Rattle.pz_sim.proofs.sim.Sim.clock.Goals as goal

pub returns : goal.returns
returns c = let s = c.args.self.now in clock_is (setting_of (checked_model s.checked) s.limits) s.clock s.trees.items s.totals s.pairs s.standing s.holds
