use Rattle.pz_bind.specs.pz_classes.CheckedView.{checked_model}
use Rattle.pz_tree.specs.pz_term_processes.Standing.{setting_of}
use Rattle.pz_sim.proofs.Begun.{starts_so}
use Rattle.pz_sim.proofs.sim.Sim.ready.Goals as goal

pub invariant_of-result : goal.invariant_of-result
invariant_of-result c = record {
  of_model = c.requires.of_model;
  rounds = c.requires.rounds;
  holds = c.in_ok-trees.ensures.kept;
}

pub returns-clause-starts : goal.returns-clause-starts
returns-clause-starts c =
    starts_so (setting_of (checked_model c.args.checked) c.args.limits) c.args.processes.items _ c.in_ok-trees.ensures.stand c.requires.start
