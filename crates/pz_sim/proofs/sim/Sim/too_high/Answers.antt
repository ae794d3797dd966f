use Rattle.std.proofs.Common.{refl, subst}
use Rattle.pz_bind.specs.pz_classes.CheckedView.{checked_model}
use Rattle.pz_rules.specs.pz_classes_rules.Soundness.{IsSound}
use Rattle.pz_rules.specs.devices.Start.{start_of}
use Rattle.pz_term_simulator.specs.Simulations as simulations
use Rattle.pz_tree.specs.pz_term_processes.Standing.{setting_of}
use Rattle.pz_sim.proofs.sim.Sim.too_high.Goals as goal

pub invariant_of-result : goal.invariant_of-result
invariant_of-result c = record {
  of_model = c.requires.of_model;
  rounds = c.requires.rounds;
  holds = ∣ (refl, c.requires.high) ∣₁;
}

pub returns-clause-starts : goal.returns-clause-starts
returns-clause-starts c =
    let setting = setting_of (checked_model c.args.checked) c.args.limits in
    simulations.starts (start_of setting) (c.start_is_one.ensures.computed setting (subst IsSound c.model-model.ensures.is c.model-model.ensures.sound))
