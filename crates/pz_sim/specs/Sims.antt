-- What a simulator over execution trees stands for.
use Rattle.std.specs.Prelude.{ℕ, List}
use Rattle.pz_rules.specs.pz_syntax.Classes.{ModelTree}
use Rattle.pz_bind.specs.pz_classes.CheckedView.{checked_model}
use Rattle.pz_rules.specs.Settings.{Setting}
use Rattle.pz_rules.specs.Runs.{whole, stopped}
use Rattle.pz_rules.specs.devices.Start.{start_of}
use Rattle.pz_tree.specs.pz_term_processes.Standing.{setting_of}
use Rattle.pz_term_simulator.specs.Simulations.{Simulation, stands, broken}
use Rattle.pz_sim_laws.specs.Members.{config_of}
use Rattle.pz_tree.specs.declared.tree.Tree.{Tree}
use Rattle.pz_sim.specs.Members.{members_of}
use Rattle.pz_sim.specs.declared.standing.Standing.{Standing}
use Rattle.pz_sim.specs.declared.standing.Standing.TheVariants as standing
use Rattle.pz_sim.specs.declared.sim.Sim.{Sim}

-- a start that is too high stands as it is, and no tree was built
abbrev pub simulation_at : Setting → ℕ → List Tree → Standing → Simulation
simulation_at setting clock trees (standing.Whole moment) = stands setting (config_of clock (members_of setting.model trees)) whole
simulation_at setting clock trees (standing.High trouble) = stands setting (start_of setting) whole
simulation_at setting clock trees (standing.Stopped trouble) = stands setting (config_of clock (members_of setting.model trees)) (stopped trouble)
simulation_at setting clock trees standing.Broken = broken setting

abbrev pub model_of : Sim → ModelTree
model_of s = checked_model s.checked

abbrev pub simulation_of : Sim → Simulation
simulation_of s = simulation_at (setting_of (model_of s) s.limits) s.clock s.trees.items s.standing
