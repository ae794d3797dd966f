-- What a plain simulator stands for.
use Rattle.std.specs.Prelude.{ℕ, List}
use Rattle.pz_rules.specs.pz_syntax.Classes.{ModelTree}
use Rattle.pz_bind.specs.pz_classes.CheckedView.{checked_model}
use Rattle.pz_rules.specs.Settings.{Setting}
use Rattle.pz_rules.specs.Runs.{whole, stopped}
use Rattle.pz_rules.specs.devices.Start.{start_of}
use Rattle.pz_term_processes.specs.declared.process.Process.{Process}
use Rattle.pz_term_processes.specs.Standing.{setting_of, config_of}
use Rattle.pz_term.specs.declared.standing.Standing.{Standing}
use Rattle.pz_term.specs.declared.standing.Standing.TheVariants as standing
use Rattle.pz_term.specs.declared.plain.Plain.{Plain}
use Rattle.pz_term_simulator.specs.Simulations.{Simulation, stands, broken}

-- a start that is too high stands as it is, whatever of it was built
abbrev pub simulation_at : Setting → ℕ → List Process → Standing → Simulation
simulation_at setting clock processes (standing.Whole outlook) = stands setting (config_of clock processes) whole
simulation_at setting clock processes (standing.High trouble) = stands setting (start_of setting) whole
simulation_at setting clock processes (standing.Stopped trouble) = stands setting (config_of clock processes) (stopped trouble)
simulation_at setting clock processes standing.Broken = broken setting

abbrev pub model_of : Plain → ModelTree
model_of p = checked_model p.checked

abbrev pub simulation_of : Plain → Simulation
simulation_of p = simulation_at (setting_of (model_of p) p.limits) p.clock p.processes.items p.standing
