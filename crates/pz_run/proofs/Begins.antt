-- What a simulator that stands at its start keeps of its setting.
use Rattle.std.proofs.Common.{◌≡◌}
use Rattle.pz_run_output.specs.pz_classes_openings.OpeningRules.{Opens}
use Rattle.pz_run_output.specs.pz_trace.pz_rules.declared.limits.Edition.TheVariants.{Two}
use Rattle.pz_run_output.specs.pz_trace.pz_rules.Settings.{Setting}
use Rattle.pz_sim.specs.pz_term_simulator.Simulations.{Simulation, Starts, starts, model_in, limits_in}

pub opens_at : (setting : Setting) (s : Simulation) → Starts setting s → (setting.limits.edition ≡ Two → Opens setting.model) → (limits_in s).edition ≡ Two → Opens (model_in s)
opens_at setting _ (starts c is) opens = opens
