-- The steps of a session, and the runs that they are taken in.
use Rattle.std.specs.Prelude.{◌≡◌, ◌≤◌, ◌*◌, ◌^◌, List, length, map}
use Rattle.pz_rules.specs.Settings.{Setting}
use Rattle.pz_rules.specs.Configurations.{Config}
use Rattle.pz_rules.specs.Starting.{IsStart}
use Rattle.pz_rules.specs.Runs.{Event, acted, passed, Standing, Reaches}
use Rattle.pz_term_simulator.specs.Simulations.{Simulation, stands, clock_in}
use Rattle.pz_debug_session.specs.declared.step.Step.{Step}
use Rattle.pz_debug_session.specs.declared.step.Step.TheVariants.{Pick, Pass}

-- the step by which an event comes
abbrev pub step_of : Event → Step
step_of (acted clock count number action) = Pick number
step_of (passed clock time) = Pass

-- From the start of a run on, these steps lead to where this stands. Where the last one ended in a
-- trouble, it counts, and the configuration has stayed.
pub record StandsAfter (setting : Setting) (steps : List Step) (s : Simulation) : Type 0 where
  pub start : Config
  pub is_start : IsStart setting start
  pub events : List Event
  pub end : Config
  pub standing : Standing
  pub reaches : Reaches setting start events end standing
  pub are_steps : steps ≡ map step_of events
  pub is_there : s ≡ stands setting end standing

-- The same, and the clock is at most 2^64 units for each step, as it is where each passing was shorter.
pub record StandsLow (setting : Setting) (steps : List Step) (s : Simulation) : Type 0 where
  pub after : StandsAfter setting steps s
  pub low : clock_in s ≤ 2 ^ 64 * length steps
