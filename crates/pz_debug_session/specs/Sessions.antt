-- What a session is: where it stands, and the steps that it has taken.
use Rattle.std.specs.Prelude.{List, if◌then◌else◌}
use Rattle.pz_term_simulator.specs.Simulations.{Simulation, broken, setting_in}
use Rattle.pz_debug_session.specs.declared.step.Step.{Step}
use Rattle.pz_debug_session.specs.declared.session.Session.{Session}

abbrev pub steps_in : {E : Type 0} → Session E → List Step
steps_in s = s.steps.items

-- where its simulator stands; after want of memory for a step it is broken as well
abbrev pub stands_in : {E : Type 0} → (E → Simulation) → Session E → Simulation
stands_in simulation s = if s.lost then broken (setting_in (simulation s.engine)) else simulation s.engine
