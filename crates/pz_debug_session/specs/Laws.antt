-- Laws of sessions.
use Rattle.std.specs.Prelude.{◌≡◌, ◌<◌, ◌+◌, ◌^◌, ℕ, List, [], ◌∷◌, ◌++◌, take}
use Rattle.pz_rules.specs.Settings.{Setting}
use Rattle.pz_term_simulator.specs.Simulations.{Simulation, Starts, Chooses, Passes, clock_in}
use Rattle.pz_debug_session.specs.declared.step.Step.{Step}
use Rattle.pz_debug_session.specs.declared.step.Step.TheVariants.{Pick, Pass}
use Rattle.pz_debug_session.specs.Steps.{StandsAfter, StandsLow}

-- a list of steps leads to one place
abbrev pub OnePlace : Type 0
OnePlace = (setting : Setting) (steps : List Step) (s t : Simulation) → StandsAfter setting steps s → StandsAfter setting steps t → s ≡ t

-- no step leads to the start
abbrev pub BeginsAtStart : Type 0
BeginsAtStart = (setting : Setting) (s : Simulation) → Starts setting s → StandsAfter setting [] s

-- and each step from there on

abbrev pub GoesOnByChoice : Type 0
GoesOnByChoice = (setting : Setting) (steps : List Step) (k : ℕ) (s t : Simulation) → StandsAfter setting steps s → Chooses k s t → StandsAfter setting (steps ++ Pick k ∷ []) t

abbrev pub GoesOnByPassing : Type 0
GoesOnByPassing = (setting : Setting) (steps : List Step) (s t : Simulation) → StandsAfter setting steps s → Passes s t → StandsAfter setting (steps ++ Pass ∷ []) t

-- the first of these steps lead somewhere too
abbrev pub FrontsLead : Type 0
FrontsLead = (setting : Setting) (steps : List Step) (n : ℕ) (s : Simulation) → StandsAfter setting steps s → (t : Simulation) × StandsAfter setting (take n steps) t

-- the same of sessions whose clock is at most 2^64 units for each step

abbrev pub BeginsLow : Type 0
BeginsLow = (setting : Setting) (s : Simulation) → Starts setting s → StandsLow setting [] s

abbrev pub StaysLowByChoice : Type 0
StaysLowByChoice = (setting : Setting) (steps : List Step) (k : ℕ) (s t : Simulation) → StandsLow setting steps s → Chooses k s t → StandsLow setting (steps ++ Pick k ∷ []) t

abbrev pub StaysLowByPassing : Type 0
StaysLowByPassing = (setting : Setting) (steps : List Step) (s t : Simulation) → StandsLow setting steps s → Passes s t → clock_in t < clock_in s + 2 ^ 64 → StandsLow setting (steps ++ Pass ∷ []) t
