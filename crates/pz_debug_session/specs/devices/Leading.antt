-- The steps of a session one by one, from where a simulator stands.
use Rattle.std.specs.Prelude.{◌≤◌, ◌<◌, ◌+◌, ◌*◌, ◌^◌, ℕ, List, [], ◌∷◌, length, take, drop}
use Rattle.pz_rules.specs.declared.moment.Moment.TheVariants.{Actions, Time}
use Rattle.pz_rules.specs.Configurations.{IsWhole}
use Rattle.pz_term_simulator.specs.Simulations.{Simulation, stands, broken, IsMomentOf, Chooses, Passes, clock_in}
use Rattle.pz_debug_session.specs.declared.step.Step.{Step}
use Rattle.pz_debug_session.specs.declared.step.Step.TheVariants.{Pick, Pass}

abbrev pub Takes : Step → Simulation → Simulation → Type 0
Takes (Pick k) s t = Chooses k s t
Takes Pass s t = Passes s t

-- it is one of the offers of the moment, or time passes and the clock is low
abbrev pub CanTake : Step → Simulation → Type 0
CanTake (Pick k) s = (n : ℕ) × IsMomentOf s (Actions n) × (k < n)
CanTake Pass s = (d : ℕ) × IsMomentOf s (Time d) × (clock_in s < 2 ^ 127)

-- a passing is short
abbrev pub IsShort : Step → Simulation → Simulation → Type 0
IsShort (Pick k) s t = Unit {0}
IsShort Pass s t = clock_in t < clock_in s + 2 ^ 64

pub data Leads : Simulation → List Step → Simulation → Type 0 where
  arrived : (s : Simulation) → Leads s [] s
  further : (step : Step) (s m t : Simulation) (steps : List Step) → Takes step s m → Leads m steps t → Leads s (step ∷ steps) t

-- it has all processes
abbrev pub IsWholeAt : Simulation → Type 0
IsWholeAt (stands setting c standing) = IsWhole setting c
IsWholeAt (broken setting) = Unit {0}

-- so many of the steps are taken, by short passings, and the others can be
pub record OnTheWay (steps : List Step) (i : ℕ) (first here : Simulation) : Type 0 where
  pub within : i ≤ length steps
  pub all : IsWholeAt here
  pub low : clock_in here ≤ 2 ^ 64 * i
  pub before : Leads first (take i steps) here
  pub to : Simulation
  pub after : Leads here (drop i steps) to
