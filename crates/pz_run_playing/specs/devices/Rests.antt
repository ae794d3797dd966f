-- What is left of a chosen run from where a simulator stands.
use Rattle.std.specs.Prelude.{◌≡◌, ℕ, true, List, [], Option}
use Rattle.pz_rules.specs.pz_syntax.Classes.{ModelTree}
use Rattle.pz_rules.specs.pz_classes_rules.Soundness.{IsSound}
use Rattle.pz_rules.specs.pz_offer.declared.trouble.Trouble.{Trouble}
use Rattle.pz_bind.specs.declared.net.Net.{Net}
use Rattle.pz_bind.specs.devices.Nets.{IsNet}
use Rattle.pz_rules.specs.declared.moment.Moment.TheVariants.{Time}
use Rattle.pz_rules.specs.Settings.{Setting}
use Rattle.pz_rules.specs.Ports.{HasWires}
use Rattle.pz_rules.specs.Fitting.{IsFit}
use Rattle.pz_rules.specs.Configurations.{Config, IsWhole}
use Rattle.pz_rules.specs.Runs.{Event, Standing, whole, stopped, Reaches, Ending, troubled}
use Rattle.pz_rules.specs.ChosenRuns.{Policy, IsChosenRun, is_beyond}
use Rattle.pz_rules.specs.devices.Pending.{list_pending}
use Rattle.pz_watch_points.specs.pz_trace.Named.{HasTroubled}
use Rattle.pz_term_simulator.specs.Simulations.{Simulation, stands, broken, IsMomentOf, clock_in}
use Rattle.pz_run_playing.specs.Playing.{EndsAs}

-- how many delays may have something left
abbrev pub pending_in : Simulation → ℕ
pending_in (stands setting c standing) = list_pending c.processes
pending_in (broken setting) = 0

-- what a sound model keeps, so that something can be chosen from there
pub record CanGoOn (setting : Setting) (c : Config) : Type 0 where
  pub sound : IsSound setting.model
  pub wires : HasWires setting.model
  pub all : IsWhole setting c
  pub fit : IsFit setting c

-- it can go on, or its last action has ended in a trouble
abbrev pub IsReady : Simulation → Type 0
IsReady (stands setting c whole) = CanGoOn setting c
IsReady (stands setting c (stopped trouble)) = Unit {0}
IsReady (broken setting) = ⊥

-- no time passes any more
abbrev pub IsHeld : Option ℕ → Simulation → Type 0
IsHeld until s = (d : ℕ) → IsMomentOf s (Time d) → is_beyond until (clock_in s) d ≡ true

-- the process of the trouble in which a run ends, if it does, is one of the net
abbrev pub HasTroubledAtEnd : Net → Ending → Type 0
HasTroubledAtEnd net ending = (trouble : Trouble) → ending ≡ troubled trouble → HasTroubled net trouble

-- and of any net of the model
abbrev pub IsTroubledIn : ModelTree → Ending → Type 0
IsTroubledIn m ending = (net : Net) → ∥ IsNet m net ∥₁ → HasTroubledAtEnd net ending

-- a run that is chosen from a configuration on, in which j actions were chosen: to where it leads
pub record ChosenRest (setting : Setting) (policy : Policy) (j : ℕ) (c : Config) (events : List Event) (to : Simulation) (ending : Ending) : Type 0 where
  pub end : Config
  pub standing : Standing
  pub is_end : to ≡ stands setting end standing
  pub run : IsChosenRun setting policy j c events end ending
  pub reaches : Reaches setting c events end standing
  pub ends_as : EndsAs standing ending

-- after a trouble nothing follows
pub record IsOver (setting : Setting) (c : Config) (trouble : Trouble) (events : List Event) (to : Simulation) (ending : Ending) : Type 0 where
  pub none : events ≡ []
  pub stays : to ≡ stands setting c (stopped trouble)
  pub is_ending : ending ≡ troubled trouble

abbrev pub RestOf : Policy → ℕ → Simulation → List Event → Simulation → Ending → Type 0
RestOf policy j (stands setting c whole) events to ending = ChosenRest setting policy j c events to ending
RestOf policy j (stands setting c (stopped trouble)) events to ending = IsOver setting c trouble events to ending
RestOf policy j (broken setting) events to ending = ⊥
