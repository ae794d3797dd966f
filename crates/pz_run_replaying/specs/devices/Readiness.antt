-- What a simulator stands for on its way through a run, and what it needs to go on.
use Rattle.std.specs.Prelude.{◌≡◌, ◌≢◌, ◌<◌, ◌^◌, ℕ, Err}
use Rattle.pz_rules.specs.pz_classes_rules.Soundness.{IsSound}
use Rattle.pz_bind.specs.declared.net.Net.{Net}
use Rattle.pz_bind.specs.devices.Nets.{IsNet}
use Rattle.pz_rules.specs.declared.action.Action.{Action}
use Rattle.pz_rules.specs.declared.moment.Moment.{Moment}
use Rattle.pz_rules.specs.declared.moment.Moment.TheVariants.{Actions, Time, Finished, Deadlock, Faulty, Stopped, Broken}
use Rattle.pz_rules.specs.Settings.{Setting}
use Rattle.pz_rules.specs.Ports.{HasWires}
use Rattle.pz_rules.specs.Fitting.{IsFit}
use Rattle.pz_rules.specs.Configurations.{Config, IsWhole}
use Rattle.pz_rules.specs.Steps.{Next}
use Rattle.pz_rules.specs.Runs.{Standing, whole, stopped, Ends}
use Rattle.pz_trace.specs.declared.ending.Ending.{Ending}
use Rattle.pz_trace.specs.declared.ending.Ending.TheVariants as ending
use Rattle.pz_trace.specs.Named.{IsNamedAtEnd}
use Rattle.pz_trace.specs.TraceText.{run_ending}
use Rattle.pz_term_simulator.specs.Simulations.{Simulation, stands, broken, model_in, IsMomentOf}
use Rattle.pz_run_replaying.specs.Stages.{Stage, unbegun, underway}

abbrev pub stage_of : Simulation → Stage
stage_of (stands setting c standing) = underway c standing
stage_of (broken setting) = unbegun

-- the last action has ended in a trouble
abbrev pub HasFailed : Setting → Config → Standing → Type 0
HasFailed setting c whole = Unit {0}
HasFailed setting c (stopped trouble) = (a : Action) × Next setting c a (Err trouble)

-- what a sound model keeps
pub record Ready (setting : Setting) (c : Config) (standing : Standing) : Type 0 where
  pub sound : IsSound setting.model
  pub wires : HasWires setting.model
  pub all : IsWhole setting c
  pub fit : IsFit setting c
  pub failed : HasFailed setting c standing

abbrev pub IsReady : Simulation → Type 0
IsReady (stands setting c standing) = Ready setting c standing
IsReady (broken setting) = ⊥

-- how a run may end at a moment
abbrev pub IsEndAt : Moment → Ending → Type 0
IsEndAt (Actions n) e = e ≡ ending.Stop
IsEndAt (Time d) e = e ≡ ending.Stop
IsEndAt Finished e = e ≡ ending.End
IsEndAt Deadlock e = e ≡ ending.Deadlock
IsEndAt (Faulty trouble) e = e ≡ ending.Trouble trouble
IsEndAt (Stopped trouble) e = e ≡ ending.Trouble trouble
IsEndAt Broken e = ⊥

-- it ends so by itself
pub record IsLast (s : Simulation) (e : Ending) : Type 0 where
  pub moment : Moment
  pub is_moment : IsMomentOf s moment
  pub ends : IsEndAt moment e
  pub no_stop : e ≢ ending.Stop

abbrev pub EndsIn : Simulation → Ending → Type 0
EndsIn (stands setting c standing) e = Ends setting c standing (run_ending e)
EndsIn (broken setting) e = ⊥

-- what the last line names is that of the net of the model, whichever net that is
abbrev pub IsNamedLast : Simulation → Ending → Type 0
IsNamedLast s e = (net : Net) → ∥ IsNet (model_in s) net ∥₁ → IsNamedAtEnd net e

-- the numbers of offers have a few digits
abbrev pub HasFewOffers : Simulation → Type 0
HasFewOffers s = (n : ℕ) → IsMomentOf s (Actions n) → n < 2 ^ 64
