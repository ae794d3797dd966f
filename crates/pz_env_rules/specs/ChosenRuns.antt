-- The driven run that a policy chooses.
use Rattle.std.specs.Prelude.{◌≡◌, ℕ, suc, List, [], ◌∷◌, Ok, Err}
use Rattle.pz_trace.specs.pz_offer.declared.trouble.Trouble.{Trouble}
use Rattle.pz_trace.specs.pz_rules.declared.action.Action.{Action}
use Rattle.pz_trace.specs.pz_rules.declared.moment.Moment.{Moment}
use Rattle.pz_trace.specs.pz_rules.Runs.{Event, acted, passed, Ending, troubled}
use Rattle.pz_trace.specs.pz_rules.ChosenRuns.{Policy, decided, stops_with, takes, waits}
use Rattle.pz_env_rules.specs.Joining.{Driving}
use Rattle.pz_env_rules.specs.Driven.{Driven}
use Rattle.pz_env_rules.specs.Moments.{IsDrivenMoment}
use Rattle.pz_env_rules.specs.Steps.{DrivenNext, DrivenPasses}
use Rattle.pz_env_rules.specs.Runs.{IsDrivenChoice}

-- The driven run from where j actions have been chosen: its events, where it stands at its end, and its
-- ending.
pub data IsChosenDrivenRun (g : Driving) (policy : Policy) : ℕ → Driven → List Event → Driven → Ending → Type 0 where
  ends : (j : ℕ) (d : Driven) (m : Moment) (ending : Ending)
      → IsDrivenMoment g d m → decided policy j d.system.clock m ≡ stops_with ending → IsChosenDrivenRun g policy j d [] d ending
  acts : (j : ℕ) (d next end : Driven) (m : Moment) (n k : ℕ) (a : Action) (events : List Event) (ending : Ending)
      → IsDrivenMoment g d m → decided policy j d.system.clock m ≡ takes n k → IsDrivenChoice g d n k a → DrivenNext g d a (Ok next)
      → IsChosenDrivenRun g policy (suc j) next events end ending → IsChosenDrivenRun g policy j d (acted d.system.clock n k a ∷ events) end ending
  -- an action that ends in a trouble does not take place
  stops : (j : ℕ) (d : Driven) (m : Moment) (n k : ℕ) (a : Action) (trouble : Trouble)
      → IsDrivenMoment g d m → decided policy j d.system.clock m ≡ takes n k → IsDrivenChoice g d n k a → DrivenNext g d a (Err trouble)
      → IsChosenDrivenRun g policy j d (acted d.system.clock n k a ∷ []) d (troubled trouble)
  passes : (j : ℕ) (d next end : Driven) (m : Moment) (time : ℕ) (events : List Event) (ending : Ending)
      → IsDrivenMoment g d m → decided policy j d.system.clock m ≡ waits time → DrivenPasses g d time next
      → IsChosenDrivenRun g policy j next events end ending → IsChosenDrivenRun g policy j d (passed d.system.clock time ∷ events) end ending
