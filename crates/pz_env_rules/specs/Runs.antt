-- The driven runs of a system and a script: as the runs of a model, with what a driven system offers and
-- with its moments and steps in their places.
use Rattle.std.specs.Prelude.{◌≡◌, ℕ, List, [], ◌∷◌, length, Some, Ok, Err, slice_get}
use Rattle.pz_trace.specs.pz_offer.declared.trouble.Trouble.{Trouble}
use Rattle.pz_trace.specs.pz_rules.declared.action.Action.{Action}
use Rattle.pz_trace.specs.pz_rules.declared.moment.Moment.TheVariants.{Actions, Time, Finished, Deadlock, Faulty, Stopped}
use Rattle.pz_trace.specs.pz_rules.Runs.{Event, acted, passed, Standing, whole, stopped, Ending, ended, deadlocked, troubled, halted}
use Rattle.pz_env_rules.specs.Joining.{Driving}
use Rattle.pz_env_rules.specs.Driven.{Driven}
use Rattle.pz_env_rules.specs.Offers.{IsDrivenOffers}
use Rattle.pz_env_rules.specs.Moments.{IsDrivenMoment}
use Rattle.pz_env_rules.specs.Steps.{DrivenNext, DrivenPasses}

module _ (g : Driving) where
  -- the action of number k among the n offers
  pub record IsDrivenChoice (d : Driven) (n k : ℕ) (a : Action) : Type 0 where
    pub offers : List Action
    pub all : IsDrivenOffers g d offers
    pub count : n ≡ length offers
    pub chosen : slice_get offers k ≡ Some a

  -- from where it stands these events lead there; where an action ends in a trouble, it stays
  pub data DrivenReaches : Driven → List Event → Driven → Standing → Type 0 where
    here : (d : Driven) → DrivenReaches d [] d whole
    acts : (d next end : Driven) (n k : ℕ) (a : Action) (events : List Event) (standing : Standing)
        → IsDrivenMoment g d (Actions n) → IsDrivenChoice d n k a → DrivenNext g d a (Ok next) → DrivenReaches next events end standing
        → DrivenReaches d (acted d.system.clock n k a ∷ events) end standing
    stops : (d : Driven) (n k : ℕ) (a : Action) (trouble : Trouble)
        → IsDrivenMoment g d (Actions n) → IsDrivenChoice d n k a → DrivenNext g d a (Err trouble)
        → DrivenReaches d (acted d.system.clock n k a ∷ []) d (stopped trouble)
    passes : (d next end : Driven) (time : ℕ) (events : List Event) (standing : Standing)
        → IsDrivenMoment g d (Time time) → DrivenPasses g d time next → DrivenReaches next events end standing
        → DrivenReaches d (passed d.system.clock time ∷ events) end standing

  -- where a driven run stands and may end so
  pub data DrivenEnds : Driven → Standing → Ending → Type 0 where
    ends : (d : Driven) → IsDrivenMoment g d Finished → DrivenEnds d whole ended
    deadlocks : (d : Driven) → IsDrivenMoment g d Deadlock → DrivenEnds d whole deadlocked
    faults : (d : Driven) (trouble : Trouble) → IsDrivenMoment g d (Faulty trouble) → DrivenEnds d whole (troubled trouble)
    highs : (d : Driven) (trouble : Trouble) → IsDrivenMoment g d (Stopped trouble) → DrivenEnds d whole (troubled trouble)
    stops : (d : Driven) (trouble : Trouble) → DrivenEnds d (stopped trouble) (troubled trouble)
    halts_acting : (d : Driven) (n : ℕ) → IsDrivenMoment g d (Actions n) → DrivenEnds d whole halted
    halts_passing : (d : Driven) (time : ℕ) → IsDrivenMoment g d (Time time) → DrivenEnds d whole halted
