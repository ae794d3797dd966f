-- The runs of a model.
use Rattle.std.specs.Prelude.{◌≡◌, ℕ, List, [], ◌∷◌, length, Some, Ok, Err, slice_get}
use Rattle.pz_offer.specs.declared.trouble.Trouble.{Trouble}
use Rattle.pz_rules.specs.declared.action.Action.{Action}
use Rattle.pz_rules.specs.declared.moment.Moment.TheVariants.{Actions, Time, Finished, Deadlock, Faulty, Stopped}
use Rattle.pz_rules.specs.Settings.{Setting}
use Rattle.pz_rules.specs.Configurations.{Config}
use Rattle.pz_rules.specs.Offers.{IsOffers}
use Rattle.pz_rules.specs.Steps.{Next, PassesTo}
use Rattle.pz_rules.specs.Moments.{IsMoment}

-- what happens in a run, and at which clock: an action, with the number of offers and its own number
-- among them, from 0, or a passing of so much time
pub data Event : Type 0 where
  acted : (clock count number : ℕ) (action : Action) → Event
  passed : (clock time : ℕ) → Event

-- the action of number k among the n offers of a configuration
pub record IsChoice (setting : Setting) (c : Config) (n k : ℕ) (a : Action) : Type 0 where
  pub offers : List Action
  pub all : IsOffers setting c offers
  pub count : n ≡ length offers
  pub chosen : slice_get offers k ≡ Some a

-- A simulator goes on, or the last action gave a trouble and did not take place.
pub data Standing : Type 0 where
  whole : Standing
  stopped : Trouble → Standing

-- From a configuration these events lead to that one. Any offer may be chosen. Where an action ends in
-- a trouble, the configuration stays.
pub data Reaches (setting : Setting) : Config → List Event → Config → Standing → Type 0 where
  here : (c : Config) → Reaches setting c [] c whole
  acts : (c next end : Config) (n k : ℕ) (a : Action) (events : List Event) (standing : Standing)
      → IsMoment setting c (Actions n) → IsChoice setting c n k a → Next setting c a (Ok next) → Reaches setting next events end standing
      → Reaches setting c (acted c.clock n k a ∷ events) end standing
  stops : (c : Config) (n k : ℕ) (a : Action) (trouble : Trouble)
      → IsMoment setting c (Actions n) → IsChoice setting c n k a → Next setting c a (Err trouble)
      → Reaches setting c (acted c.clock n k a ∷ []) c (stopped trouble)
  passes : (c next end : Config) (d : ℕ) (events : List Event) (standing : Standing)
      → IsMoment setting c (Time d) → PassesTo setting c d next → Reaches setting next events end standing
      → Reaches setting c (passed c.clock d ∷ events) end standing

-- how a run ends
pub data Ending : Type 0 where
  ended : Ending
  deadlocked : Ending
  troubled : Trouble → Ending
  -- it may be stopped where an action or a passing is possible
  halted : Ending
  -- an entry of a list of choices is no offer
  refused : (entry count : ℕ) → Ending

-- where a run stands and may end so
pub data Ends (setting : Setting) : Config → Standing → Ending → Type 0 where
  ends : (c : Config) → IsMoment setting c Finished → Ends setting c whole ended
  deadlocks : (c : Config) → IsMoment setting c Deadlock → Ends setting c whole deadlocked
  faults : (c : Config) (trouble : Trouble) → IsMoment setting c (Faulty trouble) → Ends setting c whole (troubled trouble)
  -- what stands at the start is too high
  highs : (c : Config) (trouble : Trouble) → IsMoment setting c (Stopped trouble) → Ends setting c whole (troubled trouble)
  stops : (c : Config) (trouble : Trouble) → Ends setting c (stopped trouble) (troubled trouble)
  halts_acting : (c : Config) (n : ℕ) → IsMoment setting c (Actions n) → Ends setting c whole halted
  halts_passing : (c : Config) (d : ℕ) → IsMoment setting c (Time d) → Ends setting c whole halted
