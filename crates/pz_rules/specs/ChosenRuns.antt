-- The run that a policy chooses.
use Rattle.std.specs.Prelude.{◌≡◌, ℕ, suc, ◌+◌, nat_lt, nat_le, Bool, false, if◌then◌else◌, List, [], ◌∷◌, Option, Some, None, Ok, Err}
use Rattle.pz_offer.specs.declared.trouble.Trouble.{Trouble}
use Rattle.pz_rules.specs.declared.action.Action.{Action}
use Rattle.pz_rules.specs.declared.moment.Moment.{Moment}
use Rattle.pz_rules.specs.declared.moment.Moment.TheVariants.{Actions, Time, Finished, Deadlock, Faulty, Stopped, Broken}
use Rattle.pz_rules.specs.Settings.{Setting}
use Rattle.pz_rules.specs.Configurations.{Config}
use Rattle.pz_rules.specs.Steps.{Next, PassesTo}
use Rattle.pz_rules.specs.Moments.{IsMoment}
use Rattle.pz_rules.specs.Runs.{Event, acted, passed, IsChoice, Ending, ended, deadlocked, troubled, halted, refused}

-- What is chosen: for the j-th action, from 0, of n offers; the entry that is ahead and has to be
-- used up where a run ends by itself; how many actions are chosen at most; and a clock that no
-- passing goes beyond, if there is one.
pub record Policy : Type 0 where
  pub choose : ℕ → ℕ → Option ℕ
  pub ahead : ℕ → Option ℕ
  pub steps : ℕ
  pub until : Option ℕ

-- what is decided at a moment: the end of the run, the action of number k among n offers, or a passing
-- of so much time
pub data Decision : Type 0 where
  stops_with : Ending → Decision
  takes : (n k : ℕ) → Decision
  waits : (d : ℕ) → Decision

-- no time passes beyond the bound
abbrev pub is_beyond : Option ℕ → ℕ → ℕ → Bool
is_beyond None clock d = false
is_beyond (Some bound) clock d = nat_lt bound (clock + d)

-- an entry may be left over
abbrev pub used_up : Ending → Option ℕ → Decision
used_up ending None = stops_with ending
used_up ending (Some entry) = stops_with (refused entry 0)

-- there may be no further entry, or one that is no offer
abbrev pub entry_of : ℕ → Option ℕ → Decision
entry_of n None = stops_with halted
entry_of n (Some k) = if nat_lt k n then takes n k else stops_with (refused k n)

-- at a clock, once j actions were chosen; a configuration is never at the last moment
abbrev pub decided : Policy → ℕ → ℕ → Moment → Decision
decided policy j clock (Actions n) = if nat_le policy.steps j then stops_with halted else entry_of n (policy.choose j n)
decided policy j clock (Time d) = if is_beyond policy.until clock d then stops_with halted else waits d
decided policy j clock Finished = used_up ended (policy.ahead j)
decided policy j clock Deadlock = used_up deadlocked (policy.ahead j)
decided policy j clock (Faulty trouble) = stops_with (troubled trouble)
decided policy j clock (Stopped trouble) = stops_with (troubled trouble)
decided policy j clock Broken = stops_with halted

-- The run from a configuration in which j actions have been chosen: its events, the configuration at
-- its end, and its ending.
pub data IsChosenRun (setting : Setting) (policy : Policy) : ℕ → Config → List Event → Config → Ending → Type 0 where
  ends : (j : ℕ) (c : Config) (m : Moment) (ending : Ending)
      → IsMoment setting c m → decided policy j c.clock m ≡ stops_with ending → IsChosenRun setting policy j c [] c ending
  acts : (j : ℕ) (c next end : Config) (m : Moment) (n k : ℕ) (a : Action) (events : List Event) (ending : Ending)
      → IsMoment setting c m → decided policy j c.clock m ≡ takes n k → IsChoice setting c n k a → Next setting c a (Ok next)
      → IsChosenRun setting policy (suc j) next events end ending → IsChosenRun setting policy j c (acted c.clock n k a ∷ events) end ending
  -- an action that ends in a trouble does not take place
  stops : (j : ℕ) (c : Config) (m : Moment) (n k : ℕ) (a : Action) (trouble : Trouble)
      → IsMoment setting c m → decided policy j c.clock m ≡ takes n k → IsChoice setting c n k a → Next setting c a (Err trouble)
      → IsChosenRun setting policy j c (acted c.clock n k a ∷ []) c (troubled trouble)
  passes : (j : ℕ) (c next end : Config) (m : Moment) (d : ℕ) (events : List Event) (ending : Ending)
      → IsMoment setting c m → decided policy j c.clock m ≡ waits d → PassesTo setting c d next
      → IsChosenRun setting policy j next events end ending → IsChosenRun setting policy j c (passed c.clock d ∷ events) end ending
