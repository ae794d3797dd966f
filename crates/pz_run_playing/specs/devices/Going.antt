-- A run on its way: what was told and counted of it, and what it still comes to.
use Rattle.std.specs.Prelude.{◌≡◌, ◌≤◌, ℕ, ◌+◌, ◌-◌, List, [], ◌++◌, Option, Some, None}
use Rattle.pz_io.specs.Outside.{SinkState}
use Rattle.pz_io.specs.declared.writing.Halt.{Halt}
use Rattle.pz_io.specs.Writing.{Wrote}
use Rattle.pz_rules.specs.Settings.{Setting}
use Rattle.pz_rules.specs.Runs.{Event, Ending}
use Rattle.pz_rules.specs.ChosenRuns.{Policy}
use Rattle.pz_term_simulator.specs.Simulations.{Simulation, stands, setting_in, model_in, clock_in}
use Rattle.pz_term_simulator.specs.devices.Room.{HasRoomFor}
use Rattle.pz_choice.specs.declared.chooser.Chooser.{Chooser}
use Rattle.pz_choice.specs.Resolvers.{Resolver}
use Rattle.pz_choice.specs.Choosers.{Stands}
use Rattle.pz_words.specs.declared.jobs.RunLimits.{RunLimits}
use Rattle.pz_run_playing.specs.Policies.{policy_of}
use Rattle.pz_run_playing.specs.declared.listening.Listener.{Listener}
use Rattle.pz_run_playing.specs.declared.playing.Played.{Played}
use Rattle.pz_run_playing.specs.Endings.{ending_of}
use Rattle.pz_run_playing.specs.Sayings.{Saying, said_after}
use Rattle.pz_run_playing.specs.Summaries.{actions_in, passings_in}
use Rattle.pz_run_playing.specs.Playing.{ChosenRun}
use Rattle.pz_run_playing.specs.devices.Hearing.{Manner, saying, HasHeard}
use Rattle.pz_run_playing.specs.devices.Rests.{IsReady, RestOf}

-- how many actions were chosen and how often time passed, which events these were, and where the simulator
-- stands
pub record Progress : Type 0 where
  pub actions : ℕ
  pub passes : ℕ
  pub past : List Event
  pub at : Simulation

abbrev pub progress : ℕ → ℕ → List Event → Simulation → Progress
progress actions passes past at = record { actions = actions; passes = passes; past = past; at = at }

-- these events are still to come, and with what was written and counted they are all since then
pub record Since (policy : Policy) (say : Saying) (first here : Progress) (written : List ℕ) (rest : List Event) (to : Simulation) (ending : Ending) : Type 0 where
  pub events : List Event
  pub rest_of : RestOf policy first.actions first.at events to ending
  pub text : said_after say first.past events ≡ written ++ said_after say here.past rest
  pub all : first.past ++ events ≡ here.past ++ rest
  pub actions : first.actions + actions_in events ≡ here.actions + actions_in rest
  pub passes : first.passes + passings_in events ≡ here.passes + passings_in rest

-- this is so of whatever is still to come
pub record Onward (policy : Policy) (say : Saying) (first here : Progress) (written : List ℕ) : Type 0 where
  pub since : (rest : List Event) (to : Simulation) (ending : Ending) → RestOf policy here.actions here.at rest to ending → Since policy say first here written rest to ending

-- something halted in the text of a run
pub record CutShort (policy : Policy) (say : Saying) (actions : ℕ) (past : List Event) (at : Simulation) (before now : SinkState) (halt : Halt) : Type 0 where
  pub events : List Event
  pub to : Simulation
  pub ending : Ending
  pub rest_of : RestOf policy actions at events to ending
  pub wrote : Wrote before now (said_after say past events) (Some halt)

-- The simulator has gone on, and can go on. Each passing is of one clock unit at least, so there are never
-- more than these.
pub record HasGone (first : Simulation) (passes : ℕ) (at : Simulation) : Type 0 where
  pub ready : IsReady at
  pub setting : setting_in at ≡ setting_in first
  pub within : passes ≤ clock_in at

-- time has passed, behind these events
pub record Passing (until : Option ℕ) (manner : Manner) (behind : List Event) (first : Simulation) (before : SinkState) (begun passes : ℕ) (at : Simulation) (listener : Listener) (now : SinkState) : Type 0 where
  pub past : List Event
  pub heard : HasHeard (model_in first) manner past (clock_in at) listener
  pub written : List ℕ
  pub wrote : Wrote before now written None
  pub onward : (policy : Policy) (actions : ℕ) → policy.until ≡ until → Onward policy (saying (model_in first) manner) (progress actions begun behind first) (progress actions passes past at) written

-- actions and passings, from the start on
pub record Going (policy : Policy) (manner : Manner) (first : Simulation) (before : SinkState) (actions passes : ℕ) (at : Simulation) (listener : Listener) (now : SinkState) : Type 0 where
  pub past : List Event
  pub heard : HasHeard (model_in first) manner past (clock_in at) listener
  pub written : List ℕ
  pub wrote : Wrote before now written None
  pub onward : Onward policy (saying (model_in first) manner) (progress 0 0 [] first) (progress actions passes past at) written

-- the run has come to its end, and this was told and counted of it
pub record Ended (policy : Policy) (manner : Manner) (first at : Simulation) (before now : SinkState) (listener : Listener) (played : Played) : Type 0 where
  pub events : List Event
  pub rest_of : RestOf policy 0 first events at (ending_of played.finale)
  pub wrote : Wrote before now (said_after (saying (model_in first) manner) [] events) None
  pub heard : HasHeard (model_in first) manner events (clock_in at) listener
  pub actions : played.actions ≡ actions_in events
  pub passes : played.passes ≡ passings_in events

-- the same of a run from the start of a model, behind a first line
pub record PlayedThrough (setting : Setting) (policy : Policy) (header : List ℕ) (manner : Manner) (at : Simulation) (before now : SinkState) (listener : Listener) (played : Played) : Type 0 where
  pub run : ChosenRun setting policy
  pub wrote : Wrote before now (header ++ said_after (saying setting.model manner) [] run.events) None
  pub heard : HasHeard setting.model manner run.events run.end.clock listener
  pub finale : ending_of played.finale ≡ run.ending
  pub actions : played.actions ≡ actions_in run.events
  pub passes : played.passes ≡ passings_in run.events
  pub arrives : at ≡ stands setting run.end run.standing

-- something halted in it
pub record BrokenOff (setting : Setting) (policy : Policy) (header : List ℕ) (manner : Manner) (before now : SinkState) (halt : Halt) : Type 0 where
  pub run : ChosenRun setting policy
  pub wrote : Wrote before now (header ++ said_after (saying setting.model manner) [] run.events) (Some halt)

-- the same of a run that a chooser chooses, whoever that is, for whatever a listener hears
pub record Course (limits : RunLimits) (begun : Chooser) (listening : Listener) (first : Simulation) (before : SinkState) (chooser : Chooser) (actions passes : ℕ) (at : Simulation) (listener : Listener) (now : SinkState) : Type 0 where
  pub gone : HasGone first passes at
  pub room : HasRoomFor (limits.steps - actions) at
  pub stands_at : (r : Resolver) → Stands begun r 0 → Stands chooser r actions
  pub going : (r : Resolver) (manner : Manner) → Stands begun r 0 → HasHeard (model_in first) manner [] (clock_in first) listening → Going (policy_of r limits) manner first before actions passes at listener now
