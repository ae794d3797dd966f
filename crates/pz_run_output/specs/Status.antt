-- How the program ends.
use Rattle.std.specs.Prelude.{◌≡◌, ℕ, List}
use Rattle.pz_trace.specs.pz_rules.Runs.{Ending, ended, deadlocked, troubled, halted, refused}
use Rattle.pz_trace.specs.TraceText.{run_ending}
use Rattle.pz_watch.specs.Points.{Point}
use Rattle.pz_watch.specs.Files.{NamedFormula}
use Rattle.pz_watch.specs.Breaking.{AreBroken}
use Rattle.pz_run_replaying.specs.declared.replayed.Replayed.{Replayed}
use Rattle.pz_run_replaying.specs.declared.replayed.Replayed.TheVariants as replayed
use Rattle.pz_run_output.specs.declared.status.Status.{Status}
use Rattle.pz_run_output.specs.declared.status.Status.TheVariants.{Done, Deadlock, Usage, ModelRefused, ModelFault, ChoiceRefused, TraceRefused, TooLong, ReadFault, WriteFault, NoMemory, WatchBroken, WatchRefused, ScriptRefused}

-- the exit status
abbrev pub number_of : Status → ℕ
number_of Done = 0
number_of Deadlock = 1
number_of Usage = 2
number_of ModelRefused = 3
number_of ModelFault = 4
number_of ChoiceRefused = 5
number_of TraceRefused = 6
number_of TooLong = 7
number_of ReadFault = 8
number_of WriteFault = 9
number_of NoMemory = 10
number_of WatchBroken = 11
number_of WatchRefused = 12
number_of ScriptRefused = 13

-- the status of a job whose run ended so
abbrev pub status_of : Ending → Status
status_of ended = Done
status_of deadlocked = Deadlock
status_of (troubled trouble) = ModelFault
status_of halted = Done
status_of (refused entry count) = ChoiceRefused

-- that of a replay: where the trace is that of a run, the status of its ending
abbrev pub replay_status : Replayed → Status
replay_status (replayed.Ended ending) = status_of (run_ending ending)
replay_status (replayed.Refused line) = TraceRefused

-- that of a run that watches have judged at these points: a broken watch is told in the place of Done, and of
-- no other status
pub data IsJudgedAs (ws : List NamedFormula) (points : List Point) (ending : Ending) : Status → Type 0 where
  broken : status_of ending ≡ Done → AreBroken ws points → IsJudgedAs ws points ending WatchBroken
  kept : (status_of ending ≡ Done → AreBroken ws points → ⊥) → IsJudgedAs ws points ending (status_of ending)
