-- The statuses of jobs that halt, of runs that were played, and of traces that were replayed.
use Rattle.std.specs.Prelude.{Bool, true, Result, Ok, Err}
use Rattle.pz_io.specs.declared.writing.Halt.{Halt}
use Rattle.pz_io.specs.declared.writing.Halt.TheVariants as halt
use Rattle.pz_env_closing.specs.pz_run_playing.declared.finale.Finale.{Finale}
use Rattle.pz_env_closing.specs.pz_run_playing.declared.finale.Judged.{Judged}
use Rattle.pz_env_closing.specs.pz_run_playing.Endings.{ending_of}
use Rattle.pz_run_replaying.specs.declared.replayed.Replayed.{Replayed}
use Rattle.pz_run_output.specs.declared.status.Status.{Status}
use Rattle.pz_run_output.specs.declared.status.Status.TheVariants.{Done, WriteFault, NoMemory, WatchBroken}
use Rattle.pz_run_output.specs.Status.{status_of, replay_status}

abbrev pub halted_as : Halt → Status
halted_as halt.NoMemory = NoMemory
halted_as halt.WriteFault = WriteFault

abbrev pub given_as : Result Finale Halt → Status
given_as (Ok finale) = status_of (ending_of finale)
given_as (Err halt) = halted_as halt

-- broken watches are told in the place of Done alone
abbrev pub watched : Bool → Status → Status
watched true Done = WatchBroken
watched broken status = status

abbrev pub judged_as : Result Judged Halt → Status
judged_as (Ok judged) = watched judged.broken (given_as (Ok judged.finale))
judged_as (Err halt) = halted_as halt

abbrev pub replayed_as : Result Replayed Halt → Status
replayed_as (Ok replayed) = replay_status replayed
replayed_as (Err halt) = halted_as halt
