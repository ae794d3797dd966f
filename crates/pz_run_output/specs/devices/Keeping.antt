-- The promises of the top call as one, for the calls below it.
use Rattle.std.specs.Prelude.{◌≡◌, ◌≢◌, ◌⊎◌, ◌<◌, ◌+◌, ℕ, length, true, Option}
use Rattle.pz_io.specs.Outside.{FilesState, SinkState, Rose}
use Rattle.pz_trace.specs.pz_offer.declared.trouble.Trouble.{Trouble}
use Rattle.pz_trace.specs.pz_rules.Runs.{Ending, deadlocked, troubled, refused}
use Rattle.pz_words.specs.declared.jobs.Job.{Job}
use Rattle.pz_run_output.specs.declared.status.Status.{Status}
use Rattle.pz_run_output.specs.declared.status.Status.TheVariants.{Deadlock, ModelRefused, ModelFault, ChoiceRefused, TraceRefused, TooLong, ReadFault, WriteFault, NoMemory, WatchBroken, WatchRefused, ScriptRefused}
use Rattle.pz_run_output.specs.Files.{files_of}
use Rattle.pz_run_output.specs.Status.{status_of}
use Rattle.pz_run_output.specs.Promises.{PrintsAll, PrintsFront, OpensFiles, EndsReading, EndsWriting, SaysFault, IsPastLimit, Lacks, IsLonger, IsNoModel, HasModelText, RunEnds, IsNoTrace, IsBrokenAt, IsNoWatches, IsNoScript, CanEnd}

pub record KeepsPromises (a : Option Job) (f g : FilesState) (before now : SinkState) (given : Status) : Type 0 where
  pub output : f.told ≡ true → given ≢ WriteFault → given ≢ NoMemory → ¬ ((given ≡ ReadFault) × Rose f.faults g.faults) → PrintsAll a f.held before now given
  pub read_fault : given ≡ ReadFault → Rose f.faults g.faults → SaysFault (files_of a) f g before now
  pub opens : OpensFiles (files_of a) f g given
  pub front : f.told ≡ true → before.told ≡ true → PrintsFront a f g before now
  pub statuses : CanEnd a given
  pub model_refused : f.told ≡ true → given ≡ ModelRefused → IsNoModel a f.held
  pub no_model : IsNoModel a f.held → f.told ≡ true → given ≢ WriteFault → given ≢ NoMemory → ¬ ((given ≡ ReadFault) × Rose f.faults g.faults) → given ≡ ModelRefused
  pub deadlock : f.told ≡ true → given ≡ Deadlock → RunEnds a f.held deadlocked
  pub model_fault : f.told ≡ true → given ≡ ModelFault → (trouble : Trouble) × RunEnds a f.held (troubled trouble)
  pub choice_refused : f.told ≡ true → given ≡ ChoiceRefused → (entry : ℕ) × (count : ℕ) × RunEnds a f.held (refused entry count)
  pub run_end : (ending : Ending) → RunEnds a f.held ending → f.told ≡ true → given ≢ WriteFault → given ≢ NoMemory → ¬ ((given ≡ ReadFault) × Rose f.faults g.faults) → given ≡ status_of ending
  pub trace_refused : f.told ≡ true → given ≡ TraceRefused → IsNoTrace a f.held
  pub no_trace : IsNoTrace a f.held → f.told ≡ true → given ≢ WriteFault → given ≢ NoMemory → ¬ ((given ≡ ReadFault) × Rose f.faults g.faults) → given ≡ TraceRefused
  pub trace_opened : f.told ≡ true → length f.opened + 1 < length g.opened → HasModelText a f.held
  pub watch_broken : f.told ≡ true → given ≡ WatchBroken → IsBrokenAt a f.held
  pub broken_watch : IsBrokenAt a f.held → f.told ≡ true → given ≢ WriteFault → given ≢ NoMemory → ¬ ((given ≡ ReadFault) × Rose f.faults g.faults) → given ≡ WatchBroken
  pub watch_refused : f.told ≡ true → given ≡ WatchRefused → IsNoWatches a f.held
  pub no_watches : IsNoWatches a f.held → f.told ≡ true → given ≢ WriteFault → given ≢ NoMemory → ¬ ((given ≡ ReadFault) × Rose f.faults g.faults) → given ≡ WatchRefused
  pub script_refused : f.told ≡ true → given ≡ ScriptRefused → IsNoScript a f.held
  pub no_script : IsNoScript a f.held → f.told ≡ true → given ≢ WriteFault → given ≢ NoMemory → ¬ ((given ≡ ReadFault) × Rose f.faults g.faults) → given ≡ ScriptRefused
  pub too_long : given ≡ TooLong → IsPastLimit (files_of a) f g
  pub longer : f.told ≡ true → given ≡ TooLong → IsLonger (files_of a) f.held
  pub read_cause : given ≡ ReadFault → Rose f.faults g.faults ⊎ ((f.told ≡ true) × Lacks (files_of a) f.held)
  pub reading : g.faults ≢ f.faults → EndsReading f g given
  pub writing : EndsWriting before now given
