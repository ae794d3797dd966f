-- The promises of the call as one, for the calls below it.
use Rattle.std.specs.Prelude.{◌≡◌, ◌≢◌, ◌⊎◌, ◌<◌, ◌+◌, length, true, Option}
use Rattle.pz_io.specs.Outside.{FilesState, SinkState, Rose}
use Rattle.pz_debug.specs.Asked.{Asked}
use Rattle.pz_debug.specs.Files.{files_of}
use Rattle.pz_debug.specs.Promises.{PrintsAll, PrintsFront, OpensFiles, EndsReading, EndsWriting, SaysFault, IsPastLimit, Lacks, IsLonger, IsNoModel, HasModelText, CanEnd}
use Rattle.pz_debug.specs.declared.status.DebugStatus.{DebugStatus}
use Rattle.pz_debug.specs.declared.status.DebugStatus.TheVariants.{ModelRefused, TooLong, ReadFault, WriteFault, NoMemory}

pub record KeepsPromises (a : Option Asked) (f g : FilesState) (before now : SinkState) (given : DebugStatus) : Type 0 where
  pub output : f.told ≡ true → given ≢ WriteFault → given ≢ NoMemory → ¬ ((given ≡ ReadFault) × Rose f.faults g.faults) → PrintsAll a f.held before now given
  pub read_fault : given ≡ ReadFault → Rose f.faults g.faults → SaysFault (files_of a) f g before now
  pub opens : OpensFiles (files_of a) f g given
  pub front : f.told ≡ true → before.told ≡ true → PrintsFront a f g before now
  pub statuses : CanEnd a given
  pub model_refused : f.told ≡ true → given ≡ ModelRefused → IsNoModel a f.held
  pub no_model : IsNoModel a f.held → f.told ≡ true → given ≢ WriteFault → given ≢ NoMemory → ¬ ((given ≡ ReadFault) × Rose f.faults g.faults) → given ≡ ModelRefused
  pub commands_opened : f.told ≡ true → length f.opened + 1 < length g.opened → HasModelText a f.held
  pub too_long : given ≡ TooLong → IsPastLimit (files_of a) f g
  pub longer : f.told ≡ true → given ≡ TooLong → IsLonger (files_of a) f.held
  pub read_cause : given ≡ ReadFault → Rose f.faults g.faults ⊎ ((f.told ≡ true) × Lacks (files_of a) f.held)
  pub reading : g.faults ≢ f.faults → EndsReading f g given
  pub writing : EndsWriting before now given
