-- What the call promises, by parts: of files and of a sink at two moments, before and now. What the words ask
-- for is a session, or none.
use Rattle.std.specs.Prelude.{◌≡◌, ◌≢◌, ◌⊎◌, ◌<◌, ◌≤◌, ℕ, zero, suc, List, [], ◌∷◌, ◌++◌, true, length, Contains, slice_get, Option, Some, None}
use Rattle.pz_io.specs.Outside.{Entries, FilesState, SinkState, lookup, raised, Rose, FilesFailedLast, SinkFailedLast, Exceeds}
use Rattle.pz_io.specs.Writing.{TookAll, TookFront}
use Rattle.pz_bind.specs.pz_syntax.Classes.{ModelTree}
use Rattle.pz_run_lines.specs.pz_run_reading.declared.refusal.Refusal.{Refusal}
use Rattle.pz_run_lines.specs.pz_run_reading.Openings.{IsOpenModelOf, IsRefusedToOpen}
use Rattle.pz_run_lines.specs.Lines.{read_fault_line}
use Rattle.pz_debug.specs.Limits.{model_limit}
use Rattle.pz_debug.specs.Asked.{Asked}
use Rattle.pz_debug.specs.Files.{JobFile, files_of}
use Rattle.pz_debug.specs.Output.{Prints}
use Rattle.pz_debug.specs.declared.status.DebugStatus.{DebugStatus}
use Rattle.pz_debug.specs.declared.status.DebugStatus.TheVariants.{Done, Usage, ModelRefused, TooLong, ReadFault, WriteFault, NoMemory}

-- The call came through: no write failed, memory was not wanting, and the files did not fail.
pub record CameThrough (before now : FilesState) (status : DebugStatus) : Type 0 where
  pub written : status ≢ WriteFault
  pub ample : status ≢ NoMemory
  pub read : ¬ ((status ≡ ReadFault) × Rose before.faults now.faults)

-- the status is the one that goes with what is to be printed, which a sink that tells has taken since
pub record PrintsAll (a : Option Asked) (held : Entries) (before now : SinkState) (status : DebugStatus) : Type 0 where
  pub bytes : List ℕ
  pub prints : Prints held a bytes status
  pub taken : before.told ≡ true → TookAll before now bytes

-- the bytes taken since are a front of what is to be printed
pub record PrintsSome (a : Option Asked) (held : Entries) (before now : SinkState) : Type 0 where
  pub bytes : List ℕ
  pub status : DebugStatus
  pub prints : Prints held a bytes status
  pub front : TookFront before now bytes

-- a count that was raised so often
abbrev pub raised_by : ℕ → ℕ → ℕ
raised_by zero count = count
raised_by (suc n) count = raised_by n (raised count)

-- the names of the first so many files
abbrev pub first_names : ℕ → List JobFile → List (List ℕ)
first_names zero files = []
first_names (suc count) [] = []
first_names (suc count) (file ∷ files) = file.name ∷ first_names count files

-- The first so many of these files were opened, in their order, each once, and no other file.
pub record Opens (files : List JobFile) (count : ℕ) (before now : FilesState) : Type 0 where
  pub names : now.opened ≡ before.opened ++ first_names count files
  pub counted : now.opens ≡ raised_by count before.opens

-- So it is of the files of a session, and the first was opened for certain unless memory was wanting before.
-- Without a file nothing was opened.
pub record OpensFiles (files : List JobFile) (before now : FilesState) (status : DebugStatus) : Type 0 where
  pub count : ℕ
  pub within : count ≤ length files
  pub first : status ≢ NoMemory → 0 < length files → 0 < count
  pub opens : Opens files count before now

-- this file is the last that was opened
pub record OpensLast (files : List JobFile) (before now : FilesState) (file : JobFile) : Type 0 where
  pub place : ℕ
  pub is : slice_get files place ≡ Some file
  pub opens : Opens files (suc place) before now

-- The files failed: in their last call, so that nothing more was asked of them, and the status says it,
-- unless a write failed or memory was wanting.
pub record EndsReading (before now : FilesState) (status : DebugStatus) : Type 0 where
  pub last : FilesFailedLast before now
  pub said : status ≢ WriteFault → status ≢ NoMemory → status ≡ ReadFault

-- Of a call that wrote: no write failed; or one did, in the last call of the sink, so that nothing was
-- written after it.
pub record EndsWriting (before now : SinkState) (status : DebugStatus) : Type 0 where
  pub kept : status ≢ WriteFault → now.faults ≡ before.faults
  pub last : status ≡ WriteFault → SinkFailedLast before now

-- the bytes taken since are the line of a read fault, which names the last file that was opened
pub record SaysFault (files : List JobFile) (f g : FilesState) (before now : SinkState) : Type 0 where
  pub file : JobFile
  pub last : OpensLast files f g file
  pub taken : before.told ≡ true → TookAll before now (read_fault_line file.name)

-- the same of a front of that line
pub record SaysFaultFront (files : List JobFile) (f g : FilesState) (before now : SinkState) : Type 0 where
  pub file : JobFile
  pub last : OpensLast files f g file
  pub front : TookFront before now (read_fault_line file.name)

-- nothing was taken yet, or a front of what is to be printed, or a front of the line of a read fault where
-- the count of the files rose
abbrev pub PrintsFront : Option Asked → FilesState → FilesState → SinkState → SinkState → Type 0
PrintsFront a f g before now =
    (now.taken ≡ before.taken)
    ⊎ (PrintsSome a f.held before now
    ⊎ (Rose f.faults g.faults × SaysFaultFront (files_of a) f g before now))

-- more bytes of the last file that was opened were handed out than its limit
abbrev pub IsPastLimit : List JobFile → FilesState → FilesState → Type 0
IsPastLimit files f g = (file : JobFile) × OpensLast files f g file × (file.limit < g.handed)

-- the files lack one that the session reads
abbrev pub Lacks : List JobFile → Entries → Type 0
Lacks files held = (file : JobFile) × Contains files file × (lookup held file.name ≡ None)

-- one that the session reads is longer than its limit
abbrev pub IsLonger : List JobFile → Entries → Type 0
IsLonger files held = (file : JobFile) × Contains files file × Exceeds (lookup held file.name) file.limit

-- the text of the model: that of its file, within the limit
pub record HasText (a : Option Asked) (held : Entries) (text : List ℕ) : Type 0 where
  pub asked : Asked
  pub is_asked : a ≡ Some asked
  pub is_held : lookup held asked.model ≡ Some text
  pub short : length text ≤ model_limit

-- it is refused
pub record IsNoModel (a : Option Asked) (held : Entries) : Type 0 where
  pub text : List ℕ
  pub is_text : HasText a held text
  pub refusal : Refusal
  pub is_refused : IsRefusedToOpen text refusal

-- it is that of this model, which violates no rule
pub record HasModelText (a : Option Asked) (held : Entries) : Type 0 where
  pub text : List ℕ
  pub is_text : HasText a held text
  pub model : ModelTree
  pub is_model : IsOpenModelOf text model

-- how a call can end, whatever the files and the sink do
pub data CanEnd : Option Asked → DebugStatus → Type 0 where
  usage : CanEnd None Usage
  done : (a : Asked) → CanEnd (Some a) Done
  model_refused : (a : Asked) → CanEnd (Some a) ModelRefused
  too_long : (a : Asked) → CanEnd (Some a) TooLong
  read_fault : (a : Asked) → CanEnd (Some a) ReadFault
  write_fault : (a : Option Asked) → CanEnd a WriteFault
  no_memory : (a : Option Asked) → CanEnd a NoMemory
