-- What was done with a file that a job reads.
use Rattle.std.specs.Prelude.{◌≡◌, ◌⊎◌, ◌<◌, ◌≤◌, ℕ, List, [], ◌∷◌, ◌++◌, true, length, Some}
use Rattle.pz_io.specs.Outside.{FilesState, SinkState, lookup, raised, LacksName, FilesFailedLast, Exceeds}
use Rattle.pz_io.specs.declared.whole.ReadError.{ReadError}
use Rattle.pz_io.specs.declared.whole.ReadError.TheVariants.{NoMemory, Fault, TooLong}
use Rattle.pz_run_lines.specs.Lines.{read_fault_line, too_long_line}
use Rattle.pz_run_output.specs.declared.status.Status.{Status}
use Rattle.pz_run_output.specs.declared.status.Status.TheVariants as status
use Rattle.pz_run_output.specs.Files.{JobFile}
use Rattle.pz_run_output.specs.devices.Saying.{Said, NothingWritten, Answers}

-- why a file was not read was said
abbrev pub SaysUnread : ReadError → List ℕ → SinkState → SinkState → Status → Type 0
SaysUnread NoMemory name before now given = NothingWritten before now given
SaysUnread Fault name before now given = Said before now (read_fault_line name) status.ReadFault given
SaysUnread TooLong name before now given = Said before now (too_long_line name) status.TooLong given

module _ (file : JobFile) (P : List ℕ → List ℕ → Status → Type 0) (f g : FilesState) (before now : SinkState) (given : Status) where
  -- how the reading went, and what was said then; of a text that was read, what is to be printed by P
  pub data FileOutcome : Type 0 where
    wanting : g.faults ≡ f.faults → NothingWritten before now given → FileOutcome
    fault : FilesFailedLast f g ⊎ ((g.faults ≡ f.faults) × LacksName f file.name)
        → Said before now (read_fault_line file.name) status.ReadFault given → FileOutcome
    long : g.faults ≡ f.faults → file.limit < g.handed → (f.told ≡ true → Exceeds (lookup f.held file.name) file.limit)
        → Said before now (too_long_line file.name) status.TooLong given → FileOutcome
    whole : (text : List ℕ) → g.faults ≡ f.faults → length text ≤ file.limit → (f.told ≡ true → lookup f.held file.name ≡ Some text)
        → Answers (P text) before now given → FileOutcome

  pub record ReadsFile : Type 0 where
    pub opened : g.opens ≡ raised f.opens
    pub names : g.opened ≡ f.opened ++ (file.name ∷ [])
    pub outcome : FileOutcome
