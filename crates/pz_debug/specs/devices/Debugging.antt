-- What was done with the two files of a session.
use Rattle.std.specs.Prelude.{◌≡◌, ◌≤◌, ℕ, List, [], ◌∷◌, ◌++◌, true, length, Some}
use Rattle.pz_io.specs.Outside.{FilesState, SinkState, lookup, raised}
use Rattle.pz_bind.specs.pz_syntax.Classes.{ModelTree}
use Rattle.pz_run_lines.specs.pz_run_reading.declared.read_error.ReadModelError.{ReadModelError}
use Rattle.pz_run_lines.specs.pz_run_reading.declared.read_error.ReadModelError.TheVariants.{NoMemory, Refused}
use Rattle.pz_run_lines.specs.pz_run_reading.declared.refusal.Refusal.{Refusal}
use Rattle.pz_run_lines.specs.pz_run_reading.Openings.{IsOpenModelOf, IsRefusedToOpen}
use Rattle.pz_run_lines.specs.Lines.{model_refused_line}
use Rattle.pz_debug.specs.Files.{JobFile, model_file, command_file}
use Rattle.pz_debug.specs.Output.{PrintsSession}
use Rattle.pz_debug.specs.declared.status.DebugStatus.{DebugStatus}
use Rattle.pz_debug.specs.declared.status.DebugStatus.TheVariants.{ModelRefused}
use Rattle.pz_debug.specs.devices.Saying.{Said, NothingWritten, Answers}
use Rattle.pz_debug.specs.devices.Reading.{ReadsFile}

-- why there is no model was said
abbrev pub SaysRefusal : ReadModelError → SinkState → SinkState → DebugStatus → Type 0
SaysRefusal NoMemory before now given = NothingWritten before now given
SaysRefusal (Refused r) before now given = Said before now (model_refused_line r) ModelRefused given

-- why no model of a text opens
pub data PrintsClosed (text : List ℕ) : List ℕ → DebugStatus → Type 0 where
  closed : (r : Refusal) → IsRefusedToOpen text r → PrintsClosed text (model_refused_line r) ModelRefused

-- the text is that of a model that opens, and is not refused
pub record IsOnlyOpen (text : List ℕ) (m : ModelTree) : Type 0 where
  pub is_model : IsOpenModelOf text m
  pub unrefused : (r : Refusal) → IsRefusedToOpen text r → ⊥

-- this is the text of the file, which was read to its end
pub record WasRead (file : JobFile) (text : List ℕ) (f g : FilesState) : Type 0 where
  pub opened : g.opens ≡ raised f.opens
  pub names : g.opened ≡ f.opened ++ (file.name ∷ [])
  pub told : g.told ≡ f.told
  pub held : g.held ≡ f.held
  pub faults : g.faults ≡ f.faults
  pub short : length text ≤ file.limit
  pub content : f.told ≡ true → lookup f.held file.name ≡ Some text

module _ (name : List ℕ) (f g : FilesState) (before now : SinkState) (given : DebugStatus) where
  -- once the model's text was read: why no model of it opens was said, or the commands were read
  pub data DebugsText (text : List ℕ) : Type 0 where
    refuses : g ≡ f → Answers (PrintsClosed text) before now given → DebugsText text
    goes_on : (m : ModelTree) → IsOnlyOpen text m → ReadsFile (command_file name) (PrintsSession m) f g before now given → DebugsText text

-- from the model's file on
pub data DebugsFiles (model name : List ℕ) (f g : FilesState) (before now : SinkState) (given : DebugStatus) : Type 0 where
  no_model : ReadsFile (model_file model) PrintsClosed f g before now given → DebugsFiles model name f g before now given
  reads_on : (mid : FilesState) (text : List ℕ) (m : ModelTree) → WasRead (model_file model) text f mid → IsOnlyOpen text m
      → ReadsFile (command_file name) (PrintsSession m) mid g before now given → DebugsFiles model name f g before now given
