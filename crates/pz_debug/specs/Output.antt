-- What the program prints for the words and the files, and how it ends: first the model's size, then whether
-- it is refused, then the size of the file of commands, then the session.
use Rattle.std.specs.Prelude.{◌<◌, ◌≤◌, ℕ, List, length, Option, Some, None}
use Rattle.pz_io.specs.Outside.{Entries, lookup}
use Rattle.pz_bind.specs.pz_syntax.Classes.{ModelTree}
use Rattle.pz_term_processes.specs.pz_rules.Settings.{Setting}
use Rattle.pz_run_lines.specs.pz_run_reading.declared.refusal.Refusal.{Refusal}
use Rattle.pz_run_lines.specs.pz_run_reading.Openings.{IsOpenModelOf, IsRefusedToOpen}
use Rattle.pz_run_lines.specs.Lines.{read_fault_line, too_long_line, model_refused_line}
use Rattle.pz_debug_replies.specs.Sessions.{IsSessionText}
use Rattle.pz_debug.specs.Limits.{session_limits}
use Rattle.pz_debug.specs.Asked.{Asked, usage_line}
use Rattle.pz_debug.specs.Files.{JobFile, model_file, command_file}
use Rattle.pz_debug.specs.declared.status.DebugStatus.{DebugStatus}
use Rattle.pz_debug.specs.declared.status.DebugStatus.TheVariants.{Done, Usage, ModelRefused, TooLong, ReadFault}

-- what a session on this model stands on
abbrev pub setting_for : ModelTree → Setting
setting_for m = record { model = m; limits = session_limits }

-- the replies to the commands of a file
pub data PrintsSession (m : ModelTree) (commands : List ℕ) : List ℕ → DebugStatus → Type 0 where
  replies : (text : List ℕ) → IsSessionText (setting_for m) commands text → PrintsSession m commands text Done

-- of a text: why it is refused, or what this is of its model, which opens
pub data PrintsModel (P : ModelTree → List ℕ → DebugStatus → Type 0) (text : List ℕ) : List ℕ → DebugStatus → Type 0 where
  refuses : (r : Refusal) → IsRefusedToOpen text r → PrintsModel P text (model_refused_line r) ModelRefused
  of_model : (m : ModelTree) (bytes : List ℕ) (status : DebugStatus) → IsOpenModelOf text m → P m bytes status → PrintsModel P text bytes status

-- of a file: that it is lacked or too long, or what this is of its text
pub data PrintsFile (file : JobFile) (P : List ℕ → List ℕ → DebugStatus → Type 0) : Option (List ℕ) → List ℕ → DebugStatus → Type 0 where
  lacks : PrintsFile file P None (read_fault_line file.name) ReadFault
  too_long : (text : List ℕ) → file.limit < length text → PrintsFile file P (Some text) (too_long_line file.name) TooLong
  reads : (text bytes : List ℕ) (status : DebugStatus) → length text ≤ file.limit → P text bytes status → PrintsFile file P (Some text) bytes status

-- of a model that opens: what is said of the commands in a file
abbrev pub PrintsCommands : Entries → List ℕ → ModelTree → List ℕ → DebugStatus → Type 0
PrintsCommands held name m = PrintsFile (command_file name) (PrintsSession m) (lookup held name)

abbrev pub PrintsAsked : Entries → Asked → List ℕ → DebugStatus → Type 0
PrintsAsked held a = PrintsFile (model_file a.model) (PrintsModel (PrintsCommands held a.commands)) (lookup held a.model)

-- a session, or that none is asked for
pub data Prints (held : Entries) : Option Asked → List ℕ → DebugStatus → Type 0 where
  usage : Prints held None usage_line Usage
  does : (a : Asked) (bytes : List ℕ) (status : DebugStatus) → PrintsAsked held a bytes status → Prints held (Some a) bytes status
