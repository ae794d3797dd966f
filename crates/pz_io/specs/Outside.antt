-- What files and a sink are at some moment, and counts that stand still at their end.
use Rattle.std.specs.Prelude.{◌≡◌, ◌⊎◌, ◌<◌, ◌≤◌, ◌+◌, ◌-◌, ◌^◌, min, if◌then◌else◌, Bool, true, false, ℕ, List, [], ◌∷◌, length, Option, Some, None}
use Rattle.std.specs.Str.{bytes_eq}

-- the names of the files, each with the bytes of its file
abbrev pub Entries : Type 0
Entries = List (List ℕ × List ℕ)

-- the bytes of the named file: where two entries have one name, the first counts
abbrev pub lookup : Entries → List ℕ → Option (List ℕ)
lookup [] name = None
lookup (entry ∷ entries) name = if bytes_eq entry.0 name then Some entry.1 else lookup entries name

-- there is a file, and it has more bytes than this
abbrev pub Exceeds : Option (List ℕ) → ℕ → Type 0
Exceeds file limit = (bytes : List ℕ) × (file ≡ Some bytes) × (limit < length bytes)

-- named files, of which at most one is open
pub record FilesState : Type 0 where
  -- whether they tell what they hold: the next two mean something only then
  pub told : Bool
  -- the names and the bytes of the files
  pub held : Entries
  -- what is left of the open file; nothing where none is open
  pub rest : List ℕ
  -- how many faults there were
  pub faults : ℕ
  -- how many calls of `open` there were
  pub opens : ℕ
  -- the names that these were given, in their order
  pub opened : List (List ℕ)
  -- how many bytes were handed out since the last `open`
  pub handed : ℕ
  -- whether the last call was a `read` that answered `End`
  pub ended : Bool
  -- whether the last call was one that failed
  pub failed : Bool

-- what takes bytes
pub record SinkState : Type 0 where
  -- whether it tells what it took: the next one means something only then
  pub told : Bool
  -- the bytes taken so far
  pub taken : List ℕ
  -- how many faults there were
  pub faults : ℕ
  -- whether the last call was one that failed
  pub failed : Bool

-- files of which nothing was asked yet
abbrev pub new_files : Bool → Entries → FilesState
new_files told held = record {
  told = told;
  held = held;
  rest = [];
  faults = 0;
  opens = 0;
  opened = [];
  handed = 0;
  ended = false;
  failed = false;
}

-- a sink that was given nothing yet
abbrev pub new_sink : Bool → SinkState
new_sink told = record { told = told; taken = []; faults = 0; failed = false }

-- one more, but a count that is kept in a u64 stands still at its end
abbrev pub raised : ℕ → ℕ
raised count = min (count + 1) (2 ^ 64 - 1)

-- one more where it happened, else the same
abbrev pub raised_if : Bool → ℕ → ℕ
raised_if happened count = if happened then raised count else count

-- the count is higher now, or stands at its end, where it is taken as having risen
abbrev pub Rose : ℕ → ℕ → Type 0
Rose before now = (before < now) ⊎ (2 ^ 64 - 1 ≤ now)

-- told files lack the name
abbrev pub LacksName : FilesState → List ℕ → Type 0
LacksName files name = (files.told ≡ true) × (lookup files.held name ≡ None)

-- the files failed, once since before and in their last call
abbrev pub FilesFailedLast : FilesState → FilesState → Type 0
FilesFailedLast before now = (now.faults ≡ raised before.faults) × (now.failed ≡ true)

-- the sink failed, once since before and in its last call
abbrev pub SinkFailedLast : SinkState → SinkState → Type 0
SinkFailedLast before now = (now.faults ≡ raised before.faults) × (now.failed ≡ true)
