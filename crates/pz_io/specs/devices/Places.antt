-- The place of an entry that is looked for.
use Rattle.std.specs.Prelude.{◌≡◌, ℕ, List, Option, Some, None}
use Rattle.std.specs.List.{slice_get}
use Rattle.pz_io.specs.Outside.{lookup}
use Rattle.pz_io.specs.Entries.{Entry, entries_of, rest_in}

-- the bytes of the entry at this place
abbrev pub entry_bytes : List Entry → Option ℕ → Option (List ℕ)
entry_bytes entries None = None
entry_bytes entries (Some i) = Some (rest_in (slice_get entries i) 0)

-- the place is that of the entry whose name this is; there is no place where no entry has it
abbrev pub IsPlaceOf : List Entry → List ℕ → Option ℕ → Type 0
IsPlaceOf entries name place = lookup (entries_of entries) name ≡ entry_bytes entries place
