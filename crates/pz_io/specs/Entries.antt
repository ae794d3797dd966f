-- The entries that files in memory are made of, and what is left of the open one.
use Rattle.std.specs.Prelude.{ℕ, List, [], Option, Some, None, string_bytes, drop, map}
use Rattle.std.specs.List.{slice_get}
use Rattle.std.specs.declared.alloc.Global.{Global}
use Rattle.std.proofs.Common.{Vec, String}
use Rattle.pz_io.specs.Outside.{Entries}

abbrev pub Entry : Type 0
Entry = String Global × Vec ℕ Global

-- the names and bytes that the entries hold
abbrev pub entries_of : List Entry → Entries
entries_of entries = map (λ entry. (string_bytes entry.0, entry.1.items)) entries

-- what is left of an entry after its first bytes
abbrev pub rest_in : Option Entry → ℕ → List ℕ
rest_in None handed = []
rest_in (Some entry) handed = drop handed entry.1.items

-- what is left of the open entry; nothing where none is open
abbrev pub rest_of : List Entry → Option ℕ → ℕ → List ℕ
rest_of entries None handed = []
rest_of entries (Some i) handed = rest_in (slice_get entries i) handed
