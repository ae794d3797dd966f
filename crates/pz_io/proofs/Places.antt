-- The place of a named entry, and what is left of the entry at a place.
use Rattle.std.proofs.Common.{◌≡◌, ◌<◌, ℕ, zero, suc, ◌+◌, List, [], ◌∷◌, Option, Some, None, true, false, length, get_or, drop, subst, arith, string_bytes}
use Rattle.std.proofs.lemmas.Grind.{common_steps}
use Rattle.std.specs.List.{slice_get}
use Rattle.std.specs.Str.{bytes_eq}
use Rattle.pz_io.specs.Outside.{lookup}
use Rattle.pz_io.specs.Entries.{Entry, entries_of, rest_of, rest_in}
use Rattle.pz_io.specs.devices.Places.{entry_bytes}

-- An entry that has the name is the one that is found from its place on.
pub lookup-drop-found : (entries : List Entry) (i : ℕ) (entry : Entry) (name : List ℕ) → i < length entries → entry ≡ get_or entries i entry → bytes_eq (string_bytes entry.0) name ≡ true → lookup (entries_of (drop i entries)) name ≡ entry_bytes entries (Some i)
lookup-drop-found [] i entry name in_range is has_name = absurd (omega arith)
lookup-drop-found (first ∷ entries) zero entry name in_range is has_name =
    let here : bytes_eq (string_bytes first.0) name ≡ true = subst (λ (e : Entry). bytes_eq (string_bytes e.0) name ≡ true) is has_name in
    rw here
lookup-drop-found (first ∷ entries) (suc i) entry name in_range is has_name = lookup-drop-found entries i entry name (omega arith) is has_name

-- An entry that has another name is passed over.
pub lookup-drop-passed : (entries : List Entry) (i : ℕ) (entry : Entry) (name : List ℕ) → i < length entries → entry ≡ get_or entries i entry → bytes_eq (string_bytes entry.0) name ≡ false → lookup (entries_of (drop i entries)) name ≡ lookup (entries_of (drop (suc i) entries)) name
lookup-drop-passed [] i entry name in_range is other_name = absurd (omega arith)
lookup-drop-passed (first ∷ entries) zero entry name in_range is other_name =
    let here : bytes_eq (string_bytes first.0) name ≡ false = subst (λ (e : Entry). bytes_eq (string_bytes e.0) name ≡ false) is other_name in
    rw here
lookup-drop-passed (first ∷ entries) (suc i) entry name in_range is other_name = lookup-drop-passed entries i entry name (omega arith) is other_name

rest_in-add : (entry : Option Entry) (handed n : ℕ) → rest_in entry (handed + n) ≡ drop n (rest_in entry handed)
rest_in-add None handed n = grind (arith, common_steps)
rest_in-add (Some entry) handed n = grind (arith, common_steps)

-- Handing out n more bytes drops them from what is left.
pub rest_of-add : (entries : List Entry) (current : Option ℕ) (handed n : ℕ) → rest_of entries current (handed + n) ≡ drop n (rest_of entries current handed)
rest_of-add entries None handed n = grind (arith, common_steps)
rest_of-add entries (Some i) handed n = rest_in-add (slice_get entries i) handed n
