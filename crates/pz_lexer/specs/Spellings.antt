-- Tables of spellings.
use Rattle.std.specs.Prelude.{ℕ, List, [], ◌∷◌, Option, None, Some, if◌then◌else◌, bytes_eq}
use Rattle.std.specs.Borrow.{Bor}

-- what a text spells by a table of spellings
abbrev pub spelled : {X : Type 0} → List (List ℕ × X) → List ℕ → Option X
spelled [] text = None
spelled (entry ∷ table) text = if bytes_eq entry.0 text then Some entry.1 else spelled table text

-- an entry of a table of the code
abbrev pub entry_of : {X : Type 0} → Bor (List ℕ) × X → List ℕ × X
entry_of e = (e.0.now, e.1)
