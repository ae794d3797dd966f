-- Tables of the code.
use Rattle.std.specs.Prelude.{ℕ, List}
use Rattle.std.specs.Borrow.{Bor}

-- a row of a table of the code
abbrev pub entry_of : {A : Type 0} → Bor (List ℕ) × A → List ℕ × A
entry_of e = (e.0.now, e.1)
