-- What an environment does next. It does the entries of its script one after the other: it waits as
-- long as an entry says, and then it offers what the entry says, for as long as it takes.
use Rattle.std.specs.Prelude.{ℕ, suc, ◌-◌, unsigned_abs, List, [], ◌∷◌}
use Rattle.pz_trace.specs.pz_syntax.declared.tokens.Pos.{Pos}
use Rattle.pz_env_script.specs.declared.entry.Entry.{Entry}

-- an entry with the number of its line, from 1
pub record Line : Type 0 where
  pub number : ℕ
  pub entry : Entry

-- the lines of these entries, of which the first has number n
abbrev pub lines_from : ℕ → List Entry → List Line
lines_from n [] = []
lines_from n (e ∷ es) = record { number = n; entry = e } ∷ lines_from (suc n) es

abbrev pub lines_of : List Entry → List Line
lines_of script = lines_from 1 script

-- the place of what a line does: its number, and column 1
abbrev pub at_line : Line → Pos
at_line x = record { line = x.number; column = 1 }

pub data Doing : Type 0 where
  -- it has done all of them
  over : Doing
  -- so much is left of the wait of this line; behind it come these
  waits : (left : ℕ) → Line → List Line → Doing
  -- it offers what this line says; behind it come these
  offers : Line → List Line → Doing

-- how long an entry waits; a wait is 0 or more
abbrev pub wait_of : Entry → ℕ
wait_of e = unsigned_abs e.wait

-- what it does where these lines are left
abbrev pub begins : List Line → Doing
begins [] = over
begins (x ∷ xs) = waits (wait_of x.entry) x xs

-- so much time has passed
abbrev pub later : ℕ → Doing → Doing
later d over = over
later d (waits left x xs) = waits (left - d) x xs
later d (offers x xs) = offers x xs

-- Where it stands: what it does, and how many objects it has received. Of what it receives nothing
-- else is kept.
pub record Environment : Type 0 where
  pub doing : Doing
  pub objects : ℕ
