-- What a `State` is seen as: the state that it holds, and its open marks.
use Rattle.std.specs.Prelude.{◌≡◌, ℕ, List, [], ◌∷◌, Option, Some, None}
use Rattle.pz_state.specs.States.{StateView}

-- the state, and for each open mark its point and the state that was marked, the latest first
pub record Seen : Type 0 where
  pub held : StateView
  pub marks : List (ℕ × StateView)

abbrev pub point_of_first : List (ℕ × StateView) → Option ℕ
point_of_first [] = None
point_of_first (m ∷ ms) = Some m.0

-- the latest open mark has this point
abbrev pub IsLatest : Seen → ℕ → Type 0
IsLatest s point = point_of_first s.marks ≡ Some point

-- the state is this one now, and the marks are as they were
abbrev pub changed : Seen → StateView → Seen
changed s new = record { held = new; marks = s.marks }

-- one more mark, at the state as it is
abbrev pub marked : Seen → ℕ → Seen
marked s point = record { held = s.held; marks = (point, s.held) ∷ s.marks }

-- the state is that of the latest mark, which is open no more
abbrev pub undone_from : List (ℕ × StateView) → Seen → Seen
undone_from [] s = s
undone_from (m ∷ older) s = record { held = m.1; marks = older }

abbrev pub undone : Seen → Seen
undone s = undone_from s.marks s

-- the state stays, and the latest mark is open no more
abbrev pub older : List (ℕ × StateView) → List (ℕ × StateView)
older [] = []
older (m ∷ ms) = ms

abbrev pub kept : Seen → Seen
kept s = record { held = s.held; marks = older s.marks }
