-- Laws of local clocks.
use Rattle.std.specs.Prelude.{◌≡◌, ◌↔◌, ◌+◌, ℕ, true, false, Some}
use Rattle.pz_clock.specs.Shifts.{ShiftView, is_running, local, due_in, IsReached, ShiftFits}

abbrev pub StandsStill : Type 0
StandsStill = (s : ShiftView) (c d : ℕ) → is_running s ≡ false → local s d ≡ local s c

abbrev pub RisesAlike : Type 0
RisesAlike =
    (s : ShiftView) (c by : ℕ)
    → is_running s ≡ true
    → ShiftFits s c
    → local s (c + by) ≡ local s c + by

-- it shows a moment exactly when the clock around it shows what is due for that moment
abbrev pub MeetsItsDue : Type 0
MeetsItsDue =
    (s : ShiftView) (c due outer : ℕ)
    → ShiftFits s c
    → due_in s due ≡ Some outer
    → (local s c ≡ due) ↔ (c ≡ outer)

abbrev pub FitsOnward : Type 0
FitsOnward = (s : ShiftView) (c by : ℕ) → ShiftFits s c → ShiftFits s (c + by)

abbrev pub FitsAreReached : Type 0
FitsAreReached = (s : ShiftView) (c : ℕ) → ShiftFits s c → IsReached s c
