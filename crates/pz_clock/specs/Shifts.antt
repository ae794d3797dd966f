-- Local clocks: how far one is behind the clock around it, and since which moment of that clock it stands
-- still, if it does.
use Rattle.std.specs.Prelude.{◌≤◌, ◌+◌, ◌-◌, ℕ, Bool, true, false, Option, Some, None}

pub record ShiftView : Type 0 where
  pub behind : ℕ
  pub since : Option ℕ

-- it runs, and is not behind
abbrev pub new_shift : ShiftView
new_shift = record { behind = 0; since = None }

abbrev pub running_since : Option ℕ → Bool
running_since None = true
running_since (Some since) = false

abbrev pub is_running : ShiftView → Bool
is_running s = running_since s.since

-- what it shows, where the clock around it shows `outer`
abbrev pub local_since : ℕ → Option ℕ → ℕ → ℕ
local_since behind None outer = outer - behind
local_since behind (Some since) outer = since - behind

abbrev pub local : ShiftView → ℕ → ℕ
local s outer = local_since s.behind s.since outer

-- when it shows this, by the clock around it: never, while it stands still
abbrev pub due_since : ℕ → Option ℕ → ℕ → Option ℕ
due_since behind None due = Some (due + behind)
due_since behind (Some since) due = None

abbrev pub due_in : ShiftView → ℕ → Option ℕ
due_in s due = due_since s.behind s.since due

-- it stands still from `outer` on, if it did not before
abbrev pub stood_since : Option ℕ → ℕ → ℕ
stood_since None outer = outer
stood_since (Some since) outer = since

abbrev pub frozen : ShiftView → ℕ → ShiftView
frozen s outer = record { behind = s.behind; since = Some (stood_since s.since outer) }

-- it runs from `outer` on, and is behind by as much more as it stood still
abbrev pub behind_since : ℕ → Option ℕ → ℕ → ℕ
behind_since behind None outer = behind
behind_since behind (Some since) outer = behind + (outer - since)

abbrev pub thawed : ShiftView → ℕ → ShiftView
thawed s outer = record { behind = behind_since s.behind s.since outer; since = None }

-- where it stands still, it is not behind by more than it shows
abbrev pub KeptSince : ℕ → Option ℕ → Type 0
KeptSince behind None = Unit {0}
KeptSince behind (Some since) = behind ≤ since

-- the clock around it has come so far: where it stands still, to the moment since which it does
abbrev pub ReachedSince : ℕ → Option ℕ → ℕ → Type 0
ReachedSince behind None outer = behind ≤ outer
ReachedSince behind (Some since) outer = since ≤ outer

abbrev pub IsReached : ShiftView → ℕ → Type 0
IsReached s outer = ReachedSince s.behind s.since outer

-- both
abbrev pub FitsSince : ℕ → Option ℕ → ℕ → Type 0
FitsSince behind None outer = behind ≤ outer
FitsSince behind (Some since) outer = (behind ≤ since) × (since ≤ outer)

abbrev pub ShiftFits : ShiftView → ℕ → Type 0
ShiftFits s outer = FitsSince s.behind s.since outer
