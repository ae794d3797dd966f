-- Rows of local clocks, worked out.
use Rattle.std.proofs.Common.{◌≡◌, true, false, Some, None, refl}
use Rattle.pz_clock.specs.Shifts.{ShiftView, new_shift, is_running, local, due_in, frozen, thawed}

-- it stands still from 4 to 11
abbrev stood : ShiftView
stood = thawed (frozen new_shift 4) 11

shows : local stood 11 ≡ 4
shows = refl

due : due_in stood 10 ≡ Some 17
due = refl

-- while it stands still, it shows 4, and nothing is ever due
still_shows : local (frozen new_shift 4) 9 ≡ 4
still_shows = refl

never_due : due_in (frozen new_shift 4) 10 ≡ None
never_due = refl

-- once more, from 15 to 20: 5 shown by then, and 12 behind
stood_again : thawed (frozen stood 15) 20 ≡ record { behind = 12; since = None }
stood_again = refl

shows_again : local (thawed (frozen stood 15) 20) 20 ≡ 8
shows_again = refl

-- one that stands still, or runs, stays as it is
frozen_twice : frozen (frozen new_shift 4) 9 ≡ frozen new_shift 4
frozen_twice = refl

thawed_twice : thawed stood 30 ≡ stood
thawed_twice = refl
