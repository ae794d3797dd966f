-- Clocks that run from now on or stand still show the same.
use Rattle.std.proofs.Common.{◌≡◌, ◌≤◌, ◌-◌, ℕ, Option, Some, None, refl, arith}
use Rattle.pz_clock.specs.Shifts.{ShiftView, is_running, local, local_since, behind_since, stood_since, frozen, FitsSince, ShiftFits}

frozen_fits_since : (behind : ℕ) (since : Option ℕ) (c : ℕ) → FitsSince behind since c → FitsSince behind (Some (stood_since since c)) c
frozen_fits_since behind None c h = (h, omega arith)
frozen_fits_since behind (Some since) c h = h

pub frozen_fits : (s : ShiftView) (c : ℕ) → ShiftFits s c → ShiftFits (frozen s c) c
frozen_fits s c h = frozen_fits_since s.behind s.since c h

frozen_since : (behind : ℕ) (since : Option ℕ) (c : ℕ) → local_since behind since c ≡ local_since behind (Some (stood_since since c)) c
frozen_since behind None c = refl
frozen_since behind (Some since) c = refl

pub frozen_local : (s : ShiftView) (c : ℕ) → local s c ≡ local (frozen s c) c
frozen_local s c = frozen_since s.behind s.since c

within_since : (behind : ℕ) (since : Option ℕ) (c : ℕ) → FitsSince behind since c → behind_since behind since c ≤ c
within_since behind None c h = h
within_since behind (Some since) c h = omega (arith, h.0, h.1)

pub thawed_within : (s : ShiftView) (c : ℕ) → ShiftFits s c → behind_since s.behind s.since c ≤ c
thawed_within s c h = within_since s.behind s.since c h

thawed_since : (behind : ℕ) (since : Option ℕ) (c : ℕ) → FitsSince behind since c → local_since behind since c ≡ c - behind_since behind since c
thawed_since behind None c h = refl
thawed_since behind (Some since) c h = omega (arith, h.0, h.1)

pub thawed_local : (s : ShiftView) (c : ℕ) → ShiftFits s c → local s c ≡ c - behind_since s.behind s.since c
thawed_local s c h = thawed_since s.behind s.since c h

local_since_within : (behind : ℕ) (since : Option ℕ) (c : ℕ) → FitsSince behind since c → local_since behind since c ≤ c
local_since_within behind None c h = omega arith
local_since_within behind (Some since) c h = omega (arith, h.0, h.1)

pub local_within : (s : ShiftView) (c : ℕ) → ShiftFits s c → local s c ≤ c
local_within s c h = local_since_within s.behind s.since c h

runs_since : (behind : ℕ) (since : Option ℕ) (c : ℕ) → is_running (record { behind = behind; since = since }) ≡ Rattle.std.proofs.Common.true → behind_since behind since c ≡ behind
runs_since behind None c e = refl
runs_since behind (Some since) c e = absurd cc

pub runs_as : (s : ShiftView) (c : ℕ) → is_running s ≡ Rattle.std.proofs.Common.true → behind_since s.behind s.since c ≡ s.behind
runs_as s c e = runs_since s.behind s.since c e
