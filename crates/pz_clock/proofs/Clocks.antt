-- How local clocks go.
use Rattle.std.proofs.Common.{◌≡◌, ◌↔◌, ◌≤◌, ◌+◌, ◌-◌, ℕ, true, false, Option, Some, None, refl, arith}
use Rattle.pz_clock.specs.Shifts.{running_since, local_since, due_since, FitsSince, ReachedSince}
use Rattle.pz_clock.specs.Laws.{StandsStill, RisesAlike, MeetsItsDue, FitsOnward, FitsAreReached}

stands : (behind : ℕ) (since : Option ℕ) (c d : ℕ) → running_since since ≡ false → local_since behind since d ≡ local_since behind since c
stands behind None c d e = absurd cc
stands behind (Some since) c d e = refl

rises : (behind : ℕ) (since : Option ℕ) (c by : ℕ) → running_since since ≡ true → FitsSince behind since c → local_since behind since (c + by) ≡ local_since behind since c + by
rises behind None c by e fits = omega (arith, fits)
rises behind (Some since) c by e fits = absurd cc

meets : (behind : ℕ) (since : Option ℕ) (c due outer : ℕ) → FitsSince behind since c → due_since behind since due ≡ Some outer → (local_since behind since c ≡ due) ↔ (c ≡ outer)
meets behind None c due outer fits e = (let f : due + behind ≡ outer = cc in (λ p. omega (arith, fits, f, p), λ p. omega (arith, fits, f, p)))
meets behind (Some since) c due outer fits e = absurd cc

onward : (behind : ℕ) (since : Option ℕ) (c by : ℕ) → FitsSince behind since c → FitsSince behind since (c + by)
onward behind None c by fits = omega (arith, fits)
onward behind (Some since) c by fits = (fits.0, omega (arith, fits.1))

reached : (behind : ℕ) (since : Option ℕ) (c : ℕ) → FitsSince behind since c → ReachedSince behind since c
reached behind None c fits = fits
reached behind (Some since) c fits = fits.1

pub stands_still : StandsStill
stands_still s = stands s.behind s.since

pub rises_alike : RisesAlike
rises_alike s = rises s.behind s.since

pub meets_its_due : MeetsItsDue
meets_its_due s = meets s.behind s.since

pub fits_onward : FitsOnward
fits_onward s = onward s.behind s.since

pub fits_are_reached : FitsAreReached
fits_are_reached s = reached s.behind s.since
