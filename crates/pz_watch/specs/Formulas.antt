-- Formulas over the points of a run, and what each means at a point.
use Rattle.std.specs.Prelude.{ℕ, zero, suc, ◌-◌, Bool, true, false, ◌&&◌, ◌||◌, not, nat_le, List, Option, Some, None, slice_get}
use Rattle.std.specs.Str.{bytes_eq}
use Rattle.pz_watch.specs.declared.atoms.Atom.{Atom}
use Rattle.pz_watch.specs.declared.atoms.Atom.TheVariants.{Message, From, To, Kind, At, Pass}
use Rattle.pz_watch.specs.Points.{Happening, passing, internal, communication, Point, clock_at}

-- how far back an operator looks: so many clock units, or without a bound
abbrev pub Bound : Type 0
Bound = Option ℕ

pub data Formula : Type 0 where
  line : Atom → Formula
  negation : Formula → Formula
  both : Formula → Formula → Formula
  either : Formula → Formula → Formula
  before : Formula → Formula
  once : Bound → Formula → Formula
  always : Bound → Formula → Formula
  since : Bound → Formula → Formula → Formula

-- what is said of a line; of a line of another sort it is false
abbrev pub says : Atom → Happening → Bool
says (Message name) (communication message from to) = bytes_eq name message
says (From path) (communication message from to) = bytes_eq path from
says (To path) (communication message from to) = bytes_eq path to
says (Kind word) (internal path kind) = bytes_eq word kind
says (At word) (internal path kind) = bytes_eq word path
says Pass passing = true
says atom event = false

abbrev pub says_at : Atom → Option Point → Bool
says_at atom None = false
says_at atom (Some point) = says atom point.event

-- at one of the points 0 to i
abbrev pub at_some : ℕ → (ℕ → Bool) → Bool
at_some zero p = p zero
at_some (suc i) p = p (suc i) || at_some i p

-- at each of the points 0 to i
abbrev pub at_each : ℕ → (ℕ → Bool) → Bool
at_each zero p = p zero
at_each (suc i) p = p (suc i) && at_each i p

-- the clock `then` is no further back from `now` than the bound
abbrev pub is_near : Bound → ℕ → ℕ → Bool
is_near None now then = true
is_near (Some bound) now then = nat_le (now - then) bound

-- the formula holds at point i
abbrev pub holds : Formula → List Point → ℕ → Bool
holds (line atom) ps i = says_at atom (slice_get ps i)
holds (negation f) ps i = not (holds f ps i)
holds (both f g) ps i = holds f ps i && holds g ps i
holds (either f g) ps i = holds f ps i || holds g ps i
holds (before f) ps zero = false
holds (before f) ps (suc i) = holds f ps i
holds (once b f) ps i = at_some i (λ j. is_near b (clock_at ps i) (clock_at ps j) && holds f ps j)
holds (always b f) ps i = at_each i (λ j. not (is_near b (clock_at ps i) (clock_at ps j)) || holds f ps j)
holds (since b f g) ps i =
    at_some
    i
    (λ j. is_near b (clock_at ps i) (clock_at ps j) && (holds g ps j && at_each i (λ k. nat_le k j || holds f ps k)))
