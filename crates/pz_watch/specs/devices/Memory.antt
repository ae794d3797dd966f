-- What is kept of the points so far, operator by operator, and how it goes on with the next point.
use Rattle.std.specs.Prelude.{ℕ, zero, suc, Bool, false, ◌&&◌, ◌||◌, not, List, length, Option, Some, None, if◌then◌else◌}
use Rattle.pz_watch.specs.declared.atoms.Atom.{Atom}
use Rattle.pz_watch.specs.Points.{Point, clock_at}
use Rattle.pz_watch.specs.Formulas.{Bound, Formula, line, negation, both, either, before, once, always, since, says, is_near, holds}

pub data Memory : Type 0 where
  at_line : Atom → Memory
  at_negation : Memory → Memory
  at_both : Memory → Memory → Memory
  at_either : Memory → Memory → Memory
  at_before : Bool → Memory → Memory
  at_once : Bound → Option ℕ → Memory → Memory
  at_always : Bound → Option ℕ → Memory → Memory
  at_since : Bound → Option ℕ → Memory → Memory → Memory

-- the latest clock that counts is near enough
abbrev pub is_within : Bound → ℕ → Option ℕ → Bool
is_within b now None = false
is_within b now (Some latest) = is_near b now latest

abbrev pub marked : Bool → ℕ → Option ℕ → Option ℕ
marked counts now latest = if counts then Some now else latest

abbrev pub renewed : Bool → Bool → ℕ → Option ℕ → Option ℕ
renewed kept met now latest = if met then Some now else (if kept then latest else None)

-- what is answered at the next point
abbrev pub told : Memory → Point → Bool
told (at_line atom) x = says atom x.event
told (at_negation m) x = not (told m x)
told (at_both m n) x = told m x && told n x
told (at_either m n) x = told m x || told n x
told (at_before was m) x = was
told (at_once b latest m) x = is_within b x.clock (marked (told m x) x.clock latest)
told (at_always b latest m) x = not (is_within b x.clock (marked (not (told m x)) x.clock latest))
told (at_since b latest m n) x = is_within b x.clock (renewed (told m x) (told n x) x.clock latest)

-- what is kept from then on
abbrev pub later : Memory → Point → Memory
later (at_line atom) x = at_line atom
later (at_negation m) x = at_negation (later m x)
later (at_both m n) x = at_both (later m x) (later n x)
later (at_either m n) x = at_either (later m x) (later n x)
later (at_before was m) x = at_before (told m x) (later m x)
later (at_once b latest m) x = at_once b (marked (told m x) x.clock latest) (later m x)
later (at_always b latest m) x = at_always b (marked (not (told m x)) x.clock latest) (later m x)
later (at_since b latest m n) x = at_since b (renewed (told m x) (told n x) x.clock latest) (later m x) (later n x)

-- the latest clock among the first n points at which p is true
abbrev pub latest_of : (ℕ → Bool) → List Point → ℕ → Option ℕ
latest_of p ps zero = None
latest_of p ps (suc n) = marked (p n) (clock_at ps n) (latest_of p ps n)

-- the latest clock among the first n points at which g is true and behind which f is true up to the last
abbrev pub latest_since : (ℕ → Bool) → (ℕ → Bool) → List Point → ℕ → Option ℕ
latest_since f g ps zero = None
latest_since f g ps (suc n) = renewed (f n) (g n) (clock_at ps n) (latest_since f g ps n)

-- whether p is true at the last of the first n points
abbrev pub at_last : (ℕ → Bool) → ℕ → Bool
at_last p zero = false
at_last p (suc n) = p n

-- what is kept of a formula behind these points
abbrev pub behind : Formula → List Point → Memory
behind (line atom) ps = at_line atom
behind (negation f) ps = at_negation (behind f ps)
behind (both f g) ps = at_both (behind f ps) (behind g ps)
behind (either f g) ps = at_either (behind f ps) (behind g ps)
behind (before f) ps = at_before (at_last (holds f ps) (length ps)) (behind f ps)
behind (once b f) ps = at_once b (latest_of (holds f ps) ps (length ps)) (behind f ps)
behind (always b f) ps = at_always b (latest_of (λ i. not (holds f ps i)) ps (length ps)) (behind f ps)
behind (since b f g) ps =
    at_since b (latest_since (holds f ps) (holds g ps) ps (length ps)) (behind f ps) (behind g ps)
