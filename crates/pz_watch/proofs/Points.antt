-- A point that is added changes none of those before it.
use Rattle.std.proofs.Common.{◌≡◌, refl, ap, ℕ, zero, suc, ◌<◌, List, [], ◌∷◌, ◌++◌, length, Some, arith}
use Rattle.std.specs.List.{slice_get}
use Rattle.pz_watch.specs.Points.{Point, clock_of, clock_at}

pub get_left : (ps : List Point) (x : Point) (i : ℕ) → i < length ps → slice_get (ps ++ x ∷ []) i ≡ slice_get ps i
get_left [] x i h = absurd (omega arith)
get_left (p ∷ ps) x zero h = refl
get_left (p ∷ ps) x (suc i) h = get_left ps x i (omega arith)

pub get_last : (ps : List Point) (x : Point) → slice_get (ps ++ x ∷ []) (length ps) ≡ Some x
get_last [] x = refl
get_last (p ∷ ps) x = get_last ps x

pub clock_left : (ps : List Point) (x : Point) (i : ℕ) → i < length ps → clock_at (ps ++ x ∷ []) i ≡ clock_at ps i
clock_left ps x i h = ap clock_of (get_left ps x i h)

pub clock_last : (ps : List Point) (x : Point) → clock_at (ps ++ x ∷ []) (length ps) ≡ x.clock
clock_last ps x = ap clock_of (get_last ps x)

pub length_added : (ps : List Point) (x : Point) → length (ps ++ x ∷ []) ≡ suc (length ps)
length_added [] x = refl
length_added (p ∷ ps) x = ap suc (length_added ps x)
