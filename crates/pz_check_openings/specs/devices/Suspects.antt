-- Which methods can begin with themselves in some class, as a device of the proofs. Names have ranks,
-- and no method begins with a call of a higher rank than that of its own name.
use Rattle.std.specs.Prelude.{◌≡◌, ◌≤◌, ◌<◌, ◌+◌, ℕ, suc, Bool, false, ◌&&◌, ◌||◌, not, nat_le, max, fold, List, length, map, Option, Some, None, IsTrue, slice_get, if◌then◌else◌}
use Rattle.std.specs.Option.{unwrap_or}
use Rattle.pz_classes.specs.pz_syntax.declared.names.Id.{Id}
use Rattle.pz_classes.specs.pz_syntax.Classes.{DeclTree, ModelTree}
use Rattle.pz_classes.specs.pz_check_violations.declared.violation.Violation.{Violation}
use Rattle.pz_classes.specs.pz_classes_rules.Methods.{signatures, methods_before}
use Rattle.pz_check_openings.specs.declared.outline.Outline.{Outline}
use Rattle.pz_check_openings.specs.devices.Settling.{is_plain}

-- the highest rank of these calls
abbrev pub highest : (List ℕ → ℕ) → List Id → ℕ
highest rank xs = fold (λ a x. max a (rank x.name)) 0 xs

abbrev pub is_ordered : (List ℕ → ℕ) → Outline → Bool
is_ordered rank o = not (is_plain o) || nat_le (highest rank o.begun) (rank o.name.name)

-- it begins with a call of its own rank
abbrev pub is_suspect : (List ℕ → ℕ) → Outline → Bool
is_suspect rank o = is_plain o && nat_le (rank o.name.name) (highest rank o.begun)

-- the method, where it is one of these
abbrev pub kept : (Outline → Bool) → Option Outline → Option Outline
kept p None = None
kept p (Some o) = if p o then Some o else None

-- of all methods the suspects, each at its number
pub record AreSuspects (all those : List (Option Outline)) : Type 0 where
  pub rank : List ℕ → ℕ
  pub ordered : (k : ℕ) (o : Outline) → slice_get all k ≡ Some (Some o) → IsTrue (is_ordered rank o)
  pub are : those ≡ map (kept (is_suspect rank)) all

-- whether the class of this number has a mark
abbrev pub is_marked : List Bool → ℕ → Bool
is_marked marks c = unwrap_or (slice_get marks c) false

-- a class that itself declares one of these methods has a mark
abbrev pub AreMarked : ModelTree → List (Option Outline) → List Bool → Type 0
AreMarked m those marks = (i k : ℕ) (d : DeclTree) (o : Outline) → slice_get m.decls i ≡ Some d → slice_get those k ≡ Some (Some o)
    → methods_before m (suc i) ≤ k → k < methods_before m (suc i) + length (signatures d) → IsTrue (is_marked marks (suc i))

-- a rule in a class with a mark
abbrev pub Marked : List Bool → (ℕ → Violation → Type 0) → ℕ → Violation → Type 0
Marked marks P c v = IsTrue (is_marked marks c) × P c v
