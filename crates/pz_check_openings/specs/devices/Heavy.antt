-- Which methods can be too large in some class, and which can open out of these, as a device of the
-- proofs. Names have bounds for how much their methods open as, and marks where they are reached.
use Rattle.std.specs.Prelude.{◌≡◌, ◌+◌, ℕ, Bool, true, ◌&&◌, ◌||◌, not, nat_le, nat_lt, min, fold, List, map, Option, Some, IsTrue, slice_get}
use Rattle.std.specs.List.{sum_by}
use Rattle.pz_classes.specs.pz_syntax.declared.names.Id.{Id}
use Rattle.pz_check_openings.specs.declared.outline.Outline.{Outline}
use Rattle.pz_check_openings.specs.devices.Settling.{is_plain}
use Rattle.pz_check_openings.specs.devices.Suspects.{kept}

-- so many statements with the bounds of these calls, as far as one more than is allowed
abbrev pub total : (List ℕ → ℕ) → ℕ → List Id → ℕ
total bound statements xs = min (statements + sum_by (λ x. bound x.name) xs) 1000001

-- too large with all that opens out of it, by the bounds
abbrev pub is_heavy : (List ℕ → ℕ) → Outline → Bool
is_heavy bound o = nat_le 1000001 (total bound o.statements o.calls)

-- it opens as no more than the bound of its name
abbrev pub is_covered : (List ℕ → ℕ) → Outline → Bool
is_covered bound o = nat_le (total bound o.statements o.begun) (bound o.name.name)

abbrev pub is_reached : (List ℕ → ℕ) → List ℕ → Bool
is_reached mark name = nat_lt 0 (mark name)

abbrev pub are_reached : (List ℕ → ℕ) → List Id → Bool
are_reached mark xs = fold (λ b x. is_reached mark x.name && b) true xs

-- what may be too large has calls of reached names alone
abbrev pub is_open : (List ℕ → ℕ) → (List ℕ → ℕ) → Outline → Bool
is_open bound mark o = not (is_heavy bound o) || are_reached mark o.calls

-- what is reached begins with calls of reached names alone
abbrev pub leads_on : (List ℕ → ℕ) → Outline → Bool
leads_on mark o = not (is_reached mark o.name.name) || are_reached mark o.begun

abbrev pub is_closed : (List ℕ → ℕ) → (List ℕ → ℕ) → Outline → Bool
is_closed bound mark o = is_open bound mark o && (not (is_plain o) || is_covered bound o && leads_on mark o)

abbrev pub is_kept : (List ℕ → ℕ) → (List ℕ → ℕ) → Outline → Bool
is_kept bound mark o = is_heavy bound o || is_plain o && is_reached mark o.name.name

-- all are kept where nothing is sure
abbrev pub is_kept_if : Bool → (List ℕ → ℕ) → (List ℕ → ℕ) → Outline → Bool
is_kept_if sure bound mark o = not sure || is_kept bound mark o

-- of all methods those that may be too large and those that can open out of them, each at its number
pub record AreHeavy (all those : List (Option Outline)) : Type 0 where
  pub bound : List ℕ → ℕ
  pub mark : List ℕ → ℕ
  pub sure : Bool
  pub closed : IsTrue sure → (k : ℕ) (o : Outline) → slice_get all k ≡ Some (Some o) → IsTrue (is_closed bound mark o)
  pub are : those ≡ map (kept (is_kept_if sure bound mark)) all
