-- The instances by which a class leads back to itself.
use Rattle.std.specs.Prelude.{◌≡◌, ℕ, suc, Bool, false, IsTrue, Some, nat_eq, List, [], ◌∷◌, ◌++◌, map, slice_get, Contains, if◌then◌else◌}
use Rattle.std.specs.Option.{option_map_or}
use Rattle.pz_check_violations.specs.declared.violation.Violation.{Violation}
use Rattle.pz_check_violations.specs.Order.{violation}
use Rattle.pz_check_violations.specs.Least.{listed}
use Rattle.pz_check_components.specs.Graph.{Reaches, number_of}
use Rattle.pz_check_size.specs.declared.nodes.Held.{Held}
use Rattle.pz_check_size.specs.declared.nodes.Node.{Node}

abbrev pub classes_of : List Held → List ℕ
classes_of hs = map (λ h. h.class) hs

-- from each class to those of its instances
abbrev pub edges : List Node → List (List ℕ)
edges nodes = map (λ n. classes_of n.held) nodes

-- an instance of a cluster class from whose own class that is reached
pub data LeadsBack (nodes : List Node) : Violation → Type 0 where
  leads_back : (c : ℕ) (n : Node) (h : Held) → slice_get nodes c ≡ Some n → IsTrue n.is_cluster → Contains n.held h → Reaches (edges nodes) h.class c → LeadsBack nodes (violation 15 h.pos)

-- The rest is a device of the proofs: those instances as a list, where the classes have numbers.

abbrev pub is_numbered : List ℕ → ℕ → ℕ → Bool
is_numbered numbers number c = option_map_or (λ k. nat_eq k number) (slice_get numbers c) false

-- the instances whose class has the number
abbrev pub back_in : List ℕ → ℕ → List Held → List Violation
back_in numbers number [] = []
back_in numbers number (h ∷ hs) = listed (is_numbered numbers number h.class) (violation 15 h.pos) ++ back_in numbers number hs

-- those in this class, where it is a cluster class
abbrev pub back_from : List ℕ → ℕ → Node → List Violation
back_from numbers number n = if n.is_cluster then back_in numbers number n.held else []

-- those in these classes whose class has the same number; the first one is class c
abbrev pub back_among : List ℕ → ℕ → List Node → List Violation
back_among numbers c [] = []
back_among numbers c (n ∷ nodes) = back_from numbers (number_of numbers c) n ++ back_among numbers (suc c) nodes
