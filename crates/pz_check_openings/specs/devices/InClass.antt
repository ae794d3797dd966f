-- The methods as they call each other in one class, as a device of the proofs.
use Rattle.std.specs.Prelude.{◌≡◌, ◌<◌, ℕ, Bool, false, nat_eq, List, [], ◌∷◌, ◌++◌, map, Option, Some, None, IsTrue, slice_get}
use Rattle.std.specs.Option.{option_map_or}
use Rattle.pz_classes.specs.pz_syntax.declared.names.Id.{Id}
use Rattle.pz_classes.specs.pz_syntax.Classes.{DeclTree, ModelTree}
use Rattle.pz_classes.specs.pz_check_violations.declared.violation.Violation.{Violation}
use Rattle.pz_classes.specs.pz_check_violations.Order.{violation}
use Rattle.pz_classes.specs.pz_classes_rules.Numbers.{declaration}
use Rattle.pz_classes.specs.pz_classes_rules.Kinds.{is_process}
use Rattle.pz_classes.specs.pz_classes_rules.Methods.{method_id, process_method}
use Rattle.pz_classes_openings.specs.Openings.{called}
use Rattle.pz_check_calls.specs.declared.graph.Call.{Call}
use Rattle.pz_check_calls.specs.declared.graph.Method.{Method}
use Rattle.pz_check_calls.specs.Calls.{IsRound, IsLarge}
use Rattle.pz_check_openings.specs.declared.outline.Outline.{Outline}

abbrev pub call_in : ModelTree → ℕ → Id → List Call
call_in m c x = option_map_or (λ n. record { method = n.0; pos = x.pos } ∷ []) (called m c x) []

abbrev pub calls_in : ModelTree → ℕ → List Id → List Call
calls_in m c [] = []
calls_in m c (x ∷ xs) = call_in m c x ++ calls_in m c xs

abbrev pub method_in : ModelTree → ℕ → Option Outline → Method
method_in m c None = record { statements = 0; begun = []; calls = [] }
method_in m c (Some o) = record { statements = o.statements; begun = calls_in m c o.begun; calls = calls_in m c o.calls }

abbrev pub methods_in : ModelTree → ℕ → List (Option Outline) → List Method
methods_in m c os = map (method_in m c) os

-- look-up by its name and counts finds the method of this number
abbrev pub is_found : ModelTree → ℕ → ℕ → Outline → Bool
is_found m c k o = option_map_or (λ n. nat_eq n.0 k) (process_method m c o.name.name o.inputs o.outputs) false

-- the rule on methods that begin with themselves, in the class of this number
pub data RoundIn (m : ModelTree) (os : List (Option Outline)) (c : ℕ) : Violation → Type 0 where
  round_in : (d : DeclTree) (v : Violation) → declaration m c ≡ Some d → IsTrue (is_process d) → IsRound (methods_in m c os) v → RoundIn m os c v

-- the rule on methods that are too large, at this method in the class of this number
pub data LargeAt (m : ModelTree) (os : List (Option Outline)) (c k : ℕ) : Violation → Type 0 where
  large_at : (o : Outline) → slice_get os k ≡ Some (Some o) → process_method m c o.name.name o.inputs o.outputs ≡ Some (method_id k) → IsLarge (methods_in m c os) k
      → LargeAt m os c k (violation 24 o.name.pos)

-- at some method in the class of this number
pub data LargeIn (m : ModelTree) (os : List (Option Outline)) (c : ℕ) : Violation → Type 0 where
  large_in : (d : DeclTree) (k : ℕ) (v : Violation) → declaration m c ≡ Some d → IsTrue (is_process d) → LargeAt m os c k v → LargeIn m os c v

-- a rule at one of the first so many places
abbrev pub Among : (ℕ → Violation → Type 0) → ℕ → Violation → Type 0
Among P n v = (i : ℕ) × (i < n) × P i v
