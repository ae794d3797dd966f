-- What the code keeps of the methods that a class itself declares.
use Rattle.std.specs.Prelude.{◌≡◌, ℕ, ◌+◌, List, [], ◌∷◌, length, Option, Some, None, if◌then◌else◌}
use Rattle.std.specs.Option.{option_map, unwrap_or}
use Rattle.std.specs.Str.{bytes_eq}
use Rattle.indexmap.specs.IndexMap.{get_by}
use Rattle.pz_classes_code.specs.pz_syntax.Classes.{ModelTree}
use Rattle.pz_classes_rules.specs.declared.method_id.Counts.{Counts}
use Rattle.pz_classes_rules.specs.declared.method_id.MethodId.{MethodId}
use Rattle.pz_classes.specs.declared.method_index.Overload.{Overload}
use Rattle.pz_classes.specs.declared.method_index.Methods.{Methods}
use Rattle.pz_classes_rules.specs.Methods.{Signature, same_counts, first_with, method_id, methods_before, own_method}

-- the first of these with the counts
abbrev pub first_with_counts : Counts → List Overload → Option MethodId
first_with_counts counts [] = None
first_with_counts counts (o ∷ os) = if same_counts counts o.counts then Some o.id else first_with_counts counts os

-- those of the name
abbrev pub overloads_in : Methods → List ℕ → List Overload
overloads_in methods name = unwrap_or (get_by (λ k. bytes_eq name k.items) methods.by_name) []

-- the one of this name and these counts
abbrev pub method_in : Methods → Signature → Option MethodId
method_in methods s = first_with_counts s.counts (overloads_in methods s.name)

-- those with these signatures, of which the first has number n, and the number after theirs
pub record HasMethods (n : ℕ) (ss : List Signature) (methods : Methods) : Type 0 where
  pub each : (s : Signature) → method_in methods s ≡ option_map method_id (first_with n s ss)
  pub next : methods.next ≡ n + length ss

-- those that class c itself declares, and the number after theirs
pub record HasMethodsOf (m : ModelTree) (c : ℕ) (methods : Methods) : Type 0 where
  pub each : (s : Signature) → method_in methods s ≡ own_method m s c
  pub next : methods.next ≡ methods_before m (c + 1)
