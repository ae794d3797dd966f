-- The method for a name and its counts: that of the nearest ancestor that has it.
use Rattle.std.specs.Prelude.{ℕ, suc, ◌-◌, Bool, false, ◌&&◌, nat_eq, List, [], ◌∷◌, length, map, take, Option, Some, None, if◌then◌else◌}
use Rattle.std.specs.Option.{unwrap_or, option_map, option_map_or, option_or}
use Rattle.std.specs.Str.{bytes_eq}
use Rattle.std.specs.List.{sum_by}
use Rattle.pz_classes_code.specs.pz_syntax.Classes.{DeclTree, data_class, process_class, DataMethodTree, ProcessMethodTree, ModelTree}
use Rattle.pz_classes_rules.specs.declared.method_id.Counts.{Counts}
use Rattle.pz_classes_rules.specs.declared.method_id.Counts.TheVariants.{Data, Process}
use Rattle.pz_classes_rules.specs.declared.method_id.MethodId.{MethodId}
use Rattle.pz_classes_rules.specs.Numbers.{declaration}
use Rattle.pz_classes_rules.specs.Ancestors.{ancestors}
use Rattle.pz_classes_rules.specs.Members.{grouped, section}

-- a method's name and its counts
pub record Signature : Type 0 where
  pub name : List ℕ
  pub counts : Counts

abbrev pub same_counts : Counts → Counts → Bool
same_counts (Data inputs) (Data ours) = nat_eq inputs ours
same_counts (Process inputs outputs) (Process ours results) = nat_eq inputs ours && nat_eq outputs results
same_counts _ _ = false

abbrev pub same_signature : Signature → Signature → Bool
same_signature a b = same_counts a.counts b.counts && bytes_eq a.name b.name

abbrev pub data_signature : DataMethodTree → Signature
data_signature r = record { name = r.name.name; counts = Data (length (section r.inputs)) }

abbrev pub process_signature : ProcessMethodTree → Signature
process_signature r = record { name = r.name.name; counts = Process (length (grouped r.inputs)) (length (grouped r.outputs)) }

-- the signatures of the methods that a class itself declares, in the order of the text
abbrev pub signatures : DeclTree → List Signature
signatures (data_class c) = map data_signature (unwrap_or c.methods [])
signatures (process_class c) = map process_signature (unwrap_or c.methods [])
signatures _ = []

-- how many methods the classes before this one declare
abbrev pub methods_before : ModelTree → ℕ → ℕ
methods_before m c = sum_by (λ d. length (signatures d)) (take (c - 1) m.decls)

-- the number of the first of these that is asked for; the first one has number n
abbrev pub first_with : ℕ → Signature → List Signature → Option ℕ
first_with n s [] = None
first_with n s (t ∷ ts) = if same_signature s t then Some n else first_with (suc n) s ts

abbrev pub method_id : ℕ → MethodId
method_id n = record { 0 = n }

-- The method that a class itself declares. The methods of a model are numbered through from 0, in
-- the order of the text.
abbrev pub own_method : ModelTree → Signature → ℕ → Option MethodId
own_method m s c = option_map method_id (first_with (methods_before m c) s (option_map_or signatures (declaration m c) []))

-- what the first of these classes that has one has
abbrev pub nearest : {A : Type 0} → (ℕ → Option A) → List ℕ → Option A
nearest f [] = None
nearest f (c ∷ line) = option_or (f c) (nearest f line)

abbrev pub method_with : ModelTree → ℕ → Signature → Option MethodId
method_with m c s = nearest (own_method m s) (ancestors m c)

-- of a data class, by name and number of inputs
abbrev pub method : ModelTree → ℕ → List ℕ → ℕ → Option MethodId
method m c name inputs = method_with m c (record { name = name; counts = Data inputs })

-- of a process class, by name and numbers of inputs and outputs
abbrev pub process_method : ModelTree → ℕ → List ℕ → ℕ → ℕ → Option MethodId
process_method m c name inputs outputs = method_with m c (record { name = name; counts = Process inputs outputs })
