-- The body of the method for a name and its counts: that of the nearest ancestor that has it, with
-- what names stand for in that ancestor.
use Rattle.std.specs.Prelude.{◌≡◌, ℕ, List, [], ◌∷◌, map, Option, Some, None, if◌then◌else◌, slice_get}
use Rattle.std.specs.Option.{unwrap_or, option_map_or}
use Rattle.pz_classes_code.specs.pz_syntax.declared.names.Id.{Id}
use Rattle.pz_classes_code.specs.pz_syntax.Classes.{DeclTree, data_class, process_class, DataMethodTree, ProcessMethodTree, ModelTree}
use Rattle.pz_classes_code.specs.Resolution.{Scope}
use Rattle.pz_classes_rules.specs.declared.method_id.Counts.TheVariants.{Data, Process}
use Rattle.pz_classes_rules.specs.declared.method_id.MethodId.{MethodId}
use Rattle.pz_classes_rules.specs.Numbers.{declaration}
use Rattle.pz_classes_rules.specs.Ancestors.{ancestors}
use Rattle.pz_classes_rules.specs.Methods.{Signature, same_signature, data_signature, process_signature, nearest, method_with}
use Rattle.pz_classes_rules.specs.Bodies.{BodyTree, data_scope, process_scope, data_body_in, process_body_in, bodies}

-- a method: its name and its counts, and its body
pub record Method : Type 0 where
  pub signature : Signature
  pub body : BodyTree

abbrev pub data_method_in : (List Id → Scope) → DataMethodTree → Method
data_method_in scope r = record { signature = data_signature r; body = data_body_in scope r }

abbrev pub process_method_in : (List Id → Scope) → ProcessMethodTree → Method
process_method_in scope r = record { signature = process_signature r; body = process_body_in scope r }

-- the methods that class c itself declares, in the order of the text
abbrev pub own_methods : ModelTree → ℕ → DeclTree → List Method
own_methods m c (data_class d) = map (data_method_in (data_scope m c)) (unwrap_or d.methods [])
own_methods m c (process_class p) = map (process_method_in (process_scope m c)) (unwrap_or p.methods [])
own_methods m c _ = []

-- the body of the first of these that is asked for
abbrev pub first_body : Signature → List Method → Option BodyTree
first_body s [] = None
first_body s (x ∷ xs) = if same_signature s x.signature then Some x.body else first_body s xs

-- the body of the method that a class itself declares
abbrev pub own_body : ModelTree → Signature → ℕ → Option BodyTree
own_body m s c = first_body s (option_map_or (own_methods m c) (declaration m c) [])

abbrev pub body_with : ModelTree → ℕ → Signature → Option BodyTree
body_with m c s = nearest (own_body m s) (ancestors m c)

-- of a data class, by name and number of inputs
abbrev pub method_body : ModelTree → ℕ → List ℕ → ℕ → Option BodyTree
method_body m c name inputs = body_with m c (record { name = name; counts = Data inputs })

-- of a process class, by name and numbers of inputs and outputs
abbrev pub process_method_body : ModelTree → ℕ → List ℕ → ℕ → ℕ → Option BodyTree
process_method_body m c name inputs outputs = body_with m c (record { name = name; counts = Process inputs outputs })

-- a class has the method with this signature, declared there or inherited, and its body stands at
-- the method's number
pub record HasBody (m : ModelTree) (c : ℕ) (s : Signature) : Type 0 where
  pub number : MethodId
  pub found : method_with m c s ≡ Some number
  pub body : BodyTree
  pub is : body_with m c s ≡ Some body
  pub there : slice_get (bodies m) number.0 ≡ Some body
