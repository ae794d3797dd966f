-- C4: of two declarations of one name, the one that stands later in the text.
use Rattle.std.specs.Prelude.{◌≡◌, ◌≢◌, ℕ, Bool, false, ◌&&◌, nat_eq, List, [], length, map, Some, Contains, IsTrue, slice_get}
use Rattle.std.specs.Option.{unwrap_or}
use Rattle.std.specs.Bool.{beq}
use Rattle.std.specs.Str.{bytes_eq}
use Rattle.pz_classes_code.specs.pz_syntax.declared.tokens.Pos.{Pos}
use Rattle.pz_classes_code.specs.pz_syntax.declared.names.Id.{Id}
use Rattle.pz_classes_code.specs.pz_syntax.declared.classes.Message.{Message}
use Rattle.pz_classes_code.specs.pz_syntax.Classes.{DeclTree, data_class, process_class, DataMethodTree, ProcessMethodTree, ModelTree}
use Rattle.pz_check_violations.specs.declared.violation.Violation.{Violation}
use Rattle.pz_check_violations.specs.Order.{violation, pos_before}
use Rattle.pz_classes_mentions.specs.declared.local_scope.LocalScope.{LocalScope}
use Rattle.pz_classes_mentions.specs.Declarations.{parts}
use Rattle.pz_classes_rules.specs.Numbers.{declaration}
use Rattle.pz_classes_rules.specs.Members.{fields, variables, ports}
use Rattle.pz_classes_rules.specs.Methods.{Signature, same_signature, data_signature, process_signature}
use Rattle.pz_classes_rules.specs.CallRules.{own_messages}
use Rattle.pz_classes_rules.specs.Instances.{instances}

-- Two of these are the same, each at a place of its own in the list, and y is the one that does not
-- come before the other in the text. Where both are said to stand at one position, either is.
pub record Repeats {A : Type 0} (same : A → A → Bool) (place : A → Pos) (xs : List A) (y : A) : Type 0 where
  pub first : A
  pub first_at : ℕ
  pub again_at : ℕ
  pub first_there : slice_get xs first_at ≡ Some first
  pub again_there : slice_get xs again_at ≡ Some y
  pub apart : first_at ≢ again_at
  pub alike : IsTrue (same first y)
  pub later : pos_before (place y) (place first) ≡ false

abbrev pub same_name : Id → Id → Bool
same_name x y = bytes_eq x.name y.name

-- a name is declared again among these
abbrev pub RepeatsName : List Id → Id → Type 0
RepeatsName = Repeats same_name (λ x. x.pos)

-- a method by its name, where it stands, and its counts
pub record Heading : Type 0 where
  pub name : Id
  pub signature : Signature

abbrev pub data_heading : DataMethodTree → Heading
data_heading r = record { name = r.name; signature = data_signature r }

abbrev pub process_heading : ProcessMethodTree → Heading
process_heading r = record { name = r.name; signature = process_signature r }

-- the methods of a class
abbrev pub headings : DeclTree → List Heading
headings (data_class c) = map data_heading (unwrap_or c.methods [])
headings (process_class c) = map process_heading (unwrap_or c.methods [])
headings _ = []

-- with the same name and counts
abbrev pub same_heading : Heading → Heading → Bool
same_heading x y = same_signature x.signature y.signature

-- with the same port, direction, name and number of parameters
abbrev pub same_message : Message → Message → Bool
same_message x y =
    bytes_eq x.port.name y.port.name && beq x.out y.out && bytes_eq x.name.name y.name.name
    && nat_eq (length (unwrap_or x.types [])) (length (unwrap_or y.types []))

pub data BreaksC4 (m : ModelTree) : Violation → Type 0 where
  -- among the fields of a data class and its ancestors
  again_field : (c : ℕ) (y : Id) → RepeatsName (fields m c) y → BreaksC4 m (violation 4 y.pos)
  -- among the parameters and variables of a process class and its ancestors
  again_variable : (c : ℕ) (y : Id) → RepeatsName (variables m c) y → BreaksC4 m (violation 4 y.pos)
  -- among the ports of a process class and its ancestors, or of a cluster class
  again_port : (c : ℕ) (y : Id) → RepeatsName (ports m c) y → BreaksC4 m (violation 4 y.pos)
  -- among the inputs, outputs and locals of a method, or the parameters of a cluster class
  again_local : (c : ℕ) (d : DeclTree) (p : LocalScope) (y : Id) → declaration m c ≡ Some d → Contains (parts d) p
      → RepeatsName p.locals y → BreaksC4 m (violation 4 y.pos)
  -- among the instances of a cluster class or the system
  again_instance : (c : ℕ) (d : DeclTree) (y : Id) → declaration m c ≡ Some d
      → RepeatsName (map (λ i. i.name) (instances d)) y → BreaksC4 m (violation 4 y.pos)
  -- among the methods of one class
  again_method : (c : ℕ) (d : DeclTree) (y : Heading) → declaration m c ≡ Some d
      → Repeats same_heading (λ x. x.name.pos) (headings d) y → BreaksC4 m (violation 4 y.name.pos)
  -- among the messages of one class
  again_message : (c : ℕ) (d : DeclTree) (y : Message) → declaration m c ≡ Some d
      → Repeats same_message (λ x. x.name.pos) (own_messages d) y → BreaksC4 m (violation 4 y.name.pos)
