-- What is kept of the classes that are open.
use Rattle.std.specs.Prelude.{ℕ, List, [], map, Option}
use Rattle.std.specs.Option.{unwrap_or, option_map_or, option_and_then, option_to_list}
use Rattle.std.specs.List.{flat_map}
use Rattle.pz_classes_code.specs.pz_syntax.declared.classes.Message.{Message}
use Rattle.pz_classes_code.specs.pz_syntax.Classes.{DeclTree, process_class, ProcessMethodTree, StartTree, ModelTree}
use Rattle.pz_classes.specs.pz_classes_rules.declared.method_id.MethodId.{MethodId}
use Rattle.pz_classes.specs.pz_classes_rules.Numbers.{declaration}
use Rattle.pz_classes.specs.pz_classes_rules.Members.{own_fields, own_variables, own_ports}
use Rattle.pz_classes.specs.pz_classes_rules.Methods.{Signature, own_method, nearest}
use Rattle.pz_classes.specs.pz_classes_rules.CallRules.{own_messages}
use Rattle.pz_classes.specs.pz_classes_rules.Starts.{own_start}
use Rattle.pz_check_names.specs.devices.Shown.{ShowsNames, ShowsMessages, ShowsMethods, ShowsStarts}
use Rattle.pz_check_names.specs.declared.inherited.Inherited.{Inherited}

-- what these classes declare themselves; one without a declaration declares nothing
abbrev pub of_each : {X : Type 0} → (DeclTree → List X) → List (Option DeclTree) → List (List X)
of_each own decls = map (λ d. option_map_or own d []) decls

-- the methods of a process class
abbrev pub own_methods : DeclTree → List ProcessMethodTree
own_methods (process_class c) = unwrap_or c.methods []
own_methods _ = []

-- its `init`, if it has one
abbrev pub own_starts : DeclTree → List StartTree
own_starts d = option_to_list (own_start d)

-- classes are open that are declared so, the innermost first
pub record AreOpen (decls : List (Option DeclTree)) (inherited : Inherited) : Type 0 where
  pub fields : ShowsNames (of_each own_fields decls) inherited.fields
  pub variables : ShowsNames (of_each own_variables decls) inherited.variables
  pub ports : ShowsNames (of_each own_ports decls) inherited.ports
  pub messages : ShowsMessages (of_each own_messages decls) inherited.messages
  pub methods : ShowsMethods (of_each own_methods decls) inherited.methods
  pub starts : ShowsStarts (of_each own_starts decls) inherited.starts

-- these classes of the model are open, the innermost first
abbrev pub IsOpen : ModelTree → List ℕ → Inherited → Type 0
IsOpen m line inherited = AreOpen (map (declaration m) line) inherited

-- the messages that these classes declare
abbrev pub messages_along : ModelTree → List ℕ → List Message
messages_along m line = flat_map (λ a. option_map_or own_messages (declaration m a) []) line

-- the method with this signature of the first of these classes that has one
abbrev pub method_along : ModelTree → Signature → List ℕ → Option MethodId
method_along m s line = nearest (own_method m s) line

-- the `init` of the first of these classes that has one
abbrev pub start_along : ModelTree → List ℕ → Option StartTree
start_along m line = nearest (λ a. option_and_then own_start (declaration m a)) line
