-- The one method of the environment, with numbers in place of names; how it starts, and the value of its one
-- variable.
use Rattle.std.proofs.Common.{◌≡◌, refl, sym, ap, ◌∙◌, ℕ, zero, suc, ◌<◌, ◌^◌, List, [], ◌∷◌, map, length, replicate, Option, Some, None}
use Rattle.std.specs.Prelude.{option_map, unwrap_or}
use Rattle.std.specs.Option.{option_map_or, option_and_then}
use Rattle.std.specs.List.{Contains}
use Rattle.pz_env_mimics.specs.pz_syntax.declared.names.Id.{Id}
use Rattle.pz_env_mimics.specs.pz_syntax.declared.tokens.Pos.{Pos}
use Rattle.pz_env_mimics.specs.pz_syntax.Expressions as expression
use Rattle.pz_env_mimics.specs.pz_syntax.Expressions.{none, more, left_out, written}
use Rattle.pz_env_mimics.specs.pz_syntax.Statements.{send, receive, call, then}
use Rattle.pz_env_mimics.specs.pz_syntax.Classes.{DeclTree, ModelTree}
use Rattle.pz_env_mimics.specs.pz_value.declared.value.Value.{Value}
use Rattle.pz_env_mimics.specs.pz_classes_code.declared.slot.Slot.{Slot}
use Rattle.pz_env_mimics.specs.pz_classes_code.declared.slot.Slot.TheVariants.{Shared}
use Rattle.pz_env_mimics.specs.pz_classes_code.Resolution.{Scope, unknown, port_of, slots_of, resolved_all, resolved_part, resolved_statement, resolved_statements}
use Rattle.pz_env_mimics.specs.pz_classes_rules.declared.method_id.Counts.TheVariants.{Process}
use Rattle.pz_env_mimics.specs.pz_classes_rules.Numbers.{class}
use Rattle.pz_env_mimics.specs.pz_classes_rules.Members.{ports, spelled}
use Rattle.pz_env_mimics.specs.pz_classes_rules.Methods.{Signature, nearest}
use Rattle.pz_env_mimics.specs.pz_classes_code.Places.{place_in}
use Rattle.pz_env_mimics.specs.pz_classes_rules.Bodies.{BodyTree, process_body, scope_of}
use Rattle.pz_env_mimics.specs.pz_classes_rules.MethodBodies.{own_methods, first_body, own_body, process_method_body}
use Rattle.pz_env_mimics.specs.pz_classes_rules.Starts.{own_start, start_call, own_call, init}
use Rattle.pz_env_mimics.specs.pz_env_script.declared.entry.Entry.{Entry}
use Rattle.pz_env_mimics.specs.pz_env_script.declared.entry.Transfer.{Transfer}
use Rattle.pz_env_mimics.specs.pz_env_script.declared.entry.Transfer.TheVariants.{Send, Receive}
use Rattle.pz_env_mimics.specs.pz_env_rules.Environment.{Line, at_line, lines_of}
use Rattle.pz_env_mimics.specs.pz_env_rules.Ends.{first_mentions, named_at}
use Rattle.pz_env_mimics.specs.pz_env_tree.Names.{method_name, variable_name, end_number, port_name}
use Rattle.pz_env_mimics.specs.pz_env_tree.Names as names
use Rattle.pz_env_mimics.specs.pz_env_tree.EnvironmentClass.{first_place, named, unless_none, environment_class}
use Rattle.pz_env_mimics.specs.pz_env_tree.EnvironmentClass as tree
use Rattle.pz_env_mimics.specs.pz_env_tree.ClosedTree.{closed_by}
use Rattle.pz_env_mimics.specs.Environments.{literals, arguments, exchange, waiting, statements}
use Rattle.pz_env_grown.proofs.Elements.{first_in, later_in}
use Rattle.pz_env_joined.proofs.Closing.{env_class, env_declared}
use Rattle.pz_env_joined.proofs.Firsts.{has_first, end_is}
use Rattle.pz_env_joined.proofs.EnvironmentPorts.{port_placed, env_line, env_variables, env_ports}

module _ (script : List Entry) (few : length script < 2 ^ 64) (classes : List ℕ → Option ℕ) where
  abbrev lines : List Line
  lines = lines_of script

  -- what names stand for in the method
  abbrev scope : Scope
  scope = record {
    locals = place_in [];
    shared = place_in (variable_name ∷ []);
    ports = place_in (spelled (map (names.port_of lines) (first_mentions lines)));
    classes = classes;
  }

  port_is : (x : Line) → Contains lines x → port_of scope (names.port_of lines x).name ≡ end_number lines x
  port_is x among =
      let first = has_first lines x among in
      let number : end_number lines x ≡ first.0 = end_is lines x first.0 first.1 in
      ap (λ (k : ℕ). unwrap_or (place_in (spelled (map (names.port_of lines) (first_mentions lines))) (port_name k)) unknown) number
      ∙ ap (λ (o : Option ℕ). unwrap_or o unknown) (port_placed script few first.0 first.1.first first.1.there)
      ∙ sym number

  literals_are : (at : Pos) (vs : List Value) → resolved_all scope (tree.literals at vs) ≡ literals at vs
  literals_are at [] = refl
  literals_are at (v ∷ vs) = ap (λ es. more (expression.literal at (tree.literal_of v)) es) (literals_are at vs)

  arguments_are : (at : Pos) (vs : List Value) → resolved_part scope (tree.arguments at vs) ≡ arguments at vs
  arguments_are at [] = refl
  arguments_are at (v ∷ vs) = ap written (literals_are at (v ∷ vs))

  slots_are : (x : Line) (count : ℕ) → slots_of scope (replicate count (named_at x variable_name)) ≡ replicate count (Shared 0)
  slots_are x zero = refl
  slots_are x (suc count) = ap (λ (slots : List Slot). Shared 0 ∷ slots) (slots_are x count)

  into_are : (x : Line) (count : ℕ)
      → option_map (slots_of scope) (unless_none (replicate count (named_at x variable_name))) ≡ unless_none (replicate count (Shared 0))
  into_are x zero = refl
  into_are x (suc count) = ap (λ (slots : List Slot). Some (Shared 0 ∷ slots)) (slots_are x count)

  exchange_is : (x : Line) → Contains lines x → (t : Transfer)
      → resolved_statement scope (tree.exchange lines x t) ≡ exchange (end_number lines x) x t
  exchange_is x among (Send values) =
      ap (λ (port : ℕ). send (at_line x) port (named_at x x.entry.message) (resolved_part scope (tree.arguments (at_line x) values)) left_out) (port_is x among)
      ∙ ap (λ args. send (at_line x) (end_number lines x) (named_at x x.entry.message) args left_out) (arguments_are (at_line x) values)
  exchange_is x among (Receive count) =
      ap (λ (port : ℕ). receive (at_line x) port (named_at x x.entry.message) (option_map (slots_of scope) (unless_none (replicate count (named_at x variable_name)))) None left_out) (port_is x among)
      ∙ ap (λ into. receive (at_line x) (end_number lines x) (named_at x x.entry.message) into None left_out) (into_are x count)

  statements_are : (xs : List Line) → ((x : Line) → Contains xs x → Contains lines x)
      → resolved_statements scope (tree.statements lines xs) ≡ statements (end_number lines) xs
  statements_are [] among = refl
  statements_are (x ∷ xs) among =
      ap (λ t. (then) (waiting x) ((then) t (resolved_statements scope (tree.statements lines xs)))) (exchange_is x (among x (first_in x xs)) x.entry.transfer)
      ∙ ap (λ ts. (then) (waiting x) ((then) (exchange (end_number lines x) x x.entry.transfer) ts)) (statements_are xs (λ y at. among y (later_in x xs y at)))

  pub body_is : resolved_statements (record {
    locals = place_in [];
    shared = place_in (variable_name ∷ []);
    ports = place_in (spelled (map (names.port_of (lines_of script)) (first_mentions (lines_of script))));
    classes = classes;
  }) (tree.statements (lines_of script) (lines_of script)) ≡ statements (end_number (lines_of script)) (lines_of script)
  body_is = statements_are lines (λ x at. at)

module _ (m : ModelTree) (script : List Entry) where
  abbrev n : ModelTree
  n = closed_by m (lines_of script)

  abbrev c : ℕ
  c = env_class m (lines_of script)

  abbrev body_of : (List Id) → (List Id) → BodyTree
  body_of vs ps = process_body 0 (resolved_statements (scope_of n (spelled vs) (spelled ps) []) (tree.statements (lines_of script) (lines_of script)))

  pub env_body : length script < 2 ^ 64
      → process_method_body (closed_by m (lines_of script)) (env_class m (lines_of script)) method_name 0 0 ≡ Some (process_body 0 (statements (end_number (lines_of script)) (lines_of script)))
  env_body few =
      let s : Signature = record { name = method_name; counts = Process 0 0 } in
      ap (nearest (own_body n s)) (env_line m (lines_of script))
      ∙ ap (λ (o : Option DeclTree). nearest (λ (k : ℕ). first_body s (option_map_or (own_methods n c) o [])) (c ∷ [])) (env_declared m (lines_of script))
      ∙ ap (λ (vs : List Id). Some (body_of vs (ports n c))) (env_variables m (lines_of script))
      ∙ ap (λ (ps : List Id). Some (body_of (named variable_name ∷ []) ps)) (env_ports m (lines_of script))
      ∙ ap (λ ts. Some (process_body 0 ts)) (body_is script few (class n))

  pub env_init : init (closed_by m (lines_of script)) (env_class m (lines_of script)) ≡ Some (call first_place (named method_name) none [])
  env_init =
      ap (nearest (own_call n)) (env_line m (lines_of script))
      ∙ ap (λ (o : Option DeclTree). nearest (λ (k : ℕ). option_map (start_call n c) (option_and_then own_start o)) (c ∷ [])) (env_declared m (lines_of script))
