-- What stands for the environment of a driven system in another model: one process more, numbered after all
-- processes of the system, whose one method does the lines of the script.
use Rattle.std.specs.Prelude.{◌≡◌, ◌≢◌, ◌↔◌, ◌≤◌, ◌<◌, ℕ, pos, List, [], ◌∷◌, ◌++◌, replicate, length, All, Contains, Some, None, codes}
use Rattle.pz_env_tree.specs.pz_syntax.declared.tokens.Pos.{Pos}
use Rattle.pz_env_tree.specs.pz_syntax.declared.names.Id.{Id}
use Rattle.pz_env_tree.specs.pz_syntax.declared.exprs.Literal.TheVariants as literal
use Rattle.pz_env_tree.specs.pz_syntax.Expressions as expression
use Rattle.pz_env_tree.specs.pz_syntax.Expressions.{none, more, Part, left_out, written}
use Rattle.pz_env_tree.specs.pz_syntax.Statements.{delay, send, receive, call, no_statements, then}
use Rattle.pz_env_tree.specs.pz_syntax.Classes.{ModelTree}
use Rattle.pz_env_tree.specs.pz_value.declared.value.ClassId.{ClassId}
use Rattle.pz_env_tree.specs.pz_value.declared.value.Value.{Value}
use Rattle.pz_env_tree.specs.pz_value.declared.value.Value.TheVariants.{Nil}
use Rattle.pz_env_tree.specs.pz_classes_code.declared.slot.Slot.{Slot}
use Rattle.pz_env_tree.specs.pz_classes_code.declared.slot.Slot.TheVariants.{Shared}
use Rattle.pz_env_tree.specs.pz_classes_code.Literals.{constant}
use Rattle.pz_env_tree.specs.pz_classes_rules.Bodies.{process_body}
use Rattle.pz_env_tree.specs.pz_classes_rules.MethodBodies.{process_method_body}
use Rattle.pz_env_tree.specs.pz_classes_rules.Starts.{init}
use Rattle.pz_env_tree.specs.pz_classes_rules.ClassNames.{class_names}
use Rattle.pz_classes_openings.specs.Methods.{methods}
use Rattle.pz_bind_levels.specs.Places.{Address}
use Rattle.pz_env_tree.specs.pz_bind_rules.Nest.{processes, class_at}
use Rattle.pz_env_tree.specs.pz_bind_rules.Values.{values_at}
use Rattle.pz_env_tree.specs.pz_rules.Terms.{Codes, Step, Steps}
use Rattle.pz_env_tree.specs.pz_rules.Ports.{IsWire}
use Rattle.pz_env_tree.specs.pz_trace.Labels.{path_of, wire_of}
use Rattle.pz_env_tree.specs.pz_env_script.declared.entry.Transfer.{Transfer}
use Rattle.pz_env_tree.specs.pz_env_script.declared.entry.Transfer.TheVariants.{Send, Receive}
use Rattle.pz_env_tree.specs.pz_env_script.Entries.{values_in}
use Rattle.pz_env_tree.specs.pz_env_rules.Environment.{Line, at_line, wait_of}
use Rattle.pz_env_tree.specs.pz_env_rules.Ends.{named_at}
use Rattle.pz_env_tree.specs.pz_env_rules.Joining.{Driving}
use Rattle.pz_env_tree.specs.pz_env_rules.Driven.{environment_number, IsWireOf}
use Rattle.pz_env_tree.specs.EnvironmentClass.{literal_of, unless_none}

-- Statements with numbers in place of names, two for each line, where the port of a line has this number.
-- Whatever is received goes into the one variable.

abbrev pub literals : Pos → List Value → Codes
literals at [] = none
literals at (v ∷ vs) = more (expression.literal at (literal_of v)) (literals at vs)

abbrev pub arguments : Pos → List Value → Part Slot ClassId
arguments at [] = left_out
arguments at (v ∷ vs) = written (literals at (v ∷ vs))

abbrev pub exchange : ℕ → Line → Transfer → Step
exchange port x (Send values) = send (at_line x) port (named_at x x.entry.message) (arguments (at_line x) values) left_out
exchange port x (Receive count) = receive (at_line x) port (named_at x x.entry.message) (unless_none (replicate count (Shared 0))) None left_out

abbrev pub waiting : Line → Step
waiting x = delay (at_line x) (expression.literal (at_line x) (literal.Int x.entry.wait))

abbrev pub statements : (Line → ℕ) → List Line → Steps
statements port [] = no_statements
statements port (x ∷ xs) = (then) (waiting x) ((then) (exchange (port x) x x.entry.transfer) (statements port xs))

-- it waits 0 or more, and each value that it sends is that of a literal, as in each line that is read
pub record IsPlain (x : Line) : Type 0 where
  pub wait : x.entry.wait ≡ pos (wait_of x.entry)
  pub values : All (λ v. constant (literal_of v) ≡ v) (values_in x.entry.transfer)

-- the lines of a script
pub record ArePlain (lines : List Line) : Type 0 where
  pub some : lines ≢ []
  pub plain : All IsPlain lines

-- The model has the processes of the system, and behind them its environment.
pub record HasEnvironment (g : Driving) (n : ModelTree) : Type 0 where
  pub place : Address
  pub one_more : processes n ≡ processes g.setting.model ++ place ∷ []
  -- its one variable
  pub values : values_at n place ≡ Nil ∷ []
  -- it starts with a plain call of its one method
  pub pos : Pos
  pub method : Id
  pub starts : init n (class_at n place) ≡ Some (call pos method none [])
  pub port : Line → ℕ
  pub body : process_method_body n (class_at n place) method.name 0 0 ≡ Some (process_body 0 (statements port g.lines))
  pub some_method : 1 ≤ length (methods n)
  -- the wire of a line's port is that of the line
  pub wires : (x : Line) (w : ℕ) → Contains g.lines x → IsWire n (environment_number g) (port x) w ↔ IsWireOf g x w
  -- names in lines: of the processes and of the environment, of wires, and of classes
  pub paths : (i : ℕ) → i < environment_number g → path_of n i ≡ path_of g.setting.model i
  pub path : path_of n (environment_number g) ≡ codes "env"
  pub wire_names : (w : ℕ) → wire_of n w ≡ wire_of g.setting.model w
  pub classes : class_names n ≡ class_names g.setting.model ++ codes "ScriptEnv" ∷ []
