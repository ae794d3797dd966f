-- The class of an environment: a port for each end that the script names, and one method, which does
-- the lines one after the other. As text:
--
--   process class ScriptEnv
--   ports p0, p1, ..
--   messages p0!m(Integer, ..), p1?n(Integer, ..), ..
--   variables x : Integer
--   init run()()
--   methods run()() delay D; p0!m(3, nil); delay D; p1?n(x, x); ..
use Rattle.std.specs.Prelude.{ℕ, Bool, true, false, not, ◌&&◌, ◌==◌, List, [], ◌∷◌, map, replicate, Option, Some, None}
use Rattle.std.specs.List.{filter}
use Rattle.std.specs.Str.{bytes_eq}
use Rattle.pz_env_rules.specs.pz_syntax.declared.names.Id.{Id}
use Rattle.pz_env_rules.specs.pz_syntax.declared.tokens.Pos.{Pos}
use Rattle.pz_env_rules.specs.pz_syntax.declared.classes.Message.{Message}
use Rattle.pz_env_rules.specs.pz_syntax.declared.exprs.Literal.{Literal}
use Rattle.pz_env_rules.specs.pz_syntax.declared.exprs.Literal.TheVariants as literal
use Rattle.pz_env_rules.specs.pz_syntax.Expressions as expression
use Rattle.pz_env_rules.specs.pz_syntax.Expressions.{Expression, Expressions, none, more, Part, left_out, written}
use Rattle.pz_env_rules.specs.pz_syntax.Statements.{Statement, Statements, delay, send, receive, no_statements, then}
use Rattle.pz_env_rules.specs.pz_syntax.Classes.{ProcessMethodTree, ProcessClassTree}
use Rattle.pz_env_rules.specs.pz_value.declared.value.Value.{Value}
use Rattle.pz_env_rules.specs.pz_value.declared.value.Value.TheVariants as value
use Rattle.pz_env_rules.specs.pz_env_script.declared.entry.Transfer.{Transfer}
use Rattle.pz_env_rules.specs.pz_env_script.declared.entry.Transfer.TheVariants.{Send, Receive}
use Rattle.pz_env_rules.specs.pz_env_script.Entries.{count_in}
use Rattle.pz_env_rules.specs.Environment.{Line, at_line}
use Rattle.pz_env_rules.specs.Ends.{is_same_end, first_mentions, named_at}
use Rattle.pz_env_tree.specs.Names.{class_name, method_name, variable_name, kind_name, port_of}

-- what is of no line stands at line 1
abbrev pub first_place : Pos
first_place = record { line = 1; column = 1 }

abbrev pub named : List ℕ → Id
named name = record { name = name; pos = first_place }

-- Messages: each is declared once, by the line that says it first

abbrev pub is_sent : Transfer → Bool
is_sent (Send values) = true
is_sent (Receive count) = false

abbrev pub is_same_way : Bool → Bool → Bool
is_same_way true out = out
is_same_way false out = not out

-- both lines send, or both receive, this message with as many values over the same end
abbrev pub is_same_message : Line → Line → Bool
is_same_message x y =
    is_same_end x y && (is_same_way (is_sent x.entry.transfer) (is_sent y.entry.transfer) && (bytes_eq x.entry.message y.entry.message && count_in x.entry.transfer == count_in y.entry.transfer))

abbrev pub first_messages : List Line → List Line
first_messages [] = []
first_messages (x ∷ xs) = x ∷ filter (λ y. not (is_same_message x y)) (first_messages xs)

-- a list of no values has no brackets
abbrev pub unless_none : {A : Type 0} → List A → Option (List A)
unless_none [] = None
unless_none (x ∷ xs) = Some (x ∷ xs)

abbrev pub message_of : List Line → Line → Message
message_of lines x = record {
  port = port_of lines x;
  out = is_sent x.entry.transfer;
  name = named_at x x.entry.message;
  types = unless_none (replicate (count_in x.entry.transfer) (named_at x kind_name));
}

-- Statements: two for each line, both at the line

abbrev pub literal_of : Value → Literal
literal_of value.Nil = literal.Nil
literal_of (value.Bool true) = literal.True
literal_of (value.Bool false) = literal.False
literal_of (value.Int n) = literal.Int n
literal_of (value.Char b) = literal.Char b
literal_of (value.Str text) = literal.Str text
-- no value of a script is a reference
literal_of (value.Ref r) = literal.Nil

abbrev pub literals : Pos → List Value → Expressions Id Id
literals at [] = none
literals at (v ∷ vs) = more (expression.literal at (literal_of v)) (literals at vs)

abbrev pub arguments : Pos → List Value → Part Id Id
arguments at [] = left_out
arguments at (v ∷ vs) = written (literals at (v ∷ vs))

-- without a condition and without a block; all values that are received go into the one variable
abbrev pub exchange : List Line → Line → Transfer → Statement Id Id Id
exchange lines x (Send values) = send (at_line x) (port_of lines x) (named_at x x.entry.message) (arguments (at_line x) values) left_out
exchange lines x (Receive count) = receive (at_line x) (port_of lines x) (named_at x x.entry.message) (unless_none (replicate count (named_at x variable_name))) None left_out

abbrev pub waiting : Line → Statement Id Id Id
waiting x = delay (at_line x) (expression.literal (at_line x) (literal.Int x.entry.wait))

abbrev pub statements : List Line → List Line → Statements Id Id Id
statements lines [] = no_statements
statements lines (x ∷ xs) = (then) (waiting x) ((then) (exchange lines x x.entry.transfer) (statements lines xs))

abbrev pub method_of : List Line → ProcessMethodTree
method_of lines = record { name = named method_name; inputs = []; outputs = []; locals = None; body = statements lines lines }

abbrev pub environment_class : List Line → ProcessClassTree
environment_class lines = record {
  name = named class_name;
  parameters = None;
  parent = None;
  ports = Some (map (port_of lines) (first_mentions lines));
  messages = Some (map (message_of lines) (first_messages lines));
  variables = Some (record { names = named variable_name ∷ []; kind = named kind_name } ∷ []);
  start = Some (record { method = named method_name; args = none });
  methods = Some (method_of lines ∷ []);
}
