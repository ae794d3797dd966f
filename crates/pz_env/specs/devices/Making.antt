-- What is made for one line of a script, in its parts.
use Rattle.std.specs.Prelude.{ℕ, List, [], ◌∷◌, None, replicate}
use Rattle.pz_syntax.specs.declared.names.Id.{Id}
use Rattle.pz_syntax.specs.declared.tokens.Pos.{Pos}
use Rattle.pz_syntax.specs.declared.exprs.Literal.TheVariants as literal
use Rattle.pz_syntax.specs.Expressions as expression
use Rattle.pz_syntax.specs.Expressions.{Expression, left_out}
use Rattle.pz_classes_code.specs.pz_value.declared.value.Value.{Value}
use Rattle.pz_syntax.specs.Statements.{Statement, delay, send, receive}
use Rattle.pz_syntax.specs.declared.classes.Message.{Message}
use Rattle.pz_syntax.specs.declared.clusters.Channel.{Channel}
use Rattle.pz_syntax.specs.declared.clusters.ChannelEnd.TheVariants.{Inner}
use Rattle.pz_env_tree.specs.pz_env_script.declared.entry.Entry.{Entry}
use Rattle.pz_env_tree.specs.pz_env_script.Entries.{count_in}
use Rattle.pz_env_tree.specs.pz_env_script.declared.entry.Transfer.{Transfer}
use Rattle.pz_env_tree.specs.pz_env_script.declared.entry.Transfer.TheVariants.{Send, Receive}
use Rattle.pz_env_tree.specs.Names.{instance_name, variable_name, kind_name, port_name}
use Rattle.pz_env_tree.specs.EnvironmentClass.{literal_of, arguments, unless_none, is_sent}

abbrev pub id_at : List ℕ → Pos → Id
id_at name at = record { name = name; pos = at }

-- the place of the line of this number
abbrev pub place_at : ℕ → Pos
place_at number = record { line = number; column = 1 }

abbrev pub constant_at : Pos → Value → Expression Id Id
constant_at at v = expression.literal at (literal_of v)

-- what is sent or received over this port at this place
abbrev pub exchange_at : Pos → Id → List ℕ → Transfer → Statement Id Id Id
exchange_at at port message (Send values) = send at port (id_at message at) (arguments at values) left_out
exchange_at at port message (Receive count) = receive at port (id_at message at) (unless_none (replicate count (id_at variable_name at))) None left_out

abbrev pub port_at : Pos → ℕ → Id
port_at at number = id_at (port_name number) at

-- the declaration of what an entry says over the port of this number
abbrev pub message_at : Pos → ℕ → Entry → Message
message_at at number e = record {
  port = port_at at number;
  out = is_sent e.transfer;
  name = id_at e.message at;
  types = unless_none (replicate (count_in e.transfer) (id_at kind_name at));
}

-- the two statements of an entry whose port has this number
abbrev pub statements_at : Pos → ℕ → Entry → List (Statement Id Id Id)
statements_at at number e = delay at (expression.literal at (literal.Int e.wait)) ∷ exchange_at at (port_at at number) e.message e.transfer ∷ []

-- the channel of an entry whose port has this number
abbrev pub channel_at : Pos → ℕ → Entry → Channel
channel_at at number e = record {
  pos = at;
  ends = Inner (id_at e.instance at) (id_at e.port at) ∷ Inner (id_at instance_name at) (port_at at number) ∷ [];
}
