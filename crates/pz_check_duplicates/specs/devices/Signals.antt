-- Messages in a list, as things.
use Rattle.std.specs.Prelude.{ℕ, Bool, ◌&&◌, nat_eq, List, [], length}
use Rattle.std.specs.Bool.{beq}
use Rattle.std.specs.Option.{unwrap_or}
use Rattle.std.specs.Str.{bytes_eq}
use Rattle.pz_classes.specs.pz_syntax.declared.tokens.Pos.{Pos}
use Rattle.pz_classes.specs.pz_syntax.declared.classes.Message.{Message}
use Rattle.pz_check_duplicates.specs.declared.messages.MessageKey.{MessageKey}
use Rattle.pz_check_duplicates.specs.declared.places.Thing.{Thing}

-- a message as far as another can repeat it, and where it stands
pub record Signal : Type 0 where
  pub port : List ℕ
  pub out : Bool
  pub name : List ℕ
  pub count : ℕ
  pub place : Pos

abbrev pub message_place : Message → Pos
message_place x = x.name.pos

abbrev pub signal_place : Signal → Pos
signal_place s = s.place

abbrev pub same_signal : Signal → Signal → Bool
same_signal x y = bytes_eq x.port y.port && beq x.out y.out && bytes_eq x.name y.name && nat_eq x.count y.count

abbrev pub signal : Message → Signal
signal x = record { port = x.port.name; out = x.out; name = x.name.name; count = length (unwrap_or x.types []); place = x.name.pos }

-- the message that a thing stands for
abbrev pub signal_of : Thing MessageKey → Signal
signal_of t = record { port = t.key.port.now; out = t.key.out; name = t.key.name.now; count = t.key.count; place = t.place }
