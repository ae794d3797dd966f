-- The rules of instances, channels, cluster classes and the system, as devices of the proofs.
use Rattle.std.specs.Prelude.{ℤ, if◌then◌else◌, List, length, Option, Ok, Err}
use Rattle.pz_syntax.specs.declared.clusters.Arg.{Arg}
use Rattle.pz_syntax.specs.declared.clusters.Arg.TheVariants.{Plain, Negated, Parameter}
use Rattle.pz_syntax.specs.declared.clusters.Given.{Given}
use Rattle.pz_syntax.specs.declared.clusters.Instance.{Instance}
use Rattle.pz_syntax.specs.declared.clusters.ChannelEnd.{ChannelEnd}
use Rattle.pz_syntax.specs.declared.clusters.ChannelEnd.TheVariants.{Inner, Outer}
use Rattle.pz_syntax.specs.declared.clusters.Channel.{Channel}
use Rattle.pz_syntax.specs.declared.clusters.ClusterClass.{ClusterClass}
use Rattle.pz_syntax.specs.declared.clusters.SystemDecl.{SystemDecl}
use Rattle.pz_parser_cursor.specs.declared.ahead.Next.{Next}
use Rattle.pz_parser_cursor.specs.declared.ahead.Next.TheVariants as n
use Rattle.pz_parser_cursor.specs.declared.refusal.Refusal.TheVariants.{Syntax}
use Rattle.pz_parser_cursor.specs.devices.Input.{after, position, number, sees}
use Rattle.pz_parser_cursor.specs.devices.Device.{Parser, ◌>>=◌, ◌>>◌, ◌<$>◌, pure, refuse, peek, ask, skip, take_id, take_literal, eat, expect, optional, section, or_none}
use Rattle.pz_parser_cursor.specs.devices.Lists.{list_of, each_of}
use Rattle.pz_parser_cursor.specs.devices.Names.{word, optional_formal, ports as ports_section}

-- ---- arguments of instances

unfoldable pub constant : Parser Arg
constant = do
  pos ← ask position
  x ← take_literal
  pure (Plain x pos)

-- an integer that stands next
unfoldable pub expect_number : Parser ℤ
expect_number = λ i. if sees n.Int i then Ok (number i, after i) else Err (Syntax (length i))

unfoldable pub negated : Parser Arg
negated = do
  pos ← ask position
  skip
  x ← expect_number
  pure (Negated x pos)

unfoldable pub parameter : Parser Arg
parameter = Parameter <$> take_id

abbrev pub arg_by : Next → Parser Arg
arg_by n.Int = constant
arg_by n.Literal = constant
arg_by n.Minus = negated
arg_by n.Word = parameter
arg_by _ = refuse

unfoldable pub arg : Parser Arg
arg = peek >>= arg_by

unfoldable pub given : Parser Given
given = do
  x ← word
  expect n.Assign
  a ← arg
  pure (record { name = x; arg = a })

-- none where no name stands next
unfoldable pub givens : Parser (List Given)
givens = or_none (sees n.Word) (list_of given n.Comma)

unfoldable pub bracketed_givens : Parser (List Given)
bracketed_givens = do
  expect n.LeftParen
  gs ← givens
  expect n.RightParen
  pure gs

unfoldable pub optional_givens : Parser (Option (List Given))
optional_givens = optional (sees n.LeftParen) bracketed_givens

-- ---- instances

unfoldable pub one_instance : Parser Instance
one_instance = do
  x ← take_id
  expect n.Colon
  class ← word
  gs ← optional_givens
  pure (record { name = x; class = class; given = gs })

-- as long as a head stands next
unfoldable pub instances : Parser (List Instance)
instances = each_of (sees n.Head) one_instance

-- ---- channels

unfoldable pub one_end : Parser ChannelEnd
one_end = do
  x ← word
  dotted ← eat n.Dot
  if dotted then Inner x <$> word else pure (Outer x)

unfoldable pub one_channel : Parser Channel
one_channel = do
  pos ← ask position
  skip
  es ← list_of one_end n.Comma
  expect n.RightBrace
  pure (record { pos = pos; ends = es })

-- as long as a `{` stands next
unfoldable pub channels : Parser (List Channel)
channels = each_of (sees n.LeftBrace) one_channel

-- ---- clusters and the system

unfoldable pub instances_section : Parser (Option (List Instance))
instances_section = section n.Instances instances

unfoldable pub channels_section : Parser (Option (List Channel))
channels_section = section n.Channels channels

unfoldable pub cluster_class : Parser ClusterClass
cluster_class = do
  expect n.Cluster
  expect n.Class
  x ← word
  parameters ← optional_formal
  ports ← ports_section
  is ← instances_section
  cs ← channels_section
  pure (record { name = x; parameters = parameters; ports = ports; instances = is; channels = cs })

unfoldable pub system : Parser SystemDecl
system = do
  pos ← ask position
  expect n.System
  is ← instances_section
  cs ← channels_section
  pure (record { pos = pos; instances = is; channels = cs })
