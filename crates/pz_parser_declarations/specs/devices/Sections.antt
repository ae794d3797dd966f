-- The sections of classes that hold no statements, as devices of the proofs.
use Rattle.std.specs.Prelude.{ℕ, Bool, true, false, List, Option}
use Rattle.pz_syntax.specs.declared.names.Id.{Id}
use Rattle.pz_syntax.specs.declared.classes.VarGroup.{VarGroup}
use Rattle.pz_syntax.specs.declared.classes.Message.{Message}
use Rattle.pz_syntax.specs.Classes.{StartTree}
use Rattle.pz_syntax.specs.ExpressionView.{Tree, list_of as expressions}
use Rattle.pz_parser_cursor.specs.declared.ahead.Next.{Next}
use Rattle.pz_parser_cursor.specs.declared.ahead.Next.TheVariants as n
use Rattle.pz_parser_cursor.specs.devices.Input.{sees}
use Rattle.pz_parser_cursor.specs.devices.Device.{Parser, ◌>>=◌, ◌>>◌, pure, refuse, peek, skip, expect, expect_id, optional, or_none, section}
use Rattle.pz_parser_cursor.specs.devices.Lists.{list_of}
use Rattle.pz_parser_cursor.specs.devices.Names.{word, optional_names, optional_variables}
use Rattle.pz_parser_expressions.specs.devices.Values.{expr, exprs_before}

unfoldable pub parent_section : Parser (Option Id)
parent_section = section n.Extends word

unfoldable pub variables_section : Parser (Option (List VarGroup))
variables_section = section n.Variables optional_variables

-- ---- messages

-- whether the message goes out
abbrev pub direction_by : Next → Parser Bool
direction_by n.Bang = skip >> pure true
direction_by n.Query = skip >> pure false
direction_by _ = refuse

unfoldable pub direction : Parser Bool
direction = peek >>= direction_by

unfoldable pub types : Parser (List Id)
types = do
  expect n.LeftParen
  xs ← optional_names
  expect n.RightParen
  pure xs

unfoldable pub optional_types : Parser (Option (List Id))
optional_types = optional (sees n.LeftParen) types

unfoldable pub message : Parser Message
message = do
  port ← word
  out ← direction
  name ← word
  types ← optional_types
  pure (record { port = port; out = out; name = name; types = types })

unfoldable pub messages : Parser (List Message)
messages = list_of message n.Comma

unfoldable pub optional_messages : Parser (List Message)
optional_messages = or_none (sees n.Word) messages

unfoldable pub messages_section : Parser (Option (List Message))
messages_section = section n.Messages optional_messages

-- ---- the call with which a process starts

module _ (depth : ℕ) where
  unfoldable pub start_arguments : Parser (List Tree)
  start_arguments = exprs_before (expr depth) n.Comma n.RightParen

  unfoldable pub start : Parser StartTree
  start = do
    method ← expect_id n.Head
    expect n.LeftParen
    args ← start_arguments
    expect n.RightParen
    expect n.LeftParen
    expect n.RightParen
    pure (record { method = method; args = expressions args })

  unfoldable pub start_section : Parser (Option StartTree)
  start_section = section n.Init start
