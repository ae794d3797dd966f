-- Process methods and process classes, as devices of the proofs.
use Rattle.std.specs.Prelude.{ℕ, List, Option}
use Rattle.pz_syntax.specs.Classes.{ProcessMethodTree, ProcessClassTree}
use Rattle.pz_parser_cursor.specs.declared.ahead.Next.TheVariants as n
use Rattle.pz_parser_cursor.specs.devices.Input.{sees}
use Rattle.pz_parser_cursor.specs.devices.Device.{Parser, ◌>>=◌, ◌>>◌, pure, take_id, expect, section}
use Rattle.pz_parser_cursor.specs.devices.Lists.{each_of}
use Rattle.pz_parser_cursor.specs.devices.Names.{word, formal, optional_formal, optional_locals, ports}
use Rattle.pz_parser_statements.specs.devices.Statements.{stmts}
use Rattle.pz_parser_declarations.specs.devices.Sections.{parent_section, messages_section, variables_section, start_section}

module _ (depth : ℕ) where
  -- from its name on
  unfoldable pub process_method : Parser ProcessMethodTree
  process_method = do
    name ← take_id
    inputs ← formal
    outputs ← formal
    locals ← optional_locals
    body ← stmts depth
    pure (record { name = name; inputs = inputs; outputs = outputs; locals = locals; body = body })

  -- as long as a head stands next
  unfoldable pub process_methods : Parser (List ProcessMethodTree)
  process_methods = each_of (sees n.Head) process_method

  unfoldable pub process_methods_section : Parser (Option (List ProcessMethodTree))
  process_methods_section = section n.Methods process_methods

  unfoldable pub process_class : Parser ProcessClassTree
  process_class = do
    expect n.Process
    expect n.Class
    name ← word
    parameters ← optional_formal
    parent ← parent_section
    ports ← ports
    messages ← messages_section
    variables ← variables_section
    start ← start_section depth
    methods ← process_methods_section
    pure (record { name = name; parameters = parameters; parent = parent; ports = ports; messages = messages; variables = variables; start = start; methods = methods })
