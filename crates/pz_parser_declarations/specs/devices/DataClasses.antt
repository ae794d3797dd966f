-- Data classes, as devices of the proofs.
use Rattle.std.specs.Prelude.{ℕ, List, Option}
use Rattle.pz_syntax.specs.Classes.{DataMethodTree, DataClassTree}
use Rattle.pz_syntax.specs.ExpressionView.{list_of as expressions}
use Rattle.pz_parser_cursor.specs.declared.ahead.Next.TheVariants as n
use Rattle.pz_parser_cursor.specs.devices.Input.{selects_head}
use Rattle.pz_parser_cursor.specs.devices.Device.{Parser, ◌>>=◌, ◌>>◌, pure, take_id, expect, section}
use Rattle.pz_parser_cursor.specs.devices.Lists.{list_of, each_of}
use Rattle.pz_parser_cursor.specs.devices.Names.{word, optional_formal, optional_locals}
use Rattle.pz_parser_expressions.specs.declared.rule.Rule.TheVariants as rule
use Rattle.pz_parser_expressions.specs.devices.Values.{expr}
use Rattle.pz_parser_declarations.specs.devices.Sections.{parent_section, variables_section}

module _ (depth : ℕ) where
  -- from its name on
  unfoldable pub data_method : Parser DataMethodTree
  data_method = do
    name ← take_id
    inputs ← optional_formal
    expect n.Colon
    result ← word
    locals ← optional_locals
    body ← list_of (expr depth rule.Expression) n.Semicolon
    pure (record { name = name; inputs = inputs; result = result; locals = locals; body = expressions body })

  -- as long as the name of one stands next
  unfoldable pub data_methods : Parser (List DataMethodTree)
  data_methods = each_of selects_head data_method

  unfoldable pub data_methods_section : Parser (Option (List DataMethodTree))
  data_methods_section = section n.Methods data_methods

  unfoldable pub data_class : Parser DataClassTree
  data_class = do
    expect n.Data
    expect n.Class
    name ← word
    parent ← parent_section
    variables ← variables_section
    methods ← data_methods_section
    pure (record { name = name; parent = parent; variables = variables; methods = methods })
