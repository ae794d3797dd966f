-- Process classes with the positions of the tokens of their texts. A number is that of the first
-- token of the part.
use Rattle.std.specs.Prelude.{List}
use Rattle.pz_syntax.specs.declared.tokens.Keyword.TheVariants as k
use Rattle.pz_syntax.specs.Marks.{optional, section, word_text, names_text}
use Rattle.pz_syntax.specs.Classes.{ProcessMethodTree, ProcessClassTree}
use Rattle.pz_syntax.specs.ClassText.{formal_text, locals_text, variables_text, messages_text, start_text, process_method_text}
use Rattle.pz_parser_cursor.specs.Places.{Placing, token, over, here, ◌>>=◌, ◌>>◌, made, from, place_id, place_names, place_variables, place_enclosed, place_each, place_optional, place_section}
use Rattle.pz_parser_statements.specs.StatementPlaces.{place_all}
use Rattle.pz_parser_declarations.specs.DeclarationPlaces.{place_messages, place_start}

abbrev pub place_process_method : Placing ProcessMethodTree
place_process_method at n m = from n do
  made (record {
    name = place_id at (← token) m.name;
    inputs = place_enclosed at (← over (formal_text m.inputs)) m.inputs;
    outputs = place_enclosed at (← over (formal_text m.outputs)) m.outputs;
    locals = place_optional place_enclosed at (← over (optional locals_text m.locals)) m.locals;
    body = place_all at (← here) m.body;
  })

abbrev pub place_process_methods : Placing (List ProcessMethodTree)
place_process_methods = place_each process_method_text place_process_method

abbrev pub place_process_class : Placing ProcessClassTree
place_process_class at n c = from n do
  token
  token
  made (record {
    name = place_id at (← token) c.name;
    parameters = place_optional place_enclosed at (← over (optional formal_text c.parameters)) c.parameters;
    parent = place_section place_id at (← over (section k.Extends word_text c.parent)) c.parent;
    ports = place_section place_names at (← over (section k.Ports names_text c.ports)) c.ports;
    messages = place_section place_messages at (← over (section k.Messages messages_text c.messages)) c.messages;
    variables = place_section place_variables at (← over (section k.Variables variables_text c.variables)) c.variables;
    start = place_section place_start at (← over (section k.Init start_text c.start)) c.start;
    methods = place_section place_process_methods at (← here) c.methods;
  })
