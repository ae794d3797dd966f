-- Declarations with the positions of the tokens of their texts. The number is that of the first
-- token of the part.
use Rattle.std.specs.Prelude.{suc, List}
use Rattle.pz_syntax.specs.declared.tokens.Keyword.TheVariants as k
use Rattle.pz_syntax.specs.declared.names.Id.{Id}
use Rattle.pz_syntax.specs.declared.classes.Message.{Message}
use Rattle.pz_syntax.specs.Marks.{optional, section, word_text}
use Rattle.pz_syntax.specs.Classes.{DataMethodTree, DataClassTree, StartTree}
use Rattle.pz_syntax.specs.ClassText.{formal_text, locals_text, variables_text, message_text, data_method_text}
use Rattle.pz_parser_cursor.specs.Places.{Placing, token, over, here, ◌>>=◌, ◌>>◌, made, from, place_id, place_names, place_variables, place_enclosed, place_separated, place_each, place_optional, place_section}
use Rattle.pz_parser_expressions.specs.ExpressionPlaces.{place_all}

-- behind the `(`
abbrev pub place_types : Placing (List Id)
place_types at n xs = place_names at (suc n) xs

abbrev pub place_message : Placing Message
place_message at n m = from n do port_at ← token; token; made (record { port = place_id at port_at m.port; out = m.out; name = place_id at (← token) m.name; types = place_optional place_types at (← here) m.types })

abbrev pub place_messages : Placing (List Message)
place_messages = place_separated message_text place_message

abbrev pub place_start : Placing StartTree
place_start at n c = from n do method_at ← token; token; made (record { method = place_id at method_at c.method; args = place_all at (← here) c.args })

abbrev pub place_data_method : Placing DataMethodTree
place_data_method at n m = from n do
  name_at ← token
  inputs_at ← over (optional formal_text m.inputs)
  token
  made (record {
    name = place_id at name_at m.name;
    inputs = place_optional place_enclosed at inputs_at m.inputs;
    result = place_id at (← token) m.result;
    locals = place_optional place_enclosed at (← over (optional locals_text m.locals)) m.locals;
    body = place_all at (← here) m.body;
  })

abbrev pub place_data_methods : Placing (List DataMethodTree)
place_data_methods = place_each data_method_text place_data_method

abbrev pub place_data_class : Placing DataClassTree
place_data_class at n c = from n do
  token
  token
  made (record {
    name = place_id at (← token) c.name;
    parent = place_section place_id at (← over (section k.Extends word_text c.parent)) c.parent;
    variables = place_section place_variables at (← over (section k.Variables variables_text c.variables)) c.variables;
    methods = place_section place_data_methods at (← here) c.methods;
  })
