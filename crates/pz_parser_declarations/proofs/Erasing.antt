-- The positions of the tokens change nothing else of a declaration.
use Rattle.std.proofs.Common.{suc, ◌+◌, length, refl, ap, ◌∙◌}
use Rattle.std.specs.Prelude.{map, option_map}
use Rattle.pz_syntax.specs.declared.tokens.Keyword.TheVariants as k
use Rattle.pz_syntax.specs.Marks.{optional as optional_text, section as section_text, word_text}
use Rattle.pz_syntax.specs.ClassText.{formal_text, locals_text, variables_text, message_text, data_method_text}
use Rattle.pz_syntax.specs.ExpressionErasure.{erase_id, erase_all}
use Rattle.pz_syntax.specs.ModelErasure.{erase_group, erase_message, erase_start, erase_data_method, erase_data_class}
use Rattle.pz_parser_cursor.specs.Places.{place_id, place_variables, place_enclosed, place_optional, place_section}
use Rattle.pz_parser_cursor.proofs.Erasing.{Erased, erased_separated, erased_each, erased_optional, erased_section, erased_names, erased_variables, erased_enclosed}
use Rattle.pz_parser_expressions.specs.ExpressionPlaces.{place_all}
use Rattle.pz_parser_expressions.proofs.Erasing.{erase_place_all}
use Rattle.pz_parser_declarations.specs.DeclarationPlaces.{place_types, place_message, place_messages, place_start, place_data_method, place_data_methods, place_data_class}

erased_types : Erased (map erase_id) place_types
erased_types at m xs = erased_names at (suc m) xs

pub erased_message : Erased erase_message place_message
erased_message at m x = ap (λ ts. record { port = erase_id x.port; out = x.out; name = erase_id x.name; types = ts }) (erased_optional (map erase_id) place_types erased_types at (suc (suc (suc m))) x.types)

pub erased_messages : Erased (map erase_message) place_messages
erased_messages = erased_separated message_text erase_message place_message erased_message

pub erased_parent_section : Erased (option_map erase_id) (place_section place_id)
erased_parent_section = erased_section erase_id place_id (λ at m x. refl)

pub erased_messages_section : Erased (option_map (map erase_message)) (place_section place_messages)
erased_messages_section = erased_section (map erase_message) place_messages erased_messages

pub erased_variables_section : Erased (option_map (map erase_group)) (place_section place_variables)
erased_variables_section = erased_section (map erase_group) place_variables erased_variables

pub erased_start : Erased erase_start place_start
erased_start at m c = ap (λ ts. record { method = erase_id c.method; args = ts }) (erase_place_all at (suc (suc m)) c.args)

pub erased_start_section : Erased (option_map erase_start) (place_section place_start)
erased_start_section = erased_section erase_start place_start erased_start

erased_data_method : Erased erase_data_method place_data_method
erased_data_method at n m =
    let behind = suc (suc (suc n + length (optional_text formal_text m.inputs))) in
    let inner = behind + length (optional_text locals_text m.locals) in
    let inputs = erased_optional (map erase_group) place_enclosed erased_enclosed at (suc n) m.inputs in
    let locals = erased_optional (map erase_group) place_enclosed erased_enclosed at behind m.locals in
    ap (λ x. record { name = erase_id m.name; inputs = x; result = erase_id m.result; locals = option_map (map erase_group) (place_optional place_enclosed at behind m.locals); body = erase_all (place_all at inner m.body) }) inputs
    ∙ ap (λ x. record { name = erase_id m.name; inputs = option_map (map erase_group) m.inputs; result = erase_id m.result; locals = x; body = erase_all (place_all at inner m.body) }) locals
    ∙ ap (λ x. record { name = erase_id m.name; inputs = option_map (map erase_group) m.inputs; result = erase_id m.result; locals = option_map (map erase_group) m.locals; body = x }) (erase_place_all at inner m.body)

erased_methods_section : Erased (option_map (map erase_data_method)) (place_section place_data_methods)
erased_methods_section = erased_section (map erase_data_method) place_data_methods (erased_each data_method_text erase_data_method place_data_method erased_data_method)

pub erased_data_class : Erased erase_data_class place_data_class
erased_data_class at n c =
    let second = suc (suc (suc n)) + length (section_text k.Extends word_text c.parent) in
    let third = second + length (section_text k.Variables variables_text c.variables) in
    ap (λ x. record { name = erase_id c.name; parent = x; variables = option_map (map erase_group) (place_section place_variables at second c.variables); methods = option_map (map erase_data_method) (place_section place_data_methods at third c.methods) }) (erased_parent_section at (suc (suc (suc n))) c.parent)
    ∙ ap (λ x. record { name = erase_id c.name; parent = option_map erase_id c.parent; variables = x; methods = option_map (map erase_data_method) (place_section place_data_methods at third c.methods) }) (erased_variables_section at second c.variables)
    ∙ ap (λ x. record { name = erase_id c.name; parent = option_map erase_id c.parent; variables = option_map (map erase_group) c.variables; methods = x }) (erased_methods_section at third c.methods)
