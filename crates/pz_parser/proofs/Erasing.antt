-- The positions of the tokens change nothing else of processes and models.
use Rattle.std.proofs.Common.{◌≡◌, ℕ, suc, ◌+◌, length, refl, ap, ◌∙◌}
use Rattle.std.specs.Prelude.{map, option_map}
use Rattle.pz_syntax.specs.Classes.{DeclTree, data_class, process_class, cluster_class, system, ModelTree}
use Rattle.pz_syntax.specs.declared.tokens.Keyword.TheVariants as k
use Rattle.pz_syntax.specs.Marks.{optional as optional_text, section as section_text, word_text, names_text}
use Rattle.pz_syntax.specs.ClassText.{formal_text, locals_text, variables_text, messages_text, start_text, process_method_text}
use Rattle.pz_syntax.specs.ModelText.{decl_text}
use Rattle.pz_syntax.specs.ExpressionErasure.{erase_id}
use Rattle.pz_syntax.specs.StatementErasure.{erase_sequence}
use Rattle.pz_syntax.specs.ModelErasure.{erase_group, erase_message, erase_start, erase_process_method, erase_process_class, erase_decl, erase}
use Rattle.pz_parser_cursor.specs.Places.{place_id, place_optional, place_section, place_names, place_variables, place_enclosed}
use Rattle.pz_parser_cursor.proofs.Erasing.{Erased, erased_each, erased_optional, erased_section, erased_names, erased_enclosed}
use Rattle.pz_parser_statements.specs.StatementPlaces.{place_all}
use Rattle.pz_parser_statements.proofs.Erasing.{erase_place_sequence}
use Rattle.pz_parser_declarations.specs.DeclarationPlaces.{place_messages, place_start}
use Rattle.pz_parser_declarations.proofs.Erasing.{erased_parent_section, erased_messages_section, erased_variables_section, erased_start_section, erased_data_class}
use Rattle.pz_parser_declarations.proofs.ClusterErasing.{erased_cluster_class, erased_system}
use Rattle.pz_parser.specs.ProcessPlaces.{place_process_method, place_process_methods, place_process_class}
use Rattle.pz_parser.specs.ModelPlaces.{place_decl, place_model}

erased_method : Erased erase_process_method place_process_method
erased_method at n m =
    let is = map erase_group m.inputs in
    let os = map erase_group m.outputs in
    let ls = option_map (map erase_group) m.locals in
    let outputs_at = suc n + length (formal_text m.inputs) in
    let locals_at = outputs_at + length (formal_text m.outputs) in
    let body_at = locals_at + length (optional_text locals_text m.locals) in
    let outputs = map erase_group (place_enclosed at outputs_at m.outputs) in
    let locals = option_map (map erase_group) (place_optional place_enclosed at locals_at m.locals) in
    let body = erase_sequence (place_all at body_at m.body) in
    ap (λ x. record { name = erase_id m.name; inputs = x; outputs = outputs; locals = locals; body = body }) (erased_enclosed at (suc n) m.inputs)
    ∙ ap (λ x. record { name = erase_id m.name; inputs = is; outputs = x; locals = locals; body = body }) (erased_enclosed at outputs_at m.outputs)
    ∙ ap (λ x. record { name = erase_id m.name; inputs = is; outputs = os; locals = x; body = body }) (erased_optional (map erase_group) place_enclosed erased_enclosed at locals_at m.locals)
    ∙ ap (λ x. record { name = erase_id m.name; inputs = is; outputs = os; locals = ls; body = x }) (erase_place_sequence at body_at m.body)

erased_methods : Erased (map erase_process_method) place_process_methods
erased_methods = erased_each process_method_text erase_process_method place_process_method erased_method

erased_process_class : Erased erase_process_class place_process_class
erased_process_class at n c =
    let parent = option_map erase_id c.parent in
    let fs = option_map (map erase_group) c.parameters in
    let ps = option_map (map erase_id) c.ports in
    let os = option_map (map erase_message) c.messages in
    let vs = option_map (map erase_group) c.variables in
    let s = option_map erase_start c.start in
    let parent_at = suc (suc (suc n)) + length (optional_text formal_text c.parameters) in
    let ports_at = parent_at + length (section_text k.Extends word_text c.parent) in
    let messages_at = ports_at + length (section_text k.Ports names_text c.ports) in
    let variables_at = messages_at + length (section_text k.Messages messages_text c.messages) in
    let start_at = variables_at + length (section_text k.Variables variables_text c.variables) in
    let methods_at = start_at + length (section_text k.Init start_text c.start) in
    let of = option_map erase_id (place_section place_id at parent_at c.parent) in
    let ports = option_map (map erase_id) (place_section place_names at ports_at c.ports) in
    let messages = option_map (map erase_message) (place_section place_messages at messages_at c.messages) in
    let variables = option_map (map erase_group) (place_section place_variables at variables_at c.variables) in
    let start = option_map erase_start (place_section place_start at start_at c.start) in
    let methods = option_map (map erase_process_method) (place_section place_process_methods at methods_at c.methods) in
    ap (λ x. record { name = erase_id c.name; parameters = x; parent = of; ports = ports; messages = messages; variables = variables; start = start; methods = methods }) (erased_optional (map erase_group) place_enclosed erased_enclosed at (suc (suc (suc n))) c.parameters)
    ∙ ap (λ x. record { name = erase_id c.name; parameters = fs; parent = x; ports = ports; messages = messages; variables = variables; start = start; methods = methods }) (erased_parent_section at parent_at c.parent)
    ∙ ap (λ x. record { name = erase_id c.name; parameters = fs; parent = parent; ports = x; messages = messages; variables = variables; start = start; methods = methods }) (erased_section (map erase_id) place_names erased_names at ports_at c.ports)
    ∙ ap (λ x. record { name = erase_id c.name; parameters = fs; parent = parent; ports = ps; messages = x; variables = variables; start = start; methods = methods }) (erased_messages_section at messages_at c.messages)
    ∙ ap (λ x. record { name = erase_id c.name; parameters = fs; parent = parent; ports = ps; messages = os; variables = x; start = start; methods = methods }) (erased_variables_section at variables_at c.variables)
    ∙ ap (λ x. record { name = erase_id c.name; parameters = fs; parent = parent; ports = ps; messages = os; variables = vs; start = x; methods = methods }) (erased_start_section at start_at c.start)
    ∙ ap (λ x. record { name = erase_id c.name; parameters = fs; parent = parent; ports = ps; messages = os; variables = vs; start = s; methods = x }) (erased_section (map erase_process_method) place_process_methods erased_methods at methods_at c.methods)

erased_decl : Erased erase_decl place_decl
erased_decl at n (data_class c) = ap data_class (erased_data_class at n c)
erased_decl at n (process_class c) = ap process_class (erased_process_class at n c)
erased_decl at n (cluster_class c) = ap cluster_class (erased_cluster_class at n c)
erased_decl at n (system d) = ap system (erased_system at n d)

pub erased_model : Erased erase place_model
erased_model at n m = ap (λ ds. record { decls = ds }) (erased_each decl_text erase_decl place_decl erased_decl at n m.decls)
