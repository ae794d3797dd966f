-- Where the rules of process classes, declarations and models stop.
use Rattle.std.proofs.Common.{◌≡◌, ℕ, suc, ◌≤◌, ◌<◌, true, List, [], ◌∷◌, ◌++◌, length, Option, None, refl, sym, arith}
use Rattle.std.proofs.lemmas.List.{append-nil}
use Rattle.pz_syntax.specs.declared.tokens.Keyword.TheVariants as k
use Rattle.pz_syntax.specs.declared.tokens.TokenKind.TheVariants as kind
use Rattle.pz_syntax.specs.declared.names.Id.{Id}
use Rattle.pz_syntax.specs.declared.classes.VarGroup.{VarGroup}
use Rattle.pz_syntax.specs.Marks.{head, each_text}
use Rattle.pz_syntax.specs.ExpressionErasure.{origin}
use Rattle.pz_syntax.specs.Classes.{ProcessMethodTree, ProcessClassTree, DeclTree, data_class, process_class, cluster_class, system, ModelTree}
use Rattle.pz_syntax.specs.Statements.{then, no_statements}
use Rattle.pz_syntax.specs.Statements as tree
use Rattle.pz_syntax.specs.ClassText.{process_method_text, process_class_text}
use Rattle.pz_syntax.specs.ModelText.{decl_text, text}
use Rattle.pz_syntax.specs.ModelForm.{IsStart, IsProcessMethod, IsProcessClass, IsDecl, IsModel}
use Rattle.pz_syntax.specs.ModelNesting.{start_nesting, process_method_nesting, process_class_nesting, decl_nesting, nesting}
use Rattle.pz_parser_cursor.specs.declared.ahead.Next.{Next}
use Rattle.pz_parser_cursor.specs.declared.ahead.Next.TheVariants as n
use Rattle.pz_parser_cursor.specs.declared.refusal.Refusal.TheVariants.{Syntax}
use Rattle.pz_parser_cursor.specs.devices.LookAhead.{next}
use Rattle.pz_parser_cursor.specs.devices.Input.{Tokens, after, identifier, sees}
use Rattle.pz_parser_cursor.specs.devices.Device.{Parser, ◌>>=◌, pure}
use Rattle.pz_parser_cursor.specs.devices.Lists.{each_of}
use Rattle.pz_parser_cursor.specs.devices.Names.{formal, optional_locals}
use Rattle.pz_parser_cursor.proofs.Steps.{sees_is}
use Rattle.pz_parser_cursor.proofs.Words.{head_is}
use Rattle.pz_parser_statements.specs.devices.Statements.{stmts}
use Rattle.pz_parser.specs.devices.Processes as processes
use Rattle.pz_parser.specs.devices.Models as spec
use Rattle.pz_parser_cursor.proofs.Stopping.{Form, nothing, both, took, stopped, failing, ExactAt, Exact, refused_here, into, bind_at, bind_exact, mapped, refuse_exact, Peeks, take_then, dispatch}
use Rattle.pz_parser_cursor.proofs.StoppingLists.{identifier_peeks, sees_peeks, some_id, name_form, optional_form, section_form, each_form, expect_exact, word_exact, section_exact, each_exact, front_exact, each_within, written_within, optional_within}
use Rattle.pz_parser_cursor.proofs.StoppingNames.{formal_form, locals_form, formal_exact, optional_formal_exact, optional_locals_exact, ports_exact}
use Rattle.pz_parser_declarations.proofs.StoppingDeclarations.{data_class_exact, parent_exact, variables_exact, messages_section_exact, start_section_exact}
use Rattle.pz_parser_declarations.proofs.StoppingClusters.{cluster_class_exact, system_exact}
use Rattle.pz_parser_statements.proofs.StoppingStatements.{sequence_form, stmts_exact}

abbrev process_method_form : Form
process_method_form = record {
  Shape = ProcessMethodTree;
  text = process_method_text;
  Fits = λ n m. IsProcessMethod m × (process_method_nesting m < n);
  some = λ n lt. (record { name = some_id; inputs = []; outputs = []; locals = None; body = then (tree.skip origin) no_statements }, ((tt, tt, tt, (tt, tt)), lt));
}

abbrev process_class_form : Form
process_class_form = record {
  Shape = ProcessClassTree;
  text = process_class_text;
  Fits = λ n c. IsProcessClass c × (process_class_nesting c < n);
  some = λ n lt. (record { name = some_id; parameters = None; parent = None; ports = None; messages = None; variables = None; start = None; methods = None }, ((tt, tt, tt, tt), lt));
}

abbrev some_decl : DeclTree
some_decl = system (record { pos = origin; instances = None; channels = None })

abbrev decl_form : Form
decl_form = record { Shape = DeclTree; text = decl_text; Fits = λ n t. IsDecl t × (decl_nesting t < n); some = λ n lt. (some_decl, (tt, lt)) }

abbrev pub model_form : Form
model_form = record { Shape = ModelTree; text = text; Fits = λ n m. IsModel m × (nesting m < n); some = λ n lt. (record { decls = some_decl ∷ [] }, ((tt, (tt, tt)), omega (arith, lt))) }

begins_peeks : Peeks spec.begins_decl
unfolding spec.begins_decl next
begins_peeks t u w = refl

decl_filled : (t : DeclTree) → 0 < length (decl_text t)
decl_filled (data_class c) = omega arith
decl_filled (process_class c) = omega arith
decl_filled (cluster_class c) = omega arith
decl_filled (system d) = omega arith

end_exact : (W : Type 0) (b : ℕ) → Exact W b spec.end spec.end nothing
unfolding spec.end
end_exact W b [] = record { pass = took (tt, []) (record { shape = tt; parts = refl; meets = λ n le lt. tt }); same = λ lt t a u w h. absurd cc }
end_exact W b (v ∷ vs) = record { pass = stopped (Syntax (length (v ∷ vs))) (refused_here b nothing (v ∷ vs)); same = λ lt t a u w h. failing (Syntax (length (v ∷ vs))) (Syntax (length (t ∷ (a ++ w)))) }

module _ (W : Type 0) (d e : ℕ) (le : d ≤ e) (wide : d < e → W) where
  abbrev b : ℕ
  b = suc d

  method_at : (i : Tokens) → sees n.Head i ≡ true → ExactAt W b (processes.process_method d) (processes.process_method e) process_method_form i
  unfolding processes.process_method
  method_at i h =
      let made : Id → List VarGroup → List VarGroup → Option (List VarGroup) → tree.Statements Id Id Id → ProcessMethodTree = λ name inputs outputs locals body. record { name = name; inputs = inputs; outputs = outputs; locals = locals; body = body } in
      let rest : (m : ℕ) → Id → Parser ProcessMethodTree = λ m name. formal >>= (λ inputs. formal >>= (λ outputs. optional_locals >>= (λ locals. stmts m >>= (λ body. pure (made name inputs outputs locals body))))) in
      let c = into W b {F = both (name_form head) (both formal_form (both formal_form (both (optional_form locals_form) sequence_form)))} {G = process_method_form} (λ v. made v.0 v.1.0 v.1.1.0 v.1.1.1.0 v.1.1.1.1) (λ v. refl) (λ n lt v f. ((f.1.0, f.1.1.0, f.1.1.1.0, f.1.1.1.1.0), f.1.1.1.1.1))
      (take_then W b identifier (rest d) (rest e) (name_form head) (both formal_form (both formal_form (both (optional_form locals_form) sequence_form))) (identifier i) i identifier_peeks (head_is i (sees_is n.Head i h)) (λ n. tt)
      (λ name. bind_at W b (formal_exact W b (after i)) (λ inputs. bind_exact W b (formal_exact W b) (λ outputs. bind_exact W b (optional_locals_exact W b) (λ locals j. mapped W b (λ body. made name inputs outputs locals body) (stmts_exact W d e le wide j)))))) in
      record { pass = c.pass; same = c.same }

  methods_exact : Exact W b (processes.process_methods d) (processes.process_methods e) (each_form process_method_form)
  unfolding processes.process_methods
  methods_exact = each_exact b process_method_form (λ x. omega arith) (sees n.Head) (sees_peeks n.Head) W (processes.process_method d) (processes.process_method e) method_at

  methods_section_exact : Exact W b (processes.process_methods_section d) (processes.process_methods_section e) (section_form k.Methods (each_form process_method_form))
  unfolding processes.process_methods_section
  methods_section_exact = section_exact W b (processes.process_methods d) (processes.process_methods e) (each_form process_method_form) n.Methods k.Methods refl methods_exact

  process_class_exact : Exact W b (processes.process_class d) (processes.process_class e) process_class_form
  unfolding processes.process_class
  process_class_exact i = into W b (λ v. record { name = v.1.1.0; parameters = v.1.1.1.0; parent = v.1.1.1.1.0; ports = v.1.1.1.1.1.0; messages = v.1.1.1.1.1.1.0; variables = v.1.1.1.1.1.1.1.0; start = v.1.1.1.1.1.1.1.1.0; methods = v.1.1.1.1.1.1.1.1.1 }) (λ v. refl)
      (λ n lt v f. let s = optional_within IsStart start_nesting n lt v.1.1.1.1.1.1.1.1.0 f.1.1.1.1.1.1.1.1.0 in let m = written_within IsProcessMethod process_method_nesting n lt v.1.1.1.1.1.1.1.1.1 f.1.1.1.1.1.1.1.1.1 in ((f.1.1.1.0, f.1.1.1.1.1.1.1.0, s.0, m.0), omega (arith, s.1, m.1)))
      (bind_at W b (expect_exact W b n.Process (kind.Key k.Process) refl i) (λ u. bind_exact W b (expect_exact W b n.Class (kind.Key k.Class) refl) (λ v. bind_exact W b (word_exact W b) (λ name. bind_exact W b (optional_formal_exact W b) (λ parameters. bind_exact W b (parent_exact W b) (λ parent. bind_exact W b (ports_exact W b) (λ ports. bind_exact W b (messages_section_exact W b) (λ messages. bind_exact W b (variables_exact W b) (λ variables. bind_exact W b (start_section_exact W d e le wide) (λ start j. mapped W b (λ methods. record { name = name; parameters = parameters; parent = parent; ports = ports; messages = messages; variables = variables; start = start; methods = methods }) (methods_section_exact j)))))))))))

  decl_exact : Exact W b (spec.decl d) (spec.decl e) decl_form
  unfolding spec.decl
  decl_exact = dispatch W b (spec.decl_by d) (spec.decl_by e) decl_form at
    where
      at : (x : Next) (i : Tokens) → next i ≡ x → ExactAt W b (spec.decl_by d x) (spec.decl_by e x) decl_form i
      at n.Data i h = into W b (λ c. data_class c) (λ c. refl) (λ n lt c f. f) (mapped W b (λ c. data_class c) (data_class_exact W d e le wide i))
      at n.Process i h = into W b (λ c. process_class c) (λ c. refl) (λ n lt c f. f) (mapped W b (λ c. process_class c) (process_class_exact i))
      at n.Cluster i h = into W b (λ c. cluster_class c) (λ c. refl) (λ n lt c f. (f, lt)) (mapped W b (λ c. cluster_class c) (cluster_class_exact W b i))
      at n.System i h = into W b (λ c. system c) (λ c. refl) (λ n lt c f. (f, lt)) (mapped W b (λ c. system c) (system_exact W b i))
      at _ i h = refuse_exact W b decl_form i

  decls_exact : Exact W b (spec.decls d) (spec.decls e) (both decl_form (each_form decl_form))
  unfolding spec.decls spec.more_decls
  decls_exact i = bind_at W b (decl_exact i) (λ t. front_exact W b (t ∷ []) (each_of spec.begins_decl (spec.decl d)) (each_of spec.begins_decl (spec.decl e)) (each_form decl_form) (each_exact b decl_form decl_filled spec.begins_decl begins_peeks W (spec.decl d) (spec.decl e) (λ j h. decl_exact j)))

  -- What the rule of models passes begins the text of a model.
  pub model_exact : Exact W b (spec.model d) (spec.model e) model_form
  unfolding spec.model
  model_exact i = into W b (λ v. record { decls = v.0.0 ∷ v.0.1 }) (λ v. sym (append-nil (decl_text v.0.0 ++ each_text decl_text v.0.1))) (λ n lt v f. let r = each_within IsDecl decl_nesting n lt v.0.1 f.0.1 in ((tt, (f.0.0.0, r.0)), omega (arith, f.0.0.1, r.1)))
      (bind_at W b (decls_exact i) (λ ds j. mapped W b (λ u. record { decls = ds }) (end_exact W b j)))
