-- Where the rules of data classes, messages and sections stop.
use Rattle.std.proofs.Common.{◌≡◌, ℕ, suc, ◌≤◌, ◌<◌, Bool, true, false, List, [], ◌∷◌, Option, None, refl, sym, arith}
use Rattle.std.specs.Prelude.{⊤}
use Rattle.pz_syntax.specs.declared.tokens.Symbol.TheVariants as s
use Rattle.pz_syntax.specs.declared.tokens.Keyword.TheVariants as k
use Rattle.pz_syntax.specs.declared.tokens.TokenKind.TheVariants as kind
use Rattle.pz_syntax.specs.declared.names.Id.{Id}
use Rattle.pz_syntax.specs.declared.classes.VarGroup.{VarGroup}
use Rattle.pz_syntax.specs.declared.classes.Message.{Message}
use Rattle.pz_syntax.specs.Marks.{symbol, head, selector_head}
use Rattle.pz_syntax.specs.Classes.{DataMethodTree, DataClassTree, StartTree}
use Rattle.pz_syntax.specs.ExpressionView.{Tree, list_of as expressions}
use Rattle.pz_syntax.specs.Expressions.{none, more}
use Rattle.pz_syntax.specs.ClassText.{data_method_text, data_class_text, direction as direction_symbol, types_text, message_text, messages_text, start_text}
use Rattle.pz_syntax.specs.ModelForm.{IsDataMethod, IsDataClass, IsStart}
use Rattle.pz_syntax.specs.ModelNesting.{data_method_nesting, data_class_nesting, start_nesting}
use Rattle.pz_parser_cursor.specs.declared.ahead.Next.{Next}
use Rattle.pz_parser_cursor.specs.declared.ahead.Next.TheVariants as n
use Rattle.pz_parser_cursor.specs.devices.LookAhead.{next}
use Rattle.pz_parser_cursor.specs.devices.Input.{Tokens, after, identifier, name, sees, selects_head, spelled_init}
use Rattle.pz_parser_cursor.specs.devices.Device.{Parser, ◌>>=◌, pure, expect}
use Rattle.pz_parser_cursor.specs.devices.Lists.{list_of}
use Rattle.pz_parser_cursor.specs.devices.Names.{word, optional_formal, optional_locals}
use Rattle.pz_parser_cursor.proofs.Words.{head_is, selector_head_is}
use Rattle.pz_parser_cursor.proofs.Joined.{joined_is}
use Rattle.pz_parser_expressions.specs.declared.rule.Rule.TheVariants as rule
use Rattle.pz_parser_expressions.specs.devices.Values.{expr}
use Rattle.pz_parser_declarations.specs.devices.Sections as spec
use Rattle.pz_parser_declarations.specs.devices.DataClasses as classes
use Rattle.pz_parser_cursor.proofs.Stopping.{Form, token_form, both, ExactAt, Exact, into, bind_at, bind_exact, mapped, refuse_exact, Peeks, take_then, dispatch}
use Rattle.pz_parser_cursor.proofs.StoppingLists.{identifier_peeks, sees_peeks, some_id, name_form, word_form, optional_form, section_form, each_form, expect_exact, expect_id_exact, word_exact, skip_at, optional_exact, section_exact, or_none_exact, list_exact, each_exact, written_within}
use Rattle.pz_parser_cursor.proofs.StoppingNames.{variables_form, formal_form, locals_form, optional_names_exact, optional_variables_exact, optional_formal_exact, optional_locals_exact}
use Rattle.pz_parser_expressions.proofs.StoppingExpressions.{nil_tree, body_form, list_form}
use Rattle.pz_parser_expressions.proofs.StoppingValues.{body_exact, before_exact, expr_exact}

abbrev direction_form : Form
direction_form = record { Shape = Bool; text = λ x. symbol (direction_symbol x) ∷ []; Fits = λ n x. ⊤; some = λ n lt. (true, tt) }

abbrev types_form : Form
types_form = record { Shape = List Id; text = types_text; Fits = λ n x. ⊤; some = λ n lt. ([], tt) }

abbrev some_message : Message
some_message = record { port = some_id; out = true; name = some_id; types = None }

abbrev message_form : Form
message_form = record { Shape = Message; text = message_text; Fits = λ n x. ⊤; some = λ n lt. (some_message, tt) }

abbrev pub messages_form : Form
messages_form = record { Shape = List Message; text = messages_text; Fits = λ n x. ⊤; some = λ n lt. ([], tt) }

abbrev pub start_form : Form
start_form = record { Shape = StartTree; text = start_text; Fits = λ n c. IsStart c × (start_nesting c < n); some = λ n lt. (record { method = some_id; args = none }, (tt, lt)) }

abbrev data_method_form : Form
data_method_form = record {
  Shape = DataMethodTree;
  text = data_method_text;
  Fits = λ n m. IsDataMethod m × (data_method_nesting m < n);
  some = λ n lt. (record { name = some_id; inputs = None; result = some_id; locals = None; body = more nil_tree none }, ((tt, tt, (tt, tt)), omega (arith, lt)));
}

abbrev pub data_class_form : Form
data_class_form = record {
  Shape = DataClassTree;
  text = data_class_text;
  Fits = λ n c. IsDataClass c × (data_class_nesting c < n);
  some = λ n lt. (record { name = some_id; parent = None; variables = None; methods = None }, ((tt, tt), lt));
}

selects_head_peeks : Peeks selects_head
unfolding selects_head spelled_init next name
selects_head_peeks t u w = refl

module _ (W : Type 0) (b : ℕ) where
  pub parent_exact : Exact W b spec.parent_section spec.parent_section (section_form k.Extends word_form)
  unfolding spec.parent_section
  parent_exact = section_exact W b word word word_form n.Extends k.Extends refl (word_exact W b)

  pub variables_exact : Exact W b spec.variables_section spec.variables_section (section_form k.Variables variables_form)
  unfolding spec.variables_section
  variables_exact = section_exact W b _ _ variables_form n.Variables k.Variables refl (optional_variables_exact W b)

  -- ---- messages

  direction_exact : Exact W b spec.direction spec.direction direction_form
  unfolding spec.direction
  direction_exact = dispatch W b spec.direction_by spec.direction_by direction_form at
    where
      at : (x : Next) (i : Tokens) → next i ≡ x → ExactAt W b (spec.direction_by x) (spec.direction_by x) direction_form i
      at n.Bang i h = into W b (λ v. true) (λ v. refl) (λ n lt v f. tt) (mapped W b (λ u. true) (skip_at W b n.Bang (kind.Sym s.Bang) i refl h))
      at n.Query i h = into W b (λ v. false) (λ v. refl) (λ n lt v f. tt) (mapped W b (λ u. false) (skip_at W b n.Query (kind.Sym s.Query) i refl h))
      at _ i h = refuse_exact W b direction_form i

  types_exact : Exact W b spec.types spec.types types_form
  unfolding spec.types
  types_exact i = into W b (λ v. v.1.0) (λ v. refl) (λ n lt v f. tt) (bind_at W b (expect_exact W b n.LeftParen (kind.Sym s.LeftParen) refl i) (λ u. bind_exact W b (optional_names_exact W b) (λ xs j. mapped W b (λ v. xs) (expect_exact W b n.RightParen (kind.Sym s.RightParen) refl j))))

  optional_types_exact : Exact W b spec.optional_types spec.optional_types (optional_form types_form)
  unfolding spec.optional_types
  optional_types_exact = optional_exact W b spec.types spec.types types_form (sees n.LeftParen) (sees_peeks n.LeftParen) (λ i h. types_exact i)

  message_exact : Exact W b spec.message spec.message message_form
  unfolding spec.message
  message_exact i = into W b (λ v. record { port = v.0; out = v.1.0; name = v.1.1.0; types = v.1.1.1 }) (λ v. refl) (λ n lt v f. tt)
      (bind_at W b (word_exact W b i) (λ port. bind_exact W b direction_exact (λ out. bind_exact W b (word_exact W b) (λ name j. mapped W b (λ types. record { port = port; out = out; name = name; types = types }) (optional_types_exact j)))))

  messages_exact : Exact W b spec.messages spec.messages messages_form
  unfolding spec.messages
  messages_exact i = into W b (λ xs. xs) (λ xs. sym (joined_is message_text s.Comma xs)) (λ n lt x f. tt) (list_exact b message_form n.Comma (kind.Sym s.Comma) refl W spec.message spec.message message_exact i)

  optional_messages_exact : Exact W b spec.optional_messages spec.optional_messages messages_form
  unfolding spec.optional_messages
  optional_messages_exact = or_none_exact W b spec.messages spec.messages messages_form (sees n.Word) [] refl (λ n lt. tt) (sees_peeks n.Word) (λ i h. messages_exact i)

  pub messages_section_exact : Exact W b spec.messages_section spec.messages_section (section_form k.Messages messages_form)
  unfolding spec.messages_section
  messages_section_exact = section_exact W b spec.optional_messages spec.optional_messages messages_form n.Messages k.Messages refl optional_messages_exact

module _ (W : Type 0) (d e : ℕ) (le : d ≤ e) (wide : d < e → W) where
  abbrev b : ℕ
  b = suc d

  up : suc d ≤ suc e
  up = omega (arith, le)

  widen : suc d < suc e → W
  widen lt = wide (omega (arith, lt))

  -- ---- the call with which a process starts

  start_arguments_exact : Exact W b (spec.start_arguments d) (spec.start_arguments e) (list_form s.Comma)
  unfolding spec.start_arguments
  start_arguments_exact = before_exact W (suc d) (suc e) up widen (expr d) (expr e) (expr_exact W d e le wide) n.Comma n.RightParen s.Comma refl

  start_exact : Exact W b (spec.start d) (spec.start e) start_form
  unfolding spec.start
  start_exact i = into W b (λ v. record { method = v.0; args = v.1.1.0 }) (λ v. refl) (λ n lt v f. f.1.1.0)
      (bind_at W b (expect_id_exact W b n.Head head head_is i) (λ method. bind_exact W b (expect_exact W b n.LeftParen (kind.Sym s.LeftParen) refl) (λ u. bind_exact W b start_arguments_exact (λ args. bind_exact W b (expect_exact W b n.RightParen (kind.Sym s.RightParen) refl) (λ v. bind_exact W b (expect_exact W b n.LeftParen (kind.Sym s.LeftParen) refl) (λ w j. mapped W b (λ x. record { method = method; args = expressions args }) (expect_exact W b n.RightParen (kind.Sym s.RightParen) refl j)))))))

  pub start_section_exact : Exact W b (spec.start_section d) (spec.start_section e) (section_form k.Init start_form)
  unfolding spec.start_section
  start_section_exact = section_exact W b (spec.start d) (spec.start e) start_form n.Init k.Init refl start_exact

  -- ---- data classes

  data_method_at : (i : Tokens) → selects_head i ≡ true → ExactAt W b (classes.data_method d) (classes.data_method e) data_method_form i
  unfolding classes.data_method
  data_method_at i h =
      let made : Id → Option (List VarGroup) → Id → Option (List VarGroup) → List Tree → DataMethodTree = λ name inputs result locals body. record { name = name; inputs = inputs; result = result; locals = locals; body = expressions body } in
      let rest : (m : ℕ) → Id → Parser DataMethodTree = λ m name. optional_formal >>= (λ inputs. expect n.Colon >>= (λ u. word >>= (λ result. optional_locals >>= (λ locals. list_of (expr m rule.Expression) n.Semicolon >>= (λ body. pure (made name inputs result locals body)))))) in
      let c = into W b (λ v. record { name = v.0; inputs = v.1.0; result = v.1.1.1.0; locals = v.1.1.1.1.0; body = v.1.1.1.1.1 }) (λ v. refl) (λ n lt v f. ((f.1.0, f.1.1.1.1.0, f.1.1.1.1.1.0), f.1.1.1.1.1.1))
      (take_then W b identifier (rest d) (rest e) (name_form selector_head) (both (optional_form formal_form) (both (token_form (symbol s.Colon)) (both word_form (both (optional_form locals_form) (body_form s.Semicolon))))) (identifier i) i identifier_peeks (selector_head_is i h) (λ n. tt)
      (λ name. bind_at W b (optional_formal_exact W b (after i)) (λ inputs. bind_exact W b (expect_exact W b n.Colon (kind.Sym s.Colon) refl) (λ u. bind_exact W b (word_exact W b) (λ result. bind_exact W b (optional_locals_exact W b) (λ locals j. mapped W b (λ body. made name inputs result locals body) (body_exact W (suc d) (suc e) up widen (expr d) (expr e) (expr_exact W d e le wide) n.Semicolon s.Semicolon refl j))))))) in
      record { pass = c.pass; same = c.same }

  data_methods_exact : Exact W b (classes.data_methods d) (classes.data_methods e) (each_form data_method_form)
  unfolding classes.data_methods
  data_methods_exact = each_exact b data_method_form (λ x. omega arith) selects_head selects_head_peeks W (classes.data_method d) (classes.data_method e) data_method_at

  data_methods_section_exact : Exact W b (classes.data_methods_section d) (classes.data_methods_section e) (section_form k.Methods (each_form data_method_form))
  unfolding classes.data_methods_section
  data_methods_section_exact = section_exact W b (classes.data_methods d) (classes.data_methods e) (each_form data_method_form) n.Methods k.Methods refl data_methods_exact

  pub data_class_exact : Exact W b (classes.data_class d) (classes.data_class e) data_class_form
  unfolding classes.data_class
  data_class_exact i = into W b (λ v. record { name = v.1.1.0; parent = v.1.1.1.0; variables = v.1.1.1.1.0; methods = v.1.1.1.1.1 }) (λ v. refl)
      (λ n lt v f. let m = written_within IsDataMethod data_method_nesting n lt v.1.1.1.1.1 f.1.1.1.1.1 in ((f.1.1.1.1.0, m.0), m.1))
      (bind_at W b (expect_exact W b n.Data (kind.Key k.Data) refl i) (λ u. bind_exact W b (expect_exact W b n.Class (kind.Key k.Class) refl) (λ v. bind_exact W b (word_exact W b) (λ name. bind_exact W b (parent_exact W b) (λ parent. bind_exact W b (variables_exact W b) (λ variables j. mapped W b (λ methods. record { name = name; parent = parent; variables = variables; methods = methods }) (data_methods_section_exact j)))))))
