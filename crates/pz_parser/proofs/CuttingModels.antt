-- What may stand of a model, against the fronts of its text.
use Rattle.std.proofs.Common.{◌≡◌, ℕ, false, List, [], ◌∷◌, ◌++◌, Option, Some, None, refl, arith}
use Rattle.std.specs.Prelude.{⊤, max}
use Rattle.pz_syntax.specs.declared.tokens.Symbol.TheVariants as s
use Rattle.pz_syntax.specs.declared.tokens.Keyword.{Keyword}
use Rattle.pz_syntax.specs.declared.tokens.Keyword.TheVariants as k
use Rattle.pz_syntax.specs.declared.tokens.Mark.{Mark}
use Rattle.pz_syntax.specs.declared.names.Id.{Id}
use Rattle.pz_syntax.specs.declared.exprs.Literal.TheVariants as lit
use Rattle.pz_syntax.specs.Marks.{symbol, keyword, word, head, selector_head, each_text, optional, section, word_text, names_text}
use Rattle.pz_syntax.specs.Expressions.{Expressions, none, more, literal}
use Rattle.pz_syntax.specs.ExpressionErasure.{origin}
use Rattle.pz_syntax.specs.Statements.{Statements, skip, then, no_statements}
use Rattle.pz_syntax.specs.Classes.{DataMethodTree, DataClassTree, StartTree, ProcessMethodTree, ProcessClassTree, DeclTree, data_class, process_class, cluster_class, system, ModelTree}
use Rattle.pz_syntax.specs.ClassText.{formal_text, locals_text, variables_text, messages_text, start_text, data_method_text, data_class_text, process_method_text, process_class_text}
use Rattle.pz_syntax.specs.ModelText.{cluster_class_text, system_text, decl_text, text}
use Rattle.pz_syntax.specs.ModelNesting.{greatest, optional_nesting, data_method_nesting, data_class_nesting, start_nesting, process_method_nesting, process_class_nesting, decl_nesting, nesting}
use Rattle.pz_syntax.specs.ModelForm.{Each, IfWritten, IsDataMethod, IsDataClass, IsStart, IsProcessMethod, IsProcessClass, IsDecl, IsModel}
use Rattle.pz_parser.specs.CutParts.{Cuts, section_cut, each_cut}
use Rattle.pz_parser.specs.CutModels.{data_method_cut, data_class_cut, start_cut, process_method_cut, process_class_cut, decl_cut, cut}
use Rattle.pz_parser.proofs.Cutting.{Kind, marks, both, Cutting, Plain, cutting_marks, cutting_both, cutting_into}
use Rattle.pz_parser.proofs.WithoutSkip.{other_symbol, other_keyword, other_word, other_head, other_selector_head, mark_more, nothing_plain, word_plain, names_plain, optional_plain, section_plain, variables_plain, formal_plain, locals_plain, messages_plain, parameters_plain, ports_plain, cluster_class_plain, system_plain}
use Rattle.pz_parser.proofs.CuttingExpressions.{listed, body, behind_mark, lists, bodies}
use Rattle.pz_parser.proofs.CuttingStatements.{sequence, statements}

-- ---- marks in front of a part

behind_marks : (ms : List Mark) → Plain ms → (K : Kind) (x : K.Shape) → K.Is x → Cutting K x → Cutting (both (marks ms) K) (tt, x)
behind_marks ms plain K x is c = cutting_both (marks ms) K tt x tt is (cutting_marks ms plain) c

-- ---- lists and sections

abbrev each : Kind → Kind
each K = record { Shape = List K.Shape; text = each_text K.text; nesting = greatest K.nesting; Is = Each K.Is; cut = each_cut K.text K.nesting K.cut; some = []; some_is = tt; some_flat = omega arith }

abbrev sectioned : Keyword → Kind → Kind
sectioned x K = record { Shape = Option K.Shape; text = section x K.text; nesting = optional_nesting K.nesting; Is = IfWritten K.Is; cut = section_cut x K.cut; some = None; some_is = tt; some_flat = omega arith }

module _ (K : Kind) (c : (x : K.Shape) → K.Is x → Cutting K x) where
  each_cutting : (xs : List K.Shape) → Each K.Is xs → Cutting (each K) xs
  each_cutting [] is = cutting_into (marks []) (each K) (λ v. []) (λ v. refl) (λ v f. tt) (λ v. refl) (λ v limit p c. c) tt (λ limit p c. c) (cutting_marks [] nothing_plain)
  each_cutting (x ∷ xs) is = cutting_into (both K (each K)) (each K) (λ v. v.0 ∷ v.1) (λ v. refl) (λ v f. f) (λ v. refl) (λ v limit p c. c) (x, xs) (λ limit p c. c) (cutting_both K (each K) x xs is.0 is.1 (c x is.0) (each_cutting xs is.1))

  section_cutting : (x : Keyword) → (x ≡ k.Skip → ⊥) → (o : Option K.Shape) → IfWritten K.Is o → Cutting (sectioned x K) o
  section_cutting x other None is = cutting_into (marks []) (sectioned x K) (λ v. None) (λ v. refl) (λ v f. tt) (λ v. refl) (λ v limit p c. c) tt (λ limit p c. c) (cutting_marks [] nothing_plain)
  section_cutting x other (Some y) is = cutting_into (both (marks (keyword x ∷ [])) K) (sectioned x K) (λ v. Some v.1) (λ v. refl) (λ v f. f.1) (λ v. omega arith) (λ v limit p c. c) (tt, y) (λ limit p c. c) (behind_mark (keyword x) (other_keyword x other) K y is (c y is))

-- ---- data classes

abbrev some_id : Id
some_id = record { name = []; pos = origin }

abbrev data_method : Kind
data_method = record { Shape = DataMethodTree; text = data_method_text; nesting = data_method_nesting; Is = IsDataMethod; cut = data_method_cut; some = record { name = some_id; inputs = None; result = some_id; locals = None; body = more (literal origin lit.Nil) none }; some_is = (tt, tt, (tt, tt)); some_flat = omega arith }

data_method_cutting : (m : DataMethodTree) → IsDataMethod m → Cutting data_method m
data_method_cutting m is =
    let named = selector_head m.name ∷ [] in
    let inputs = optional formal_text m.inputs in
    let result = symbol s.Colon ∷ word m.result ∷ [] in
    let locals = optional locals_text m.locals in
    let K = body s.Semicolon in
    let d = both (marks locals) K in
    let e = both (marks result) d in
    let f = both (marks inputs) e in
    cutting_into (both (marks named) f) data_method (λ v. record { name = m.name; inputs = m.inputs; result = m.result; locals = m.locals; body = v.1.1.1.1 }) (λ v. refl) (λ v g. (is.0, is.1, g.1.1.1.1)) (λ v. omega arith) (λ v limit p c. c) (tt, (tt, (tt, (tt, m.body)))) (λ limit p c. c)
    (behind_marks named (mark_more (other_selector_head m.name) nothing_plain) f (tt, (tt, (tt, m.body))) (tt, (tt, (tt, is.2)))
    (behind_marks inputs (parameters_plain m.inputs) e (tt, (tt, m.body)) (tt, (tt, is.2))
    (behind_marks result (mark_more (other_symbol s.Colon) (word_plain m.result)) d (tt, m.body) (tt, is.2)
    (behind_marks locals (optional_plain locals_text locals_plain m.locals) K m.body is.2 (bodies s.Semicolon m.body is.2)))))

abbrev data_class_kind : Kind
data_class_kind = record { Shape = DataClassTree; text = data_class_text; nesting = data_class_nesting; Is = IsDataClass; cut = data_class_cut; some = record { name = some_id; parent = None; variables = None; methods = None }; some_is = (tt, tt); some_flat = omega arith }

data_class_cutting : (c : DataClassTree) → IsDataClass c → Cutting data_class_kind c
data_class_cutting c is =
    let named = keyword k.Data ∷ keyword k.Class ∷ word c.name ∷ [] in
    let parent = section k.Extends word_text c.parent in
    let variables = section k.Variables variables_text c.variables in
    let K = sectioned k.Methods (each data_method) in
    let d = both (marks variables) K in
    let e = both (marks parent) d in
    cutting_into (both (marks named) e) data_class_kind (λ v. record { name = c.name; parent = c.parent; variables = c.variables; methods = v.1.1.1 }) (λ v. refl) (λ v g. (is.0, g.1.1.1)) (λ v. omega arith) (λ v limit p c. c) (tt, (tt, (tt, c.methods))) (λ limit p c. c)
    (behind_marks named (mark_more (other_keyword k.Data (λ e. absurd cc)) (mark_more (other_keyword k.Class (λ e. absurd cc)) (word_plain c.name))) e (tt, (tt, c.methods)) (tt, (tt, is.1))
    (behind_marks parent (section_plain word_text word_plain k.Extends (other_keyword k.Extends (λ e. absurd cc)) c.parent) d (tt, c.methods) (tt, is.1)
    (behind_marks variables (section_plain variables_text variables_plain k.Variables (other_keyword k.Variables (λ e. absurd cc)) c.variables) K c.methods is.1
    (section_cutting (each data_method) (each_cutting data_method data_method_cutting) k.Methods (λ e. absurd cc) c.methods is.1))))

-- ---- process classes

abbrev start : Kind
start = record { Shape = StartTree; text = start_text; nesting = start_nesting; Is = IsStart; cut = start_cut; some = record { method = some_id; args = none }; some_is = tt; some_flat = omega arith }

start_cutting : (c : StartTree) → IsStart c → Cutting start c
start_cutting c is =
    let named = head c.method ∷ symbol s.LeftParen ∷ [] in
    let closing = symbol s.RightParen ∷ symbol s.LeftParen ∷ symbol s.RightParen ∷ [] in
    let K = listed s.Comma in
    let d = both K (marks closing) in
    cutting_into (both (marks named) d) start (λ v. record { method = c.method; args = v.1.0 }) (λ v. refl) (λ v g. g.1.0) (λ v. omega arith) (λ v limit p c. c) (tt, (c.args, tt)) (λ limit p c. c)
    (behind_marks named (mark_more (other_head c.method) (mark_more (other_symbol s.LeftParen) nothing_plain)) d (c.args, tt) (is, tt)
    (cutting_both K (marks closing) c.args tt is tt (lists s.Comma c.args is) (cutting_marks closing (mark_more (other_symbol s.RightParen) (mark_more (other_symbol s.LeftParen) (mark_more (other_symbol s.RightParen) nothing_plain))))))

abbrev process_method : Kind
process_method = record { Shape = ProcessMethodTree; text = process_method_text; nesting = process_method_nesting; Is = IsProcessMethod; cut = process_method_cut; some = record { name = some_id; inputs = []; outputs = []; locals = None; body = then (skip origin) no_statements }; some_is = (tt, tt, tt, (tt, tt)); some_flat = omega arith }

process_method_cutting : (m : ProcessMethodTree) → IsProcessMethod m → Cutting process_method m
process_method_cutting m is =
    let named = head m.name ∷ [] in
    let inputs = formal_text m.inputs in
    let outputs = formal_text m.outputs in
    let locals = optional locals_text m.locals in
    let d = both (marks locals) sequence in
    let e = both (marks outputs) d in
    let f = both (marks inputs) e in
    cutting_into (both (marks named) f) process_method (λ v. record { name = m.name; inputs = m.inputs; outputs = m.outputs; locals = m.locals; body = v.1.1.1.1 }) (λ v. refl) (λ v g. (is.0, is.1, is.2, g.1.1.1.1)) (λ v. omega arith) (λ v limit p c. c) (tt, (tt, (tt, (tt, m.body)))) (λ limit p c. c)
    (behind_marks named (mark_more (other_head m.name) nothing_plain) f (tt, (tt, (tt, m.body))) (tt, (tt, (tt, is.3)))
    (behind_marks inputs (formal_plain m.inputs) e (tt, (tt, m.body)) (tt, (tt, is.3))
    (behind_marks outputs (formal_plain m.outputs) d (tt, m.body) (tt, is.3)
    (behind_marks locals (optional_plain locals_text locals_plain m.locals) sequence m.body is.3 (statements m.body is.3)))))

abbrev process_class_kind : Kind
process_class_kind = record { Shape = ProcessClassTree; text = process_class_text; nesting = process_class_nesting; Is = IsProcessClass; cut = process_class_cut; some = record { name = some_id; parameters = None; parent = None; ports = None; messages = None; variables = None; start = None; methods = None }; some_is = (tt, tt, tt, tt); some_flat = omega arith }

process_class_cutting : (c : ProcessClassTree) → IsProcessClass c → Cutting process_class_kind c
process_class_cutting c is =
    let named = keyword k.Process ∷ keyword k.Class ∷ word c.name ∷ [] in
    let parameters = optional formal_text c.parameters in
    let parent = section k.Extends word_text c.parent in
    let ports = section k.Ports names_text c.ports in
    let messages = section k.Messages messages_text c.messages in
    let variables = section k.Variables variables_text c.variables in
    let S = sectioned k.Init start in
    let M = sectioned k.Methods (each process_method) in
    let d = both S M in
    let e = both (marks variables) d in
    let f = both (marks messages) e in
    let g = both (marks ports) f in
    let h = both (marks parent) g in
    let i = both (marks parameters) h in
    cutting_into (both (marks named) i) process_class_kind (λ v. record { name = c.name; parameters = c.parameters; parent = c.parent; ports = c.ports; messages = c.messages; variables = c.variables; start = v.1.1.1.1.1.1.0; methods = v.1.1.1.1.1.1.1 }) (λ v. refl) (λ v u. (is.0, is.1, u.1.1.1.1.1.1.0, u.1.1.1.1.1.1.1)) (λ v. omega arith) (λ v limit p c. c) (tt, (tt, (tt, (tt, (tt, (tt, (c.start, c.methods))))))) (λ limit p c. c)
    (behind_marks named (mark_more (other_keyword k.Process (λ e. absurd cc)) (mark_more (other_keyword k.Class (λ e. absurd cc)) (word_plain c.name))) i (tt, (tt, (tt, (tt, (tt, (c.start, c.methods)))))) (tt, (tt, (tt, (tt, (tt, (is.2, is.3))))))
    (behind_marks parameters (parameters_plain c.parameters) h (tt, (tt, (tt, (tt, (c.start, c.methods))))) (tt, (tt, (tt, (tt, (is.2, is.3)))))
    (behind_marks parent (section_plain word_text word_plain k.Extends (other_keyword k.Extends (λ e. absurd cc)) c.parent) g (tt, (tt, (tt, (c.start, c.methods)))) (tt, (tt, (tt, (is.2, is.3))))
    (behind_marks ports (ports_plain c.ports) f (tt, (tt, (c.start, c.methods))) (tt, (tt, (is.2, is.3)))
    (behind_marks messages (section_plain messages_text messages_plain k.Messages (other_keyword k.Messages (λ e. absurd cc)) c.messages) e (tt, (c.start, c.methods)) (tt, (is.2, is.3))
    (behind_marks variables (section_plain variables_text variables_plain k.Variables (other_keyword k.Variables (λ e. absurd cc)) c.variables) d (c.start, c.methods) (is.2, is.3)
    (cutting_both S M c.start c.methods is.2 is.3 (section_cutting start start_cutting k.Init (λ e. absurd cc) c.start is.2) (section_cutting (each process_method) (each_cutting process_method process_method_cutting) k.Methods (λ e. absurd cc) c.methods is.3))))))))

-- ---- models

abbrev bare_system : DeclTree
bare_system = system (record { pos = origin; instances = None; channels = None })

abbrev decl : Kind
decl = record { Shape = DeclTree; text = decl_text; nesting = decl_nesting; Is = IsDecl; cut = decl_cut; some = bare_system; some_is = tt; some_flat = omega arith }

decl_cutting : (t : DeclTree) → IsDecl t → Cutting decl t
decl_cutting (data_class c) is = cutting_into data_class_kind decl (λ v. data_class v) (λ v. refl) (λ v f. f) (λ v. refl) (λ v limit p c. c) c (λ limit p c. c) (data_class_cutting c is)
decl_cutting (process_class c) is = cutting_into process_class_kind decl (λ v. process_class v) (λ v. refl) (λ v f. f) (λ v. refl) (λ v limit p c. c) c (λ limit p c. c) (process_class_cutting c is)
decl_cutting (cluster_class c) is = cutting_into (marks (cluster_class_text c)) decl (λ v. cluster_class c) (λ v. refl) (λ v f. is) (λ v. refl) (λ v limit p c. c) tt (λ limit p c. c) (cutting_marks (cluster_class_text c) (cluster_class_plain c))
decl_cutting (system d) is = cutting_into (marks (system_text d)) decl (λ v. system d) (λ v. refl) (λ v f. is) (λ v. refl) (λ v limit p c. c) tt (λ limit p c. c) (cutting_marks (system_text d) (system_plain d))

abbrev pub model : Kind
model = record { Shape = ModelTree; text = text; nesting = nesting; Is = IsModel; cut = cut; some = record { decls = bare_system ∷ [] }; some_is = (tt, (tt, tt)); some_flat = omega arith }

decls_cutting : (ts : List DeclTree) → IsModel (record { decls = ts }) → Cutting model (record { decls = ts })
decls_cutting [] is = absurd is.0
decls_cutting (t ∷ ts) is = cutting_into (both decl (each decl)) model (λ v. record { decls = v.0 ∷ v.1 }) (λ v. refl) (λ v f. (tt, f)) (λ v. refl) (λ v limit p c. c) (t, ts) (λ limit p c. c) (cutting_both decl (each decl) t ts is.1.0 is.1.1 (decl_cutting t is.1.0) (each_cutting decl decl_cutting ts is.1.1))

pub model_cutting : (m : ModelTree) → IsModel m → Cutting model m
model_cutting m is = decls_cutting m.decls is
