-- The text of a model of the grammar has its heads.
use Rattle.std.proofs.Common.{◌≡◌, Bool, true, false, List, [], ◌∷◌, ◌++◌, Option, Some, None, refl}
use Rattle.std.specs.Prelude.{⊤}
use Rattle.pz_syntax.specs.declared.tokens.Symbol.TheVariants as s
use Rattle.pz_syntax.specs.declared.tokens.Keyword.TheVariants as k
use Rattle.pz_syntax.specs.declared.tokens.TokenKind.TheVariants as kind
use Rattle.pz_syntax.specs.declared.tokens.Mark.{Mark}
use Rattle.pz_syntax.specs.declared.names.Id.{Id}
use Rattle.pz_syntax.specs.declared.classes.VarGroup.{VarGroup}
use Rattle.pz_syntax.specs.declared.classes.Message.{Message}
use Rattle.pz_syntax.specs.declared.clusters.Arg.{Arg}
use Rattle.pz_syntax.specs.declared.clusters.Arg.TheVariants.{Plain, Negated, Parameter}
use Rattle.pz_syntax.specs.declared.clusters.Given.{Given}
use Rattle.pz_syntax.specs.declared.clusters.Instance.{Instance}
use Rattle.pz_syntax.specs.declared.clusters.ChannelEnd.{ChannelEnd}
use Rattle.pz_syntax.specs.declared.clusters.ChannelEnd.TheVariants.{Inner, Outer}
use Rattle.pz_syntax.specs.declared.clusters.Channel.{Channel}
use Rattle.pz_syntax.specs.declared.clusters.ClusterClass.{ClusterClass}
use Rattle.pz_syntax.specs.declared.clusters.SystemDecl.{SystemDecl}
use Rattle.pz_syntax.specs.Marks.{mark, symbol, keyword, word, head, selector_head, each_text, optional, section, word_text, names_text}
use Rattle.pz_syntax.specs.Heads.{name, other, role}
use Rattle.pz_syntax.specs.ExpressionText.{literal_kind}
use Rattle.pz_syntax.specs.Classes.{DataMethodTree, DataClassTree, StartTree, ProcessMethodTree, ProcessClassTree, DeclTree, data_class, process_class, cluster_class, system}
use Rattle.pz_syntax.specs.ClassText.{group_names_from, group_text, variables_text, formal_text, locals_text, data_method_text, data_class_text, direction, types_text, message_text, messages_text, start_text, process_method_text, process_class_text}
use Rattle.pz_syntax.specs.ModelText.{arg_text, given_text, givens_text, instance_text, end_text, channel_text, cluster_class_text, system_text, decl_text, text}
use Rattle.pz_syntax.specs.ModelForm.{Each, IfWritten, IsDataMethod, IsDataClass, IsStart, IsProcessMethod, IsProcessClass, IsDecl}
use Rattle.pz_ast.specs.HeadsLaw.{TextHasItsHeads}
use Rattle.pz_ast.proofs.Marked.{Marked, Quiet, Starts, no_marks, no_start, starts_quiet, plain, named, headed, start, joined, closed_joined, joined_quiet, joined_start, closed_marked, barred, bracketed, bracketed_quiet, bracketed_makes, bracketed_then, group_makes, colon_then, colon_makes, separated_marked, each_marked, section_marked, section_start, whole}
use Rattle.pz_ast.proofs.ExpressionHeads.{bare_word, selector_role, literal_role, list_marked, body_marked, body_quiet}
use Rattle.pz_ast.proofs.StatementHeads.{names_marked, statements_marked}

anything : {A : Type 0} (x : Option A) → IfWritten (λ _. ⊤) x
anything None = tt
anything (Some x) = tt

all_hold : {A : Type 0} (xs : List A) → Each (λ _. ⊤) xs
all_hold [] = tt
all_hold (x ∷ xs) = (tt, all_hold xs)

-- names before a colon
names_then : (x : Id) (xs : List Id) {rest : List Mark} → Marked rest → Marked (group_names_from x xs ++ symbol s.Colon ∷ rest)
names_then x [] m = headed (head x) refl refl colon_makes (colon_then m)
names_then x (y ∷ ys) m = named (word x) refl refl (starts_quiet (start (symbol s.Comma) other refl (λ rest. refl))) (plain (symbol s.Comma) refl refl (names_then y ys m))

group_marked : (names : List Id) (class : Id) → Marked (group_text (record { names = names; kind = class }))
group_marked [] class = colon_then (bare_word class)
group_marked (x ∷ xs) class = names_then x xs (bare_word class)

variables_marked : (groups : List VarGroup) → Marked (variables_text groups)
variables_marked groups = separated_marked group_text s.Comma refl (λ g. group_marked g.names g.kind) groups

locals_then : (locals : Option (List VarGroup)) {rest : List Mark} → Marked rest → Marked (optional locals_text locals ++ rest)
locals_then None m = m
locals_then (Some groups) m = closed_joined (barred (variables_marked groups)) m

locals_quiet : (locals : Option (List VarGroup)) {rest : List Mark} → Quiet rest → Quiet (optional locals_text locals ++ rest)
locals_quiet None q = q
locals_quiet (Some groups) q = starts_quiet (start (symbol s.Bar) other refl (λ rest. refl))

formal_marked : (groups : Option (List VarGroup)) → Marked (optional formal_text groups)
formal_marked None = no_marks
formal_marked (Some groups) = closed_marked (bracketed (variables_marked groups))

formal_quiet : (groups : Option (List VarGroup)) → Quiet (optional formal_text groups)
formal_quiet None = starts_quiet no_start
formal_quiet (Some groups) = bracketed_quiet (variables_marked groups)

-- ---- data classes

-- a name with its inputs before a colon
inputs_then : (x : Mark) (inputs : Option (List VarGroup)) {rest : List Mark} → role x.kind ≡ name → x.head ≡ true → Marked rest → Marked (x ∷ (optional formal_text inputs ++ symbol s.Colon ∷ rest))
inputs_then x None r h m = headed x r h colon_makes (colon_then m)
inputs_then x (Some groups) {rest} r h m = headed x r h (group_makes (symbol s.Colon) rest (variables_marked groups) (λ more. refl)) (closed_joined (bracketed (variables_marked groups)) (colon_then m))

data_method_marked : (m : DataMethodTree) → IsDataMethod m → Marked (data_method_text m)
data_method_marked m h =
    inputs_then (selector_head m.name) m.inputs (selector_role m.name) refl
    (named (word m.result) refl refl (locals_quiet m.locals (body_quiet m.body h.2)) (locals_then m.locals (body_marked m.body h.2)))

data_method_start : (m : DataMethodTree) → Starts (data_method_text m)
data_method_start m = start (selector_head m.name) name (selector_role m.name) (λ rest. refl)

variables_section : (variables : Option (List VarGroup)) → Marked (section k.Variables variables_text variables)
variables_section variables = section_marked k.Variables refl (λ _. ⊤) variables_text (λ groups _. variables_marked groups) variables (anything variables)

parent_section : (parent : Option Id) → Marked (section k.Extends word_text parent)
parent_section parent = section_marked k.Extends refl (λ _. ⊤) word_text (λ x _. bare_word x) parent (anything parent)

data_class_marked : (c : DataClassTree) → IsDataClass c → Marked (data_class_text c)
data_class_marked c h =
    let methods = section_marked k.Methods refl (Each IsDataMethod) (each_text data_method_text) (λ ms. each_marked IsDataMethod data_method_text data_method_marked data_method_start ms) c.methods h.1 in
    let methods_start = section_start k.Methods other refl (λ rest. refl) (each_text data_method_text) c.methods in
    let variables_start = joined_start (section_start k.Variables other refl (λ rest. refl) variables_text c.variables) methods_start in
    plain (keyword k.Data) refl refl (plain (keyword k.Class) refl refl (named (word c.name) refl refl
    (starts_quiet (joined_start (section_start k.Extends other refl (λ rest. refl) word_text c.parent) variables_start))
    (joined (parent_section c.parent) (joined (variables_section c.variables) methods methods_start) variables_start)))

-- ---- process classes

message_types_marked : (types : Option (List Id)) → Marked (optional types_text types)
message_types_marked None = no_marks
message_types_marked (Some types) = closed_marked (bracketed (names_marked types))

message_types_quiet : (types : Option (List Id)) → Quiet (optional types_text types)
message_types_quiet None = starts_quiet no_start
message_types_quiet (Some types) = bracketed_quiet (names_marked types)

direction_role : (out : Bool) → role (kind.Sym (direction out)) ≡ other
direction_role true = refl
direction_role false = refl

message_marked : (m : Message) → Marked (message_text m)
message_marked m =
    named (word m.port) refl refl (starts_quiet (start (symbol (direction m.out)) other (direction_role m.out) (λ rest. refl)))
    (plain (symbol (direction m.out)) (direction_role m.out) refl (named (word m.name) refl refl (message_types_quiet m.types) (message_types_marked m.types)))

start_marked : (c : StartTree) → IsStart c → Marked (start_text c)
start_marked c h =
    headed (head c.method) refl refl (bracketed_makes (symbol s.LeftParen) (symbol s.RightParen ∷ []) (list_marked s.Comma refl c.args h) (λ more. refl))
    (bracketed_then (list_marked s.Comma refl c.args h) (bracketed_then no_marks no_marks))

start_section : (c : Option StartTree) → IfWritten IsStart c → Marked (section k.Init start_text c)
start_section None h = no_marks
start_section (Some c) h = named (keyword k.Init) refl refl (starts_quiet (start (head c.method) name refl (λ rest. refl))) (start_marked c h)

process_method_marked : (m : ProcessMethodTree) → IsProcessMethod m → Marked (process_method_text m)
process_method_marked m h =
    headed (head m.name) refl refl (group_makes (symbol s.LeftParen) _ (variables_marked m.inputs) (λ more. refl))
    (closed_joined (bracketed (variables_marked m.inputs)) (closed_joined (bracketed (variables_marked m.outputs)) (locals_then m.locals (statements_marked m.body h.3))))

process_method_start : (m : ProcessMethodTree) → Starts (process_method_text m)
process_method_start m = start (head m.name) name refl (λ rest. refl)

ports_section : (ports : Option (List Id)) → Marked (section k.Ports names_text ports)
ports_section ports = section_marked k.Ports refl (λ _. ⊤) names_text (λ names _. names_marked names) ports (anything ports)

messages_section : (messages : Option (List Message)) → Marked (section k.Messages messages_text messages)
messages_section messages = section_marked k.Messages refl (λ _. ⊤) messages_text (λ ms _. separated_marked message_text s.Comma refl message_marked ms) messages (anything messages)

process_class_marked : (c : ProcessClassTree) → IsProcessClass c → Marked (process_class_text c)
process_class_marked c h =
    let methods = section_marked k.Methods refl (Each IsProcessMethod) (each_text process_method_text) (λ ms. each_marked IsProcessMethod process_method_text process_method_marked process_method_start ms) c.methods h.3 in
    let methods_start = section_start k.Methods other refl (λ rest. refl) (each_text process_method_text) c.methods in
    let init_start = joined_start (section_start k.Init name refl (λ rest. refl) start_text c.start) methods_start in
    let variables_start = joined_start (section_start k.Variables other refl (λ rest. refl) variables_text c.variables) init_start in
    let messages_start = joined_start (section_start k.Messages other refl (λ rest. refl) messages_text c.messages) variables_start in
    let ports_start = joined_start (section_start k.Ports other refl (λ rest. refl) names_text c.ports) messages_start in
    let parent_start = joined_start (section_start k.Extends other refl (λ rest. refl) word_text c.parent) ports_start in
    plain (keyword k.Process) refl refl (plain (keyword k.Class) refl refl (named (word c.name) refl refl (joined_quiet (formal_quiet c.parameters) parent_start)
    (joined (formal_marked c.parameters) (joined (parent_section c.parent) (joined (ports_section c.ports) (joined (messages_section c.messages) (joined (variables_section c.variables) (joined (start_section c.start h.2) methods methods_start) init_start) variables_start) messages_start) ports_start) parent_start)))

-- ---- clusters and the system

arg_marked : (x : Arg) → Marked (arg_text x)
arg_marked (Plain x pos) = plain (mark (literal_kind x)) (literal_role x) refl no_marks
arg_marked (Negated n pos) = plain (symbol s.Minus) refl refl (plain (mark (kind.Int n)) refl refl no_marks)
arg_marked (Parameter x) = bare_word x

given_marked : (g : Given) → Marked (given_text g)
given_marked g = named (word g.name) refl refl (starts_quiet (start (symbol s.Assign) other refl (λ rest. refl))) (plain (symbol s.Assign) refl refl (arg_marked g.arg))

givens_marked : (given : Option (List Given)) → Marked (optional givens_text given)
givens_marked None = no_marks
givens_marked (Some given) = closed_marked (bracketed (separated_marked given_text s.Comma refl given_marked given))

givens_quiet : (given : Option (List Given)) → Quiet (optional givens_text given)
givens_quiet None = starts_quiet no_start
givens_quiet (Some given) = bracketed_quiet (separated_marked given_text s.Comma refl given_marked given)

instance_marked : (i : Instance) → Marked (instance_text i)
instance_marked i = headed (head i.name) refl refl colon_makes (colon_then (named (word i.class) refl refl (givens_quiet i.given) (givens_marked i.given)))

instance_start : (i : Instance) → Starts (instance_text i)
instance_start i = start (head i.name) name refl (λ rest. refl)

end_marked : (x : ChannelEnd) → Marked (end_text x)
end_marked (Inner part port) = named (word part) refl refl (starts_quiet (start (symbol s.Dot) other refl (λ rest. refl))) (plain (symbol s.Dot) refl refl (bare_word port))
end_marked (Outer port) = bare_word port

channel_marked : (c : Channel) → Marked (channel_text c)
channel_marked c = plain (symbol s.LeftBrace) refl refl (joined (separated_marked end_text s.Comma refl end_marked c.ends) (plain (symbol s.RightBrace) refl refl no_marks) (start (symbol s.RightBrace) other refl (λ rest. refl)))

channel_start : (c : Channel) → Starts (channel_text c)
channel_start c = start (symbol s.LeftBrace) other refl (λ rest. refl)

instances_section : (instances : Option (List Instance)) → Marked (section k.Instances (each_text instance_text) instances)
instances_section instances = section_marked k.Instances refl (λ _. ⊤) (each_text instance_text) (λ is _. each_marked (λ _. ⊤) instance_text (λ i _. instance_marked i) instance_start is (all_hold is)) instances (anything instances)

channels_section : (channels : Option (List Channel)) → Marked (section k.Channels (each_text channel_text) channels)
channels_section channels = section_marked k.Channels refl (λ _. ⊤) (each_text channel_text) (λ cs _. each_marked (λ _. ⊤) channel_text (λ c _. channel_marked c) channel_start cs (all_hold cs)) channels (anything channels)

cluster_class_marked : (c : ClusterClass) → Marked (cluster_class_text c)
cluster_class_marked c =
    let channels_start = section_start k.Channels other refl (λ rest. refl) (each_text channel_text) c.channels in
    let instances_start = joined_start (section_start k.Instances other refl (λ rest. refl) (each_text instance_text) c.instances) channels_start in
    let ports_start = joined_start (section_start k.Ports other refl (λ rest. refl) names_text c.ports) instances_start in
    plain (keyword k.Cluster) refl refl (plain (keyword k.Class) refl refl (named (word c.name) refl refl (joined_quiet (formal_quiet c.parameters) ports_start)
    (joined (formal_marked c.parameters) (joined (ports_section c.ports) (joined (instances_section c.instances) (channels_section c.channels) channels_start) instances_start) ports_start)))

system_marked : (d : SystemDecl) → Marked (system_text d)
system_marked d = plain (keyword k.System) refl refl (joined (instances_section d.instances) (channels_section d.channels) (section_start k.Channels other refl (λ rest. refl) (each_text channel_text) d.channels))

-- ---- models

decl_marked : (d : DeclTree) → IsDecl d → Marked (decl_text d)
decl_marked (data_class c) h = data_class_marked c h
decl_marked (process_class c) h = process_class_marked c h
decl_marked (cluster_class c) h = cluster_class_marked c
decl_marked (system d) h = system_marked d

decl_start : (d : DeclTree) → Starts (decl_text d)
decl_start (data_class c) = start (keyword k.Data) other refl (λ rest. refl)
decl_start (process_class c) = start (keyword k.Process) other refl (λ rest. refl)
decl_start (cluster_class c) = start (keyword k.Cluster) other refl (λ rest. refl)
decl_start (system d) = start (keyword k.System) other refl (λ rest. refl)

pub text_has_its_heads : TextHasItsHeads
text_has_its_heads m h = whole (text m) (each_marked IsDecl decl_text decl_marked decl_start m.decls h.1)
