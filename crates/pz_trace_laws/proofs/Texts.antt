-- The names in a text without LF in its identifiers.
use Rattle.std.proofs.Common.{List, [], ◌∷◌, ◌++◌, Option, Some, None, refl}
use Rattle.std.specs.Option.{unwrap_or}
use Rattle.pz_trace.specs.pz_syntax.declared.tokens.Symbol.{Symbol}
use Rattle.pz_trace.specs.pz_syntax.declared.tokens.Symbol.TheVariants as s
use Rattle.pz_trace.specs.pz_syntax.declared.tokens.Keyword.{Keyword}
use Rattle.pz_trace.specs.pz_syntax.declared.tokens.Keyword.TheVariants as k
use Rattle.pz_trace.specs.pz_syntax.declared.tokens.Mark.{Mark}
use Rattle.pz_trace.specs.pz_syntax.declared.names.Id.{Id}
use Rattle.pz_trace.specs.pz_syntax.declared.classes.Message.{Message}
use Rattle.pz_trace.specs.pz_syntax.declared.clusters.Instance.{Instance}
use Rattle.pz_trace.specs.pz_syntax.declared.clusters.ClusterClass.{ClusterClass}
use Rattle.pz_trace.specs.pz_syntax.declared.clusters.SystemDecl.{SystemDecl}
use Rattle.pz_trace.specs.pz_syntax.Marks.{symbol, keyword, each_text, tail_separated, separated, optional, section, word_text, names_text}
use Rattle.pz_trace.specs.pz_syntax.ExpressionText as expression
use Rattle.pz_trace.specs.pz_syntax.Statements.{Statement, skip, delay, bracketed, block, guarded, parallel, select, conditional, repeated, abort, interrupt, send, receive, call, assignment, value, Statements, no_statements, then, StatementPart, not_written, otherwise, Branches, no_branches, branch}
use Rattle.pz_trace.specs.pz_syntax.StatementText as statement
use Rattle.pz_trace.specs.pz_syntax.ClassText.{formal_text, locals_text, variables_text, message_text, messages_text, start_text, process_method_text}
use Rattle.pz_trace.specs.pz_syntax.ModelText.{instance_text, channel_text, decl_text}
use Rattle.pz_trace.specs.pz_syntax.Classes.{ProcessMethodTree, ProcessClassTree, DeclTree, data_class, process_class, cluster_class, system}
use Rattle.pz_trace.specs.pz_syntax.ModelForm.{Each, IfWritten}
use Rattle.pz_trace.specs.pz_classes_rules.Numbers.{spelling}
use Rattle.pz_trace.specs.pz_classes_rules.Instances.{instances}
use Rattle.pz_trace.specs.Laws.{Unbroken}
use Rattle.pz_trace_laws.specs.Messages.{IsUnbroken, StatementUnbroken, StatementsUnbroken, OtherwiseUnbroken, BranchesUnbroken, MessageUnbroken, MethodUnbroken, DeclUnbroken}
use Rattle.pz_trace_laws.proofs.Lists as lists
use Rattle.pz_trace_laws.proofs.Spelled.{MarkUnbroken}

abbrev pub Whole : List Mark → Type 0
Whole = Each MarkUnbroken

front : (xs ys : List Mark) → Whole (xs ++ ys) → Whole xs
front xs ys h = lists.front MarkUnbroken xs ys h

behind : (xs ys : List Mark) → Whole (xs ++ ys) → Whole ys
behind xs ys h = lists.behind MarkUnbroken xs ys h

-- lists and what may be left out
module _ {A : Type 0} (text_of : A → List Mark) (P : A → Type 0) (one : (x : A) → Whole (text_of x) → P x) where
  pub in_each : (xs : List A) → Whole (each_text text_of xs) → Each P xs
  in_each [] h = tt
  in_each (x ∷ xs) h = (one x (front (text_of x) (each_text text_of xs) h), in_each xs (behind (text_of x) (each_text text_of xs) h))

  in_tail : (separator : Symbol) (xs : List A) → Whole (tail_separated text_of separator xs) → Each P xs
  in_tail separator [] h = tt
  in_tail separator (x ∷ xs) h = (one x (front (text_of x) (tail_separated text_of separator xs) h.1), in_tail separator xs (behind (text_of x) (tail_separated text_of separator xs) h.1))

  in_separated : (separator : Symbol) (xs : List A) → Whole (separated text_of separator xs) → Each P xs
  in_separated separator [] h = tt
  in_separated separator (x ∷ xs) h = (one x (front (text_of x) (tail_separated text_of separator xs) h), in_tail separator xs (behind (text_of x) (tail_separated text_of separator xs) h))

  in_section : (x : Keyword) (o : Option A) → Whole (section x text_of o) → IfWritten P o
  in_section x None h = tt
  in_section x (Some content) h = one content h.1

-- statements

mutual
  said : (t : Statement Id Id Id) → Whole (statement.text t) → StatementUnbroken t
  said (skip pos) h = tt
  said (delay pos e) h = tt
  said (bracketed pos ts) h = all_said ts (front (statement.texts ts) (symbol s.RightParen ∷ []) h.1)
  said (block pos es) h = tt
  said (guarded pos e t) h = said t (behind (expression.text e) (symbol s.RightBracket ∷ statement.text t) h.1).1
  said (parallel pos bs) h = branches_said k.And bs (front (statement.branches_text k.And bs) (keyword k.Rap ∷ []) h.1)
  said (select pos bs) h = branches_said k.Or bs (front (statement.branches_text k.Or bs) (keyword k.Les ∷ []) h.1)
  said (conditional pos e body other) h =
      let last = statement.otherwise_text other ++ keyword k.Fi ∷ [] in
      let inner : Whole (statement.texts body ++ last) = (behind (expression.text e) (keyword k.Then ∷ (statement.texts body ++ last)) h.1).1 in
      (all_said body (front (statement.texts body) last inner), other_said other (front (statement.otherwise_text other) (keyword k.Fi ∷ []) (behind (statement.texts body) last inner)))
  said (repeated pos e body) h = all_said body (front (statement.texts body) (keyword k.Od ∷ []) (behind (expression.text e) (keyword k.Do ∷ (statement.texts body ++ keyword k.Od ∷ [])) h.1).1)
  said (abort pos ts t) h = (all_said ts (front (statement.texts ts) (keyword k.With ∷ statement.text t) h.1), said t (behind (statement.texts ts) (keyword k.With ∷ statement.text t) h.1).1)
  said (interrupt pos ts t) h = (all_said ts (front (statement.texts ts) (keyword k.With ∷ statement.text t) h.1), said t (behind (statement.texts ts) (keyword k.With ∷ statement.text t) h.1).1)
  said (send pos port message args after) h = h.1.1.0
  said (receive pos port message into condition after) h = h.1.1.0
  said (call pos method args results) h = tt
  said (assignment pos x e) h = tt
  said (value pos e) h = tt

  all_said : (ts : Statements Id Id Id) → Whole (statement.texts ts) → StatementsUnbroken ts
  all_said no_statements h = tt
  all_said ((then) t ts) h = (said t (front (statement.text t) (statement.tail_texts ts) h), tail_said ts (behind (statement.text t) (statement.tail_texts ts) h))

  tail_said : (ts : Statements Id Id Id) → Whole (statement.tail_texts ts) → StatementsUnbroken ts
  tail_said no_statements h = tt
  tail_said ((then) t ts) h = (said t (front (statement.text t) (statement.tail_texts ts) h.1), tail_said ts (behind (statement.text t) (statement.tail_texts ts) h.1))

  other_said : (p : StatementPart Id Id Id) → Whole (statement.otherwise_text p) → OtherwiseUnbroken p
  other_said not_written h = tt
  other_said (otherwise ts) h = all_said ts h.1

  branches_said : (separator : Keyword) (bs : Branches Id Id Id) → Whole (statement.branches_text separator bs) → BranchesUnbroken bs
  branches_said separator no_branches h = tt
  branches_said separator (branch b bs) h = (all_said b (front (statement.texts b) (statement.tail_branches separator bs) h), tail_branches_said separator bs (behind (statement.texts b) (statement.tail_branches separator bs) h))

  tail_branches_said : (separator : Keyword) (bs : Branches Id Id Id) → Whole (statement.tail_branches separator bs) → BranchesUnbroken bs
  tail_branches_said separator no_branches h = tt
  tail_branches_said separator (branch b bs) h = (all_said b (front (statement.texts b) (statement.tail_branches separator bs) h.1), tail_branches_said separator bs (behind (statement.texts b) (statement.tail_branches separator bs) h.1))

-- declarations

method_said : (r : ProcessMethodTree) → Whole (process_method_text r) → MethodUnbroken r
method_said r h =
    let body = optional locals_text r.locals ++ statement.texts r.body in
    let outputs = formal_text r.outputs ++ body in
    all_said r.body (behind (optional locals_text r.locals) (statement.texts r.body) (behind (formal_text r.outputs) body (behind (formal_text r.inputs) outputs h.1)))

message_said : (x : Message) → Whole (message_text x) → MessageUnbroken x
message_said x h = h.1.1.0

class_said : (c : ProcessClassTree) → Whole (decl_text (process_class c)) → DeclUnbroken (process_class c)
class_said c h =
    let methods = section k.Methods (each_text process_method_text) c.methods in
    let start = section k.Init start_text c.start ++ methods in
    let variables = section k.Variables variables_text c.variables ++ start in
    let messages = section k.Messages messages_text c.messages ++ variables in
    let ports = section k.Ports names_text c.ports ++ messages in
    let parent = section k.Extends word_text c.parent ++ ports in
    let from_messages : Whole messages =
    behind (section k.Ports names_text c.ports) messages
    (behind (section k.Extends word_text c.parent) ports
    (behind (optional formal_text c.parameters) parent h.1.1.1)) in
    let from_methods : Whole methods =
    behind (section k.Init start_text c.start) methods
    (behind (section k.Variables variables_text c.variables) start
    (behind (section k.Messages messages_text c.messages) variables from_messages)) in (
      in_section messages_text (Each MessageUnbroken) (in_separated message_text MessageUnbroken message_said s.Comma) k.Messages c.messages (front (section k.Messages messages_text c.messages) variables from_messages),
      in_section (each_text process_method_text) (Each MethodUnbroken) (in_each process_method_text MethodUnbroken method_said) k.Methods c.methods from_methods,
    )

pub decl_said : (d : DeclTree) → Whole (decl_text d) → DeclUnbroken d
decl_said (process_class c) h = class_said c h
decl_said (data_class c) h = tt
decl_said (cluster_class c) h = tt
decl_said (system d) h = tt

-- a class is named behind two keywords
pub class_named : (d : DeclTree) → Whole (decl_text d) → Unbroken (spelling d)
class_named (process_class c) h = h.1.1.0
class_named (data_class c) h = h.1.1.0
class_named (cluster_class c) h = h.1.1.0
class_named (system d) h = refl

abbrev pub InstanceUnbroken : Instance → Type 0
InstanceUnbroken i = IsUnbroken i.name

instance_named : (i : Instance) → Whole (instance_text i) → InstanceUnbroken i
instance_named i h = h.0

section_named : (o : Option (List Instance)) → Whole (section k.Instances (each_text instance_text) o) → Each InstanceUnbroken (unwrap_or o [])
section_named o h = lists.written InstanceUnbroken o (in_section (each_text instance_text) (Each InstanceUnbroken) (in_each instance_text InstanceUnbroken instance_named) k.Instances o h)

cluster_named : (c : ClusterClass) → Whole (decl_text (cluster_class c)) → Each InstanceUnbroken (unwrap_or c.instances [])
cluster_named c h =
    let channels = section k.Channels (each_text channel_text) c.channels in
    let parts = section k.Instances (each_text instance_text) c.instances ++ channels in
    let ports = section k.Ports names_text c.ports ++ parts in
    section_named c.instances
    (front (section k.Instances (each_text instance_text) c.instances) channels
    (behind (section k.Ports names_text c.ports) parts
    (behind (optional formal_text c.parameters) ports h.1.1.1)))

system_named : (d : SystemDecl) → Whole (decl_text (system d)) → Each InstanceUnbroken (unwrap_or d.instances [])
system_named d h =
    section_named d.instances
    (front (section k.Instances (each_text instance_text) d.instances) (section k.Channels (each_text channel_text) d.channels) h.1)

pub instances_named : (d : DeclTree) → Whole (decl_text d) → Each InstanceUnbroken (instances d)
instances_named (process_class c) h = tt
instances_named (data_class c) h = tt
instances_named (cluster_class c) h = cluster_named c h
instances_named (system d) h = system_named d h
