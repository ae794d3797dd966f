-- Models in which no name of a message has an LF.
use Rattle.pz_trace.specs.pz_syntax.declared.names.Id.{Id}
use Rattle.pz_trace.specs.pz_syntax.declared.classes.Message.{Message}
use Rattle.pz_trace.specs.pz_syntax.Statements.{Statement, skip, delay, bracketed, block, guarded, parallel, select, conditional, repeated, abort, interrupt, send, receive, call, assignment, value, Statements, no_statements, then, StatementPart, not_written, otherwise, Branches, no_branches, branch}
use Rattle.pz_trace.specs.pz_syntax.Classes.{ProcessMethodTree, DeclTree, data_class, process_class, cluster_class, system, ModelTree}
use Rattle.pz_trace.specs.pz_syntax.ModelForm.{Each, IfWritten}
use Rattle.pz_trace.specs.Laws.{Unbroken}

abbrev pub IsUnbroken : Id → Type 0
IsUnbroken x = Unbroken x.name

abbrev mutual
  -- none of those that the statement sends or receives
  pub StatementUnbroken : {X K Q : Type 0} → Statement X K Q → Type 0
  StatementUnbroken (skip pos) = Unit {0}
  StatementUnbroken (delay pos e) = Unit {0}
  StatementUnbroken (bracketed pos ts) = StatementsUnbroken ts
  StatementUnbroken (block pos es) = Unit {0}
  StatementUnbroken (guarded pos e t) = StatementUnbroken t
  StatementUnbroken (parallel pos bs) = BranchesUnbroken bs
  StatementUnbroken (select pos bs) = BranchesUnbroken bs
  StatementUnbroken (conditional pos e ts other) = StatementsUnbroken ts × OtherwiseUnbroken other
  StatementUnbroken (repeated pos e ts) = StatementsUnbroken ts
  StatementUnbroken (abort pos ts t) = StatementsUnbroken ts × StatementUnbroken t
  StatementUnbroken (interrupt pos ts t) = StatementsUnbroken ts × StatementUnbroken t
  StatementUnbroken (send pos port message args after) = IsUnbroken message
  StatementUnbroken (receive pos port message into condition after) = IsUnbroken message
  StatementUnbroken (call pos method args results) = Unit {0}
  StatementUnbroken (assignment pos x e) = Unit {0}
  StatementUnbroken (value pos e) = Unit {0}

  pub StatementsUnbroken : {X K Q : Type 0} → Statements X K Q → Type 0
  StatementsUnbroken no_statements = Unit {0}
  StatementsUnbroken (then t ts) = StatementUnbroken t × StatementsUnbroken ts

  pub OtherwiseUnbroken : {X K Q : Type 0} → StatementPart X K Q → Type 0
  OtherwiseUnbroken not_written = Unit {0}
  OtherwiseUnbroken (otherwise ts) = StatementsUnbroken ts

  pub BranchesUnbroken : {X K Q : Type 0} → Branches X K Q → Type 0
  BranchesUnbroken no_branches = Unit {0}
  BranchesUnbroken (branch ts bs) = StatementsUnbroken ts × BranchesUnbroken bs

abbrev pub MessageUnbroken : Message → Type 0
MessageUnbroken x = IsUnbroken x.name

abbrev pub MethodUnbroken : ProcessMethodTree → Type 0
MethodUnbroken r = StatementsUnbroken r.body

-- none of those that a process class declares, or that its methods send or receive
abbrev pub DeclUnbroken : DeclTree → Type 0
DeclUnbroken (process_class c) = IfWritten (Each MessageUnbroken) c.messages × IfWritten (Each MethodUnbroken) c.methods
DeclUnbroken (data_class c) = Unit {0}
DeclUnbroken (cluster_class c) = Unit {0}
DeclUnbroken (system s) = Unit {0}

abbrev pub HasUnbrokenMessages : ModelTree → Type 0
HasUnbrokenMessages m = Each DeclUnbroken m.decls
