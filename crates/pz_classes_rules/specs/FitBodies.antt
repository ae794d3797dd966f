-- When the body of a method fits a class: all that it names is there.
use Rattle.std.specs.Prelude.{◌≡◌, ◌<◌, ◌≤◌, ℕ, suc, ◌+◌, List, length, All, Option, Some, None}
use Rattle.pz_classes_code.specs.pz_syntax.declared.names.Id.{Id}
use Rattle.pz_classes_code.specs.pz_syntax.declared.exprs.Literal.{Literal}
use Rattle.pz_classes_code.specs.pz_syntax.declared.exprs.Literal.TheVariants.{Float}
use Rattle.pz_classes_code.specs.pz_syntax.Expressions.{Expression, literal, variable, me, clock, creation, group, chain, sends, unary, assign, returned, choice, loop, Expressions, none, more, Part, left_out, written, Links, no_links, link, Sendings, no_sendings, sending}
use Rattle.pz_classes_code.specs.pz_syntax.Statements.{Statement, skip, delay, bracketed, block, guarded, parallel, select, conditional, repeated, abort, interrupt, send, receive, call, assignment, value, Statements, no_statements, then, StatementPart, not_written, otherwise, Branches, no_branches, branch}
use Rattle.pz_classes_code.specs.pz_syntax.Classes.{DataClassTree, data_class, ModelTree}
use Rattle.pz_classes_code.specs.pz_value.declared.value.ClassId.{ClassId}
use Rattle.pz_classes_code.specs.declared.slot.Slot.{Slot}
use Rattle.pz_classes_code.specs.declared.slot.Slot.TheVariants.{Local, Shared, Unknown}
use Rattle.pz_classes_rules.specs.declared.method_id.Counts.{Counts}
use Rattle.pz_classes_rules.specs.declared.method_id.Counts.TheVariants.{Data, Process}
use Rattle.pz_classes_rules.specs.Numbers.{declaration}
use Rattle.pz_classes_rules.specs.Members.{fields, variables, ports}
use Rattle.pz_classes_rules.specs.Bodies.{BodyTree, data_body, process_body}
use Rattle.pz_classes_rules.specs.MethodBodies.{HasBody}

-- what code stands in
pub data Sort : Type 0 where
  data_code : Sort
  process_code : Sort

-- the fields of a data class, the parameters and variables of a process class
abbrev pub shared_by : Sort → ModelTree → ℕ → List Id
shared_by data_code m c = fields m c
shared_by process_code m c = variables m c

-- what may be created: Array, and each data class of the model
pub data MayBeCreated (m : ModelTree) : ℕ → Type 0 where
  an_array : MayBeCreated m 0
  a_data_class : (k : ℕ) (d : DataClassTree) → declaration m k ≡ Some (data_class d) → MayBeCreated m k

-- all but floats
abbrev pub LiteralFits : Literal → Type 0
LiteralFits Float = ⊥
LiteralFits _ = Unit {0}

-- how many expressions these are
abbrev pub how_many : {X K : Type 0} → Expressions X K → ℕ
how_many none = 0
how_many (more t ts) = suc (how_many ts)

-- code of this sort that runs in class c, where there are so many inputs, outputs and locals
module _ (m : ModelTree) (c : ℕ) (sort : Sort) (locals : ℕ) where
  abbrev pub SlotFits : Slot → Type 0
  SlotFits (Local i) = i < locals
  SlotFits (Shared i) = i < length (shared_by sort m c)
  SlotFits Unknown = ⊥

  abbrev mutual
    -- `self` and `return` stand in data classes, `currentTime` in process classes
    pub ExpressionFits : Expression Slot ClassId → Type 0
    ExpressionFits (literal pos x) = LiteralFits x
    ExpressionFits (variable pos x) = SlotFits x
    ExpressionFits (me pos) = sort ≡ data_code
    ExpressionFits (clock pos) = sort ≡ process_code
    ExpressionFits (creation pos k) = MayBeCreated m k.0
    ExpressionFits (group pos ts) = ExpressionsFit ts
    ExpressionFits (chain pos t ls) = ExpressionFits t × LinksFit ls
    ExpressionFits (sends pos t ss) = ExpressionFits t × SendingsFit ss
    ExpressionFits (unary pos op t) = ExpressionFits t
    ExpressionFits (assign pos x t) = SlotFits x × ExpressionFits t
    ExpressionFits (returned pos t) = (sort ≡ data_code) × ExpressionFits t
    ExpressionFits (choice pos test body other) = ExpressionFits test × ExpressionsFit body × PartFits other
    ExpressionFits (loop pos test body) = ExpressionFits test × ExpressionsFit body

    pub ExpressionsFit : Expressions Slot ClassId → Type 0
    ExpressionsFit none = Unit {0}
    ExpressionsFit (more t ts) = ExpressionFits t × ExpressionsFit ts

    pub PartFits : Part Slot ClassId → Type 0
    PartFits left_out = Unit {0}
    PartFits (written ts) = ExpressionsFit ts

    pub LinksFit : Links Slot ClassId → Type 0
    LinksFit no_links = Unit {0}
    LinksFit (link op pos t ls) = ExpressionFits t × LinksFit ls

    pub SendingsFit : Sendings Slot ClassId → Type 0
    SendingsFit no_sendings = Unit {0}
    SendingsFit (sending selector args ss) = PartFits args × SendingsFit ss

-- statements that run in the process class c
module _ (m : ModelTree) (c : ℕ) (locals : ℕ) where
  -- the port is one of the class
  abbrev pub PortFits : ℕ → Type 0
  PortFits port = port < length (ports m c)

  -- the variables of a reception, if its brackets are written
  abbrev pub ReceivedFit : Option (List Slot) → Type 0
  ReceivedFit None = Unit {0}
  ReceivedFit (Some xs) = All (SlotFits m c process_code locals) xs

  abbrev pub ConditionFits : Option (Expression Slot ClassId) → Type 0
  ConditionFits None = Unit {0}
  ConditionFits (Some e) = ExpressionFits m c process_code locals e

  -- the class has the method that is called
  abbrev pub CallFits : Id → ℕ → ℕ → Type 0
  CallFits method inputs outputs = HasBody m c (record { name = method.name; counts = Process inputs outputs })

  abbrev mutual
    pub StatementFits : Statement Slot ClassId ℕ → Type 0
    StatementFits (skip pos) = Unit {0}
    StatementFits (delay pos e) = ExpressionFits m c process_code locals e
    StatementFits (bracketed pos ts) = StatementsFit ts
    StatementFits (block pos es) = ExpressionsFit m c process_code locals es
    StatementFits (guarded pos e t) = ExpressionFits m c process_code locals e × StatementFits t
    StatementFits (parallel pos bs) = BranchesFit bs
    StatementFits (select pos bs) = BranchesFit bs
    StatementFits (conditional pos e ts other) = ExpressionFits m c process_code locals e × StatementsFit ts × OtherwiseFits other
    StatementFits (repeated pos e ts) = ExpressionFits m c process_code locals e × StatementsFit ts
    StatementFits (abort pos ts t) = StatementsFit ts × StatementFits t
    StatementFits (interrupt pos ts t) = StatementsFit ts × StatementFits t
    StatementFits (send pos port name args after) = PortFits port × PartFits m c process_code locals args × PartFits m c process_code locals after
    StatementFits (receive pos port name into condition after) = PortFits port × ReceivedFit into × ConditionFits condition × PartFits m c process_code locals after
    StatementFits (call pos method args results) = CallFits method (how_many args) (length results) × ExpressionsFit m c process_code locals args × All (SlotFits m c process_code locals) results
    StatementFits (assignment pos x e) = SlotFits m c process_code locals x × ExpressionFits m c process_code locals e
    StatementFits (value pos e) = ExpressionFits m c process_code locals e

    pub StatementsFit : Statements Slot ClassId ℕ → Type 0
    StatementsFit no_statements = Unit {0}
    StatementsFit (then t ts) = StatementFits t × StatementsFit ts

    pub OtherwiseFits : StatementPart Slot ClassId ℕ → Type 0
    OtherwiseFits not_written = Unit {0}
    OtherwiseFits (otherwise ts) = StatementsFit ts

    pub BranchesFit : Branches Slot ClassId ℕ → Type 0
    BranchesFit no_branches = Unit {0}
    BranchesFit (branch ts bs) = StatementsFit ts × BranchesFit bs

-- The body of a method with these counts fits class c: it has room for what is handed in and out.
abbrev pub BodyFits : ModelTree → ℕ → Counts → BodyTree → Type 0
BodyFits m c (Data inputs) (data_body locals code) = (inputs ≤ locals) × ExpressionsFit m c data_code locals code
BodyFits m c (Process inputs outputs) (process_body locals stmts) = (inputs + outputs ≤ locals) × StatementsFit m c locals stmts
BodyFits m c _ _ = ⊥
