-- Trees with slots and numbers in place of names. All other names stay.
use Rattle.std.specs.Prelude.{ℕ, List, map, Option, Some, None, option_map, unwrap_or, cond}
use Rattle.pz_syntax.specs.declared.names.Id.{Id}
use Rattle.pz_syntax.specs.Expressions.{Expression, literal, variable, me, clock, creation, group, chain, sends, unary, assign, returned, choice, loop, Expressions, none, more, Part, left_out, written, Links, no_links, link, Sendings, no_sendings, sending}
use Rattle.pz_syntax.specs.Statements.{Statement, skip, delay, bracketed, block, guarded, parallel, select, conditional, repeated, abort, interrupt, send, receive, call, assignment, value, Statements, no_statements, then, StatementPart, not_written, otherwise, Branches, no_branches, branch}
use Rattle.pz_value.specs.declared.value.ClassId.{ClassId}
use Rattle.pz_classes_code.specs.declared.slot.Slot.{Slot}
use Rattle.pz_classes_code.specs.declared.slot.Slot.TheVariants.{Local, Shared, Unknown}
use Rattle.pz_classes_code.specs.ReservedNames.{is_array}

-- The numbers of names in a body: of its inputs, outputs and locals, of the fields or variables of
-- its class, of the ports there, and of classes.
pub record Scope : Type 0 where
  pub locals : List ℕ → Option ℕ
  pub shared : List ℕ → Option ℕ
  pub ports : List ℕ → Option ℕ
  pub classes : List ℕ → Option ℕ

-- a local hides a variable, parameter or field of its name
abbrev pub slot_by : Option ℕ → Option ℕ → Slot
slot_by (Some i) shared = Local i
slot_by None (Some i) = Shared i
slot_by None None = Unknown

-- the number of a class or a port that is not there
abbrev pub unknown : ℕ
unknown = 4294967295

module _ (scope : Scope) where
  abbrev pub slot_of : List ℕ → Slot
  slot_of name = slot_by (scope.locals name) (scope.shared name)

  abbrev pub class_of : List ℕ → ClassId
  class_of name = record { 0 = cond (is_array name) 0 (unwrap_or (scope.classes name) unknown) }

  abbrev pub port_of : List ℕ → ℕ
  port_of name = unwrap_or (scope.ports name) unknown

  abbrev pub slots_of : List Id → List Slot
  slots_of ids = map (λ x. slot_of x.name) ids

  abbrev mutual
    pub resolved : Expression Id Id → Expression Slot ClassId
    resolved (literal pos x) = literal pos x
    resolved (variable pos x) = variable pos (slot_of x.name)
    resolved (me pos) = me pos
    resolved (clock pos) = clock pos
    resolved (creation pos class) = creation pos (class_of class.name)
    resolved (group pos ts) = group pos (resolved_all ts)
    resolved (chain pos t ls) = chain pos (resolved t) (resolved_links ls)
    resolved (sends pos t ss) = sends pos (resolved t) (resolved_sendings ss)
    resolved (unary pos op t) = unary pos op (resolved t)
    resolved (assign pos x t) = assign pos (slot_of x.name) (resolved t)
    resolved (returned pos t) = returned pos (resolved t)
    resolved (choice pos test body other) = choice pos (resolved test) (resolved_all body) (resolved_part other)
    resolved (loop pos test body) = loop pos (resolved test) (resolved_all body)

    pub resolved_all : Expressions Id Id → Expressions Slot ClassId
    resolved_all none = none
    resolved_all (more t ts) = more (resolved t) (resolved_all ts)

    pub resolved_part : Part Id Id → Part Slot ClassId
    resolved_part left_out = left_out
    resolved_part (written ts) = written (resolved_all ts)

    pub resolved_links : Links Id Id → Links Slot ClassId
    resolved_links no_links = no_links
    resolved_links (link op pos t ls) = link op pos (resolved t) (resolved_links ls)

    pub resolved_sendings : Sendings Id Id → Sendings Slot ClassId
    resolved_sendings no_sendings = no_sendings
    resolved_sendings (sending selector args ss) = sending selector (resolved_part args) (resolved_sendings ss)

  abbrev mutual
    -- an assignment is the expression with its text
    pub resolved_statement : Statement Id Id Id → Statement Slot ClassId ℕ
    resolved_statement (skip pos) = skip pos
    resolved_statement (delay pos e) = delay pos (resolved e)
    resolved_statement (bracketed pos ts) = bracketed pos (resolved_statements ts)
    resolved_statement (block pos es) = block pos (resolved_all es)
    resolved_statement (guarded pos e t) = guarded pos (resolved e) (resolved_statement t)
    resolved_statement (parallel pos bs) = parallel pos (resolved_branches bs)
    resolved_statement (select pos bs) = select pos (resolved_branches bs)
    resolved_statement (conditional pos e ts other) = conditional pos (resolved e) (resolved_statements ts) (resolved_otherwise other)
    resolved_statement (repeated pos e ts) = repeated pos (resolved e) (resolved_statements ts)
    resolved_statement (abort pos ts t) = abort pos (resolved_statements ts) (resolved_statement t)
    resolved_statement (interrupt pos ts t) = interrupt pos (resolved_statements ts) (resolved_statement t)
    resolved_statement (send pos port name args after) = send pos (port_of port.name) name (resolved_part args) (resolved_part after)
    resolved_statement (receive pos port name into condition after) = receive pos (port_of port.name) name (option_map slots_of into) (option_map resolved condition) (resolved_part after)
    resolved_statement (call pos method args results) = call pos method (resolved_all args) (slots_of results)
    resolved_statement (assignment pos x e) = value pos (assign pos (slot_of x.name) (resolved e))
    resolved_statement (value pos e) = value pos (resolved e)

    pub resolved_statements : Statements Id Id Id → Statements Slot ClassId ℕ
    resolved_statements no_statements = no_statements
    resolved_statements (then t ts) = then (resolved_statement t) (resolved_statements ts)

    pub resolved_otherwise : StatementPart Id Id Id → StatementPart Slot ClassId ℕ
    resolved_otherwise not_written = not_written
    resolved_otherwise (otherwise ts) = otherwise (resolved_statements ts)

    pub resolved_branches : Branches Id Id Id → Branches Slot ClassId ℕ
    resolved_branches no_branches = no_branches
    resolved_branches (branch ts bs) = branch (resolved_statements ts) (resolved_branches bs)
