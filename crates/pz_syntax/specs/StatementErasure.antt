-- Statements without their positions.
use Rattle.std.specs.Prelude.{map, option_map}
use Rattle.pz_syntax.specs.declared.names.Id.{Id}
use Rattle.pz_syntax.specs.ExpressionErasure.{origin, erase_id, erase_all, erase_part}
use Rattle.pz_syntax.specs.ExpressionErasure as expression
use Rattle.pz_syntax.specs.Statements.{Statement, skip, delay, bracketed, block, guarded, parallel, select, conditional, repeated, abort, interrupt, send, receive, call, assignment, value, Statements, no_statements, then, StatementPart, not_written, otherwise, Branches, no_branches, branch}

abbrev mutual
  pub erase : Statement Id Id Id → Statement Id Id Id
  erase (skip pos) = skip origin
  erase (delay pos e) = delay origin (expression.erase e)
  erase (bracketed pos ts) = bracketed origin (erase_sequence ts)
  erase (block pos es) = block origin (erase_all es)
  erase (guarded pos e t) = guarded origin (expression.erase e) (erase t)
  erase (parallel pos bs) = parallel origin (erase_branches bs)
  erase (select pos bs) = select origin (erase_branches bs)
  erase (conditional pos e body other) = conditional origin (expression.erase e) (erase_sequence body) (erase_otherwise other)
  erase (repeated pos e body) = repeated origin (expression.erase e) (erase_sequence body)
  erase (abort pos ts t) = abort origin (erase_sequence ts) (erase t)
  erase (interrupt pos ts t) = interrupt origin (erase_sequence ts) (erase t)
  erase (send pos port message args after) = send origin (erase_id port) (erase_id message) (erase_part args) (erase_part after)
  erase (receive pos port message into condition after) = receive origin (erase_id port) (erase_id message) (option_map (map erase_id) into) (option_map expression.erase condition) (erase_part after)
  erase (call pos method args results) = call origin (erase_id method) (erase_all args) (map erase_id results)
  erase (assignment pos x e) = assignment origin (erase_id x) (expression.erase e)
  erase (value pos e) = value origin (expression.erase e)

  pub erase_sequence : Statements Id Id Id → Statements Id Id Id
  erase_sequence no_statements = no_statements
  erase_sequence (then t ts) = then (erase t) (erase_sequence ts)

  pub erase_otherwise : StatementPart Id Id Id → StatementPart Id Id Id
  erase_otherwise not_written = not_written
  erase_otherwise (otherwise ts) = otherwise (erase_sequence ts)

  pub erase_branches : Branches Id Id Id → Branches Id Id Id
  erase_branches no_branches = no_branches
  erase_branches (branch b bs) = branch (erase_sequence b) (erase_branches bs)
