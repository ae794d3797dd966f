-- What parts of statements stand for.
use Rattle.std.specs.Prelude.{List, map, Option, option_map}
use Rattle.pz_syntax.specs.declared.names.Id.{Id}
use Rattle.pz_syntax.specs.declared.stmts.Stmt.{Stmt}
use Rattle.pz_syntax.specs.ExpressionView as expression
use Rattle.pz_syntax.specs.Statements.{StatementPart}
use Rattle.pz_syntax.specs.StatementView.{Tree, view, otherwise_of}
use Rattle.pz_parser_statements.specs.declared.messages.Reception.{Reception}
use Rattle.pz_parser_statements.specs.devices.Messages.{ReceptionTree}

abbrev pub reception_view : Reception → ReceptionTree
reception_view r = (r.into, option_map expression.view r.condition)

abbrev pub otherwise_view : Option (List Stmt) → StatementPart Id Id Id
otherwise_view other = otherwise_of (option_map (map view) other)

abbrev pub handled_view : List Stmt × Stmt → List Tree × Tree
handled_view parts = (map view parts.0, view parts.1)
