-- The plain data that a model of the code stands for.
use Rattle.std.specs.Prelude.{map, option_map}
use Rattle.pz_syntax.specs.declared.classes.DataMethod.{DataMethod}
use Rattle.pz_syntax.specs.declared.classes.DataClass.{DataClass}
use Rattle.pz_syntax.specs.declared.classes.Start.{Start}
use Rattle.pz_syntax.specs.declared.classes.ProcessMethod.{ProcessMethod}
use Rattle.pz_syntax.specs.declared.classes.ProcessClass.{ProcessClass}
use Rattle.pz_syntax.specs.declared.clusters.Decl.{Decl}
use Rattle.pz_syntax.specs.declared.clusters.Decl.TheVariants as decl
use Rattle.pz_syntax.specs.declared.clusters.Model.{Model}
use Rattle.pz_syntax.specs.ExpressionView.{list_view}
use Rattle.pz_syntax.specs.StatementView.{sequence_view}
use Rattle.pz_syntax.specs.Classes.{DataMethodTree, DataClassTree, StartTree, ProcessMethodTree, ProcessClassTree, DeclTree, data_class, process_class, cluster_class, system, ModelTree}

abbrev pub data_method_view : DataMethod → DataMethodTree
data_method_view m = record { name = m.name; inputs = m.inputs; result = m.result; locals = m.locals; body = list_view m.body }

abbrev pub data_class_view : DataClass → DataClassTree
data_class_view c = record { name = c.name; parent = c.parent; variables = c.variables; methods = option_map (map data_method_view) c.methods }

abbrev pub start_view : Start → StartTree
start_view s = record { method = s.method; args = list_view s.args }

abbrev pub process_method_view : ProcessMethod → ProcessMethodTree
process_method_view m = record { name = m.name; inputs = m.inputs; outputs = m.outputs; locals = m.locals; body = sequence_view m.body }

abbrev pub process_class_view : ProcessClass → ProcessClassTree
process_class_view c = record {
  name = c.name;
  parameters = c.parameters;
  parent = c.parent;
  ports = c.ports;
  messages = c.messages;
  variables = c.variables;
  start = option_map start_view c.start;
  methods = option_map (map process_method_view) c.methods;
}

abbrev pub decl_view : Decl → DeclTree
decl_view (decl.Data c) = data_class (data_class_view c)
decl_view (decl.Process c) = process_class (process_class_view c)
decl_view (decl.Cluster c) = cluster_class c
decl_view (decl.System s) = system s

abbrev pub model_view : Model → ModelTree
model_view m = record { decls = map decl_view m.decls }
