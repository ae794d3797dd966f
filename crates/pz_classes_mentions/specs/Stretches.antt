-- What the parts of a declaration that the code knows stand for.
use Rattle.std.specs.Prelude.{List, ◌++◌}
use Rattle.pz_syntax.specs.declared.names.Id.{Id}
use Rattle.pz_syntax.specs.ClassView.{data_class_view, data_method_view, process_class_view, process_method_view}
use Rattle.pz_classes_mentions.specs.declared.local_scope.LocalScope.{LocalScope}
use Rattle.pz_classes_mentions.specs.declared.locals.Locals.{Locals}
use Rattle.pz_classes_mentions.specs.declared.part.Stretch.{Stretch}
use Rattle.pz_classes_mentions.specs.declared.part.Stretch.TheVariants.{DataHead, DataMethod, ProcessHead, ProcessMethod, Cluster, System}
use Rattle.pz_classes_mentions.specs.Declarations.{names, data_head, data_method, process_head, process_method, cluster_part, system_part}

abbrev pub scope : Stretch → LocalScope
scope (DataHead c) = data_head (data_class_view c.now)
scope (DataMethod f) = data_method (data_method_view f.now)
scope (ProcessHead c) = process_head (process_class_view c.now)
scope (ProcessMethod f) = process_method (process_method_view f.now)
scope (Cluster c) = cluster_part c.now
scope (System d) = system_part d.now

abbrev pub local_names : Locals → List Id
local_names l = names l.inputs.now ++ (names l.outputs.now ++ names l.others.now)
