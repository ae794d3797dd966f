-- Models without their positions.
use Rattle.std.specs.Prelude.{map, option_map}
use Rattle.pz_syntax.specs.declared.classes.VarGroup.{VarGroup}
use Rattle.pz_syntax.specs.declared.classes.Message.{Message}
use Rattle.pz_syntax.specs.declared.clusters.Arg.{Arg}
use Rattle.pz_syntax.specs.declared.clusters.Arg.TheVariants.{Plain, Negated, Parameter}
use Rattle.pz_syntax.specs.declared.clusters.Given.{Given}
use Rattle.pz_syntax.specs.declared.clusters.Instance.{Instance}
use Rattle.pz_syntax.specs.declared.clusters.ChannelEnd.{ChannelEnd}
use Rattle.pz_syntax.specs.declared.clusters.ChannelEnd.TheVariants.{Inner, Outer}
use Rattle.pz_syntax.specs.declared.clusters.Channel.{Channel}
use Rattle.pz_syntax.specs.declared.clusters.ClusterClass.{ClusterClass}
use Rattle.pz_syntax.specs.declared.clusters.SystemDecl.{SystemDecl}
use Rattle.pz_syntax.specs.ExpressionErasure.{origin, erase_id, erase_all}
use Rattle.pz_syntax.specs.StatementErasure.{erase_sequence}
use Rattle.pz_syntax.specs.Classes.{DataMethodTree, DataClassTree, StartTree, ProcessMethodTree, ProcessClassTree, DeclTree, data_class, process_class, cluster_class, system, ModelTree}

abbrev pub erase_group : VarGroup → VarGroup
erase_group g = record { names = map erase_id g.names; kind = erase_id g.kind }

abbrev pub erase_data_method : DataMethodTree → DataMethodTree
erase_data_method m = record {
  name = erase_id m.name;
  inputs = option_map (map erase_group) m.inputs;
  result = erase_id m.result;
  locals = option_map (map erase_group) m.locals;
  body = erase_all m.body;
}

abbrev pub erase_data_class : DataClassTree → DataClassTree
erase_data_class c = record {
  name = erase_id c.name;
  parent = option_map erase_id c.parent;
  variables = option_map (map erase_group) c.variables;
  methods = option_map (map erase_data_method) c.methods;
}

abbrev pub erase_message : Message → Message
erase_message m = record { port = erase_id m.port; out = m.out; name = erase_id m.name; types = option_map (map erase_id) m.types }

abbrev pub erase_start : StartTree → StartTree
erase_start c = record { method = erase_id c.method; args = erase_all c.args }

abbrev pub erase_process_method : ProcessMethodTree → ProcessMethodTree
erase_process_method m = record {
  name = erase_id m.name;
  inputs = map erase_group m.inputs;
  outputs = map erase_group m.outputs;
  locals = option_map (map erase_group) m.locals;
  body = erase_sequence m.body;
}

abbrev pub erase_process_class : ProcessClassTree → ProcessClassTree
erase_process_class c = record {
  name = erase_id c.name;
  parameters = option_map (map erase_group) c.parameters;
  parent = option_map erase_id c.parent;
  ports = option_map (map erase_id) c.ports;
  messages = option_map (map erase_message) c.messages;
  variables = option_map (map erase_group) c.variables;
  start = option_map erase_start c.start;
  methods = option_map (map erase_process_method) c.methods;
}

abbrev pub erase_arg : Arg → Arg
erase_arg (Plain x pos) = Plain x origin
erase_arg (Negated n pos) = Negated n origin
erase_arg (Parameter x) = Parameter (erase_id x)

abbrev pub erase_given : Given → Given
erase_given g = record { name = erase_id g.name; arg = erase_arg g.arg }

abbrev pub erase_instance : Instance → Instance
erase_instance i = record { name = erase_id i.name; class = erase_id i.class; given = option_map (map erase_given) i.given }

abbrev pub erase_end : ChannelEnd → ChannelEnd
erase_end (Inner part port) = Inner (erase_id part) (erase_id port)
erase_end (Outer port) = Outer (erase_id port)

abbrev pub erase_channel : Channel → Channel
erase_channel c = record { pos = origin; ends = map erase_end c.ends }

abbrev pub erase_cluster_class : ClusterClass → ClusterClass
erase_cluster_class c = record {
  name = erase_id c.name;
  parameters = option_map (map erase_group) c.parameters;
  ports = option_map (map erase_id) c.ports;
  instances = option_map (map erase_instance) c.instances;
  channels = option_map (map erase_channel) c.channels;
}

abbrev pub erase_system : SystemDecl → SystemDecl
erase_system d = record { pos = origin; instances = option_map (map erase_instance) d.instances; channels = option_map (map erase_channel) d.channels }

abbrev pub erase_decl : DeclTree → DeclTree
erase_decl (data_class c) = data_class (erase_data_class c)
erase_decl (process_class c) = process_class (erase_process_class c)
erase_decl (cluster_class c) = cluster_class (erase_cluster_class c)
erase_decl (system d) = system (erase_system d)

abbrev pub erase : ModelTree → ModelTree
erase m = record { decls = map erase_decl m.decls }
