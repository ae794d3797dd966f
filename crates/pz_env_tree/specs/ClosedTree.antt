-- The tree of a system that is closed by a script. What is new stands behind what was there, so classes,
-- processes and channels keep their numbers: the class of the environment behind all declarations, its
-- instance behind those of the system, and a channel for each end behind the system's own.
use Rattle.std.specs.Prelude.{List, [], ◌∷◌, ◌++◌, map, Some, None}
use Rattle.std.specs.Option.{unwrap_or}
use Rattle.pz_env_rules.specs.pz_syntax.declared.clusters.Instance.{Instance}
use Rattle.pz_env_rules.specs.pz_syntax.declared.clusters.Channel.{Channel}
use Rattle.pz_env_rules.specs.pz_syntax.declared.clusters.ChannelEnd.TheVariants.{Inner}
use Rattle.pz_env_rules.specs.pz_syntax.declared.clusters.SystemDecl.{SystemDecl}
use Rattle.pz_env_rules.specs.pz_syntax.Classes.{DeclTree, data_class, process_class, cluster_class, system, ModelTree}
use Rattle.pz_env_rules.specs.pz_env_script.declared.entry.Entry.{Entry}
use Rattle.pz_env_rules.specs.Environment.{Line, lines_of, at_line}
use Rattle.pz_env_rules.specs.Ends.{first_mentions, named_at}
use Rattle.pz_env_tree.specs.Names.{class_name, instance_name, port_of}
use Rattle.pz_env_tree.specs.EnvironmentClass.{named, environment_class}

abbrev pub environment : Instance
environment = record { name = named instance_name; class = named class_name; given = None }

-- the channel of the line's end, in which that end and a port of the environment are
abbrev pub channel_of : List Line → Line → Channel
channel_of lines x = record {
  pos = at_line x;
  ends =
      Inner (named_at x x.entry.instance) (named_at x x.entry.port) ∷
      Inner (named_at x instance_name) (port_of lines x) ∷ [];
}

abbrev pub closed_system : List Line → SystemDecl → SystemDecl
closed_system lines s = record s {
  instances = Some (unwrap_or s.instances [] ++ environment ∷ []);
  channels = Some (unwrap_or s.channels [] ++ map (channel_of lines) (first_mentions lines));
}

abbrev pub closed_decl : List Line → DeclTree → DeclTree
closed_decl lines (data_class c) = data_class c
closed_decl lines (process_class c) = process_class c
closed_decl lines (cluster_class c) = cluster_class c
closed_decl lines (system s) = system (closed_system lines s)

abbrev pub closed_by : ModelTree → List Line → ModelTree
closed_by m lines =
    record { decls = map (closed_decl lines) m.decls ++ process_class (environment_class lines) ∷ [] }

abbrev pub closed_tree : ModelTree → List Entry → ModelTree
closed_tree m script = closed_by m (lines_of script)
