-- The system with the channels of a script: behind its own channels stands one for each end that the
-- script names, in the order of first mention, and that end is in it. All else is as it was.
use Rattle.std.specs.Prelude.{ℕ, List, [], ◌++◌, map, Some, length}
use Rattle.std.specs.Option.{unwrap_or}
use Rattle.pz_trace.specs.pz_syntax.declared.clusters.Channel.{Channel}
use Rattle.pz_trace.specs.pz_syntax.declared.clusters.SystemDecl.{SystemDecl}
use Rattle.pz_trace.specs.pz_syntax.Classes.{DeclTree, data_class, process_class, cluster_class, system, ModelTree}
use Rattle.pz_trace.specs.pz_bind_rules.Nest.{channels_at}
use Rattle.pz_trace.specs.pz_rules.declared.limits.Limits.{Limits}
use Rattle.pz_trace.specs.pz_rules.Settings.{Setting}
use Rattle.pz_env_script.specs.declared.entry.Entry.{Entry}
use Rattle.pz_env_rules.specs.Environment.{Line, lines_of}
use Rattle.pz_env_rules.specs.Ends.{further_channels}

abbrev pub with_channels : List Channel → SystemDecl → SystemDecl
with_channels more s = record s { channels = Some (unwrap_or s.channels [] ++ more) }

abbrev pub decl_with : List Channel → DeclTree → DeclTree
decl_with more (data_class c) = data_class c
decl_with more (process_class c) = process_class c
decl_with more (cluster_class c) = cluster_class c
decl_with more (system s) = system (with_channels more s)

abbrev pub joined : ModelTree → List Line → ModelTree
joined m lines = record { decls = map (decl_with (further_channels lines)) m.decls }

-- What a driven run stands on: the system with the channels of the script, the limits, the lines of the
-- script, and how many channels the system has of its own.
pub record Driving : Type 0 where
  pub setting : Setting
  pub lines : List Line
  pub own : ℕ

abbrev pub driving : ModelTree → List Entry → Limits → Driving
driving m script limits = record {
  setting = record { model = joined m (lines_of script); limits = limits };
  lines = lines_of script;
  own = length (channels_at m []);
}
