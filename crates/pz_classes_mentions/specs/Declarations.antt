-- The parts of a declaration, in the order of the text: what stands before its methods, then each
-- method.
use Rattle.std.specs.Prelude.{List, [], ◌∷◌, ◌++◌, map, Option, Some, None}
use Rattle.std.specs.Option.{unwrap_or}
use Rattle.std.specs.List.{flat_map}
use Rattle.pz_syntax.specs.declared.names.Id.{Id}
use Rattle.pz_syntax.specs.declared.classes.VarGroup.{VarGroup}
use Rattle.pz_syntax.specs.declared.classes.Message.{Message}
use Rattle.pz_syntax.specs.declared.clusters.Arg.{Arg}
use Rattle.pz_syntax.specs.declared.clusters.Arg.TheVariants as arg
use Rattle.pz_syntax.specs.declared.clusters.Given.{Given}
use Rattle.pz_syntax.specs.declared.clusters.Instance.{Instance}
use Rattle.pz_syntax.specs.declared.clusters.ClusterClass.{ClusterClass}
use Rattle.pz_syntax.specs.declared.clusters.SystemDecl.{SystemDecl}
use Rattle.pz_syntax.specs.Classes.{DataMethodTree, DataClassTree, StartTree, ProcessMethodTree, ProcessClassTree, DeclTree, data_class, process_class, cluster_class, system}
use Rattle.pz_classes_mentions.specs.declared.mention.Mention.{Mention}
use Rattle.pz_classes_mentions.specs.declared.mention.Mention.TheVariants as m
use Rattle.pz_classes_mentions.specs.declared.local_scope.LocalScope.{LocalScope}
use Rattle.pz_classes_mentions.specs.Expressions.{count, mentioned_all, mentioned_literal}
use Rattle.pz_classes_mentions.specs.Statements.{mentioned_statements}

-- the names of these variables
abbrev pub names : List VarGroup → List Id
names groups = flat_map (λ g. g.names) groups

-- names that are declared together name their type once
abbrev pub types : List VarGroup → List Mention
types groups = map (λ g. m.Typed g.kind) groups

-- of a section, nothing where it is not written
abbrev pub section_names : Option (List VarGroup) → List Id
section_names groups = names (unwrap_or groups [])

abbrev pub section_types : Option (List VarGroup) → List Mention
section_types groups = types (unwrap_or groups [])

abbrev pub extended : Option Id → List Mention
extended None = []
extended (Some parent) = m.Extended parent ∷ []

abbrev pub named_types : List Id → List Mention
named_types kinds = map m.Typed kinds

-- the port of a message, then its types
abbrev pub mentioned_message : Message → List Mention
mentioned_message x = m.Port x.port ∷ named_types (unwrap_or x.types [])

abbrev pub mentioned_messages : List Message → List Mention
mentioned_messages xs = flat_map mentioned_message xs

-- the first call, which has no results
abbrev pub mentioned_start : Option StartTree → List Mention
mentioned_start None = []
mentioned_start (Some c) = m.Called c.method (count c.args) 0 ∷ mentioned_all c.args

-- an argument of an instance
abbrev pub mentioned_argument : Arg → List Mention
mentioned_argument (arg.Plain x pos) = mentioned_literal pos x
mentioned_argument (arg.Negated n pos) = []
mentioned_argument (arg.Parameter x) = m.Variable x ∷ []

abbrev pub mentioned_givens : List Given → List Mention
mentioned_givens givens = flat_map (λ g. mentioned_argument g.arg) givens

abbrev pub mentioned_instance : Instance → List Mention
mentioned_instance i = m.Instantiated i.class ∷ mentioned_givens (unwrap_or i.given [])

abbrev pub mentioned_instances : List Instance → List Mention
mentioned_instances is = flat_map mentioned_instance is

abbrev pub data_head : DataClassTree → LocalScope
data_head c = record {
  locals = [];
  mentions = m.Declared c.name ∷ (extended c.parent ++ section_types c.variables);
}

abbrev pub data_method : DataMethodTree → LocalScope
data_method f = record {
  locals = section_names f.inputs ++ section_names f.locals;
  mentions = section_types f.inputs ++ m.Typed f.result ∷ (section_types f.locals ++ mentioned_all f.body);
}

abbrev pub data_class_parts : DataClassTree → List LocalScope
data_class_parts c = data_head c ∷ map data_method (unwrap_or c.methods [])

abbrev pub process_head : ProcessClassTree → LocalScope
process_head c = record {
  locals = [];
  mentions = m.Declared c.name ∷ (section_types c.parameters ++ (extended c.parent ++ (mentioned_messages (unwrap_or c.messages []) ++ (section_types c.variables ++ mentioned_start c.start))));
}

abbrev pub process_method : ProcessMethodTree → LocalScope
process_method f = record {
  locals = names f.inputs ++ (names f.outputs ++ section_names f.locals);
  mentions = types f.inputs ++ (types f.outputs ++ (section_types f.locals ++ mentioned_statements f.body));
}

abbrev pub process_class_parts : ProcessClassTree → List LocalScope
process_class_parts c = process_head c ∷ map process_method (unwrap_or c.methods [])

-- the parameters of a cluster are known to its instances
abbrev pub cluster_part : ClusterClass → LocalScope
cluster_part c = record {
  locals = section_names c.parameters;
  mentions = m.Declared c.name ∷ (section_types c.parameters ++ mentioned_instances (unwrap_or c.instances []));
}

abbrev pub system_part : SystemDecl → LocalScope
system_part d = record { locals = []; mentions = mentioned_instances (unwrap_or d.instances []) }

abbrev pub parts : DeclTree → List LocalScope
parts (data_class c) = data_class_parts c
parts (process_class c) = process_class_parts c
parts (cluster_class c) = cluster_part c ∷ []
parts (system d) = system_part d ∷ []
