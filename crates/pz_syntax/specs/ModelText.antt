-- The text of clusters, of the system and of whole models.
use Rattle.std.specs.Prelude.{◌-◌, ◌^◌, ◌<◌, List, [], ◌∷◌, ◌++◌, length}
use Rattle.pz_syntax.specs.declared.tokens.Symbol.TheVariants as s
use Rattle.pz_syntax.specs.declared.tokens.Keyword.TheVariants as k
use Rattle.pz_syntax.specs.declared.tokens.TokenKind.TheVariants as kind
use Rattle.pz_syntax.specs.declared.tokens.Mark.{Mark}
use Rattle.pz_syntax.specs.declared.clusters.Arg.{Arg}
use Rattle.pz_syntax.specs.declared.clusters.Arg.TheVariants.{Plain, Negated, Parameter}
use Rattle.pz_syntax.specs.declared.clusters.Given.{Given}
use Rattle.pz_syntax.specs.declared.clusters.Instance.{Instance}
use Rattle.pz_syntax.specs.declared.clusters.ChannelEnd.{ChannelEnd}
use Rattle.pz_syntax.specs.declared.clusters.ChannelEnd.TheVariants.{Inner, Outer}
use Rattle.pz_syntax.specs.declared.clusters.Channel.{Channel}
use Rattle.pz_syntax.specs.declared.clusters.ClusterClass.{ClusterClass}
use Rattle.pz_syntax.specs.declared.clusters.SystemDecl.{SystemDecl}
use Rattle.pz_syntax.specs.Marks.{mark, symbol, keyword, word, head, in_parentheses, in_braces, separated, each_text, optional, section, names_text}
use Rattle.pz_syntax.specs.ExpressionText.{literal_kind}
use Rattle.pz_syntax.specs.ClassText.{formal_text, data_class_text, process_class_text}
use Rattle.pz_syntax.specs.Classes.{DeclTree, data_class, process_class, cluster_class, system, ModelTree}

abbrev pub arg_text : Arg → List Mark
arg_text (Plain x pos) = mark (literal_kind x) ∷ []
arg_text (Negated n pos) = symbol s.Minus ∷ mark (kind.Int n) ∷ []
arg_text (Parameter x) = word x ∷ []

abbrev pub given_text : Given → List Mark
given_text g = word g.name ∷ symbol s.Assign ∷ arg_text g.arg

abbrev pub givens_text : List Given → List Mark
givens_text givens = in_parentheses (separated given_text s.Comma givens)

abbrev pub instance_text : Instance → List Mark
instance_text i = head i.name ∷ symbol s.Colon ∷ word i.class ∷ optional givens_text i.given

abbrev pub end_text : ChannelEnd → List Mark
end_text (Inner part port) = word part ∷ symbol s.Dot ∷ word port ∷ []
end_text (Outer port) = word port ∷ []

abbrev pub channel_text : Channel → List Mark
channel_text c = in_braces (separated end_text s.Comma c.ends)

abbrev pub cluster_class_text : ClusterClass → List Mark
cluster_class_text c = keyword k.Cluster ∷ keyword k.Class ∷ word c.name ∷ (optional formal_text c.parameters ++ (section k.Ports names_text c.ports ++ (section k.Instances (each_text instance_text) c.instances ++ section k.Channels (each_text channel_text) c.channels)))

abbrev pub system_text : SystemDecl → List Mark
system_text d = keyword k.System ∷ (section k.Instances (each_text instance_text) d.instances ++ section k.Channels (each_text channel_text) d.channels)

abbrev pub decl_text : DeclTree → List Mark
decl_text (data_class c) = data_class_text c
decl_text (process_class c) = process_class_text c
decl_text (cluster_class c) = cluster_class_text c
decl_text (system d) = system_text d

abbrev pub text : ModelTree → List Mark
text m = each_text decl_text m.decls

-- what a call that takes a model asks of it, so that numbers of its parts fit 32 bits
abbrev pub HasFewMarks : ModelTree → Type 0
HasFewMarks m = length (text m) < 2 ^ 32 - 1
