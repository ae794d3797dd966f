-- Clusters and the system with the positions of the tokens of their texts.
use Rattle.std.specs.Prelude.{suc, List}
use Rattle.pz_syntax.specs.declared.tokens.Keyword.TheVariants as k
use Rattle.pz_syntax.specs.declared.clusters.Arg.{Arg}
use Rattle.pz_syntax.specs.declared.clusters.Arg.TheVariants.{Plain, Negated, Parameter}
use Rattle.pz_syntax.specs.declared.clusters.Given.{Given}
use Rattle.pz_syntax.specs.declared.clusters.Instance.{Instance}
use Rattle.pz_syntax.specs.declared.clusters.ChannelEnd.{ChannelEnd}
use Rattle.pz_syntax.specs.declared.clusters.ChannelEnd.TheVariants.{Inner, Outer}
use Rattle.pz_syntax.specs.declared.clusters.Channel.{Channel}
use Rattle.pz_syntax.specs.declared.clusters.ClusterClass.{ClusterClass}
use Rattle.pz_syntax.specs.declared.clusters.SystemDecl.{SystemDecl}
use Rattle.pz_syntax.specs.Marks.{each_text, optional, section, names_text}
use Rattle.pz_syntax.specs.ClassText.{formal_text}
use Rattle.pz_syntax.specs.ModelText.{given_text, instance_text, end_text, channel_text}
use Rattle.pz_parser_cursor.specs.Places.{Placing, token, over, here, ◌>>=◌, ◌>>◌, made, from, place_id, place_separated, place_each, place_optional, place_names, place_enclosed, place_section}

abbrev pub place_arg : Placing Arg
place_arg at n (Plain x pos) = Plain x (at n)
place_arg at n (Negated x pos) = Negated x (at n)
place_arg at n (Parameter x) = Parameter (place_id at n x)

abbrev pub place_given : Placing Given
place_given at n g = from n do name_at ← token; token; made (record { name = place_id at name_at g.name; arg = place_arg at (← here) g.arg })

-- behind the `(`
abbrev pub place_givens : Placing (List Given)
place_givens at n gs = place_separated given_text place_given at (suc n) gs

abbrev pub place_instance : Placing Instance
place_instance at n i = from n do name_at ← token; token; made (record { name = place_id at name_at i.name; class = place_id at (← token) i.class; given = place_optional place_givens at (← here) i.given })

abbrev pub place_instances : Placing (List Instance)
place_instances = place_each instance_text place_instance

abbrev pub place_end : Placing ChannelEnd
place_end at n (Inner part port) = from n do part_at ← token; token; made (Inner (place_id at part_at part) (place_id at (← here) port))
place_end at n (Outer port) = Outer (place_id at n port)

-- a channel stands at its `{`
abbrev pub place_channel : Placing Channel
place_channel at n c = record { pos = at n; ends = place_separated end_text place_end at (suc n) c.ends }

abbrev pub place_channels : Placing (List Channel)
place_channels = place_each channel_text place_channel

abbrev pub place_cluster_class : Placing ClusterClass
place_cluster_class at n c = from n do
  token
  token
  made (record {
    name = place_id at (← token) c.name;
    parameters = place_optional place_enclosed at (← over (optional formal_text c.parameters)) c.parameters;
    ports = place_section place_names at (← over (section k.Ports names_text c.ports)) c.ports;
    instances = place_section place_instances at (← over (section k.Instances (each_text instance_text) c.instances)) c.instances;
    channels = place_section place_channels at (← here) c.channels;
  })

-- the system stands at its keyword
abbrev pub place_system : Placing SystemDecl
place_system at n d = from n do
  token
  made (record {
    pos = at n;
    instances = place_section place_instances at (← over (section k.Instances (each_text instance_text) d.instances)) d.instances;
    channels = place_section place_channels at (← here) d.channels;
  })
