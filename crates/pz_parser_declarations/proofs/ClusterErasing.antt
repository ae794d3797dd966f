-- The positions of the tokens change nothing else of clusters and the system.
use Rattle.std.proofs.Common.{suc, ◌+◌, length, refl, ap, ◌∙◌}
use Rattle.std.specs.Prelude.{map, option_map}
use Rattle.pz_syntax.specs.declared.tokens.Keyword.TheVariants as k
use Rattle.pz_syntax.specs.declared.clusters.Arg.TheVariants.{Plain, Negated, Parameter}
use Rattle.pz_syntax.specs.declared.clusters.ChannelEnd.TheVariants.{Inner, Outer}
use Rattle.pz_syntax.specs.Marks.{each_text, optional as optional_text, section as section_text, names_text}
use Rattle.pz_syntax.specs.ClassText.{formal_text}
use Rattle.pz_syntax.specs.ModelText.{given_text, instance_text, end_text, channel_text}
use Rattle.pz_syntax.specs.ExpressionErasure.{origin, erase_id}
use Rattle.pz_syntax.specs.ModelErasure.{erase_group, erase_arg, erase_given, erase_instance, erase_end, erase_channel, erase_cluster_class, erase_system}
use Rattle.pz_parser_cursor.specs.Places.{place_section, place_names, place_enclosed}
use Rattle.pz_parser_cursor.proofs.Erasing.{Erased, erased_separated, erased_each, erased_optional, erased_section, erased_names, erased_enclosed}
use Rattle.pz_parser_declarations.specs.ClusterPlaces.{place_arg, place_given, place_givens, place_instance, place_instances, place_end, place_channel, place_channels, place_cluster_class, place_system}

erased_arg : Erased erase_arg place_arg
erased_arg at n (Plain x pos) = refl
erased_arg at n (Negated x pos) = refl
erased_arg at n (Parameter x) = refl

erased_given : Erased erase_given place_given
erased_given at n g = ap (λ a. record { name = erase_id g.name; arg = a }) (erased_arg at (suc (suc n)) g.arg)

erased_givens : Erased (map erase_given) place_givens
erased_givens at n gs = erased_separated given_text erase_given place_given erased_given at (suc n) gs

erased_instance : Erased erase_instance place_instance
erased_instance at n i = ap (λ gs. record { name = erase_id i.name; class = erase_id i.class; given = gs }) (erased_optional (map erase_given) place_givens erased_givens at (suc (suc (suc n))) i.given)

erased_instances : Erased (map erase_instance) place_instances
erased_instances = erased_each instance_text erase_instance place_instance erased_instance

erased_end : Erased erase_end place_end
erased_end at n (Inner part port) = refl
erased_end at n (Outer port) = refl

erased_channel : Erased erase_channel place_channel
erased_channel at n c = ap (λ es. record { pos = origin; ends = es }) (erased_separated end_text erase_end place_end erased_end at (suc n) c.ends)

erased_channels : Erased (map erase_channel) place_channels
erased_channels = erased_each channel_text erase_channel place_channel erased_channel

pub erased_cluster_class : Erased erase_cluster_class place_cluster_class
erased_cluster_class at n c =
    let fs = option_map (map erase_group) c.parameters in
    let ps = option_map (map erase_id) c.ports in
    let is = option_map (map erase_instance) c.instances in
    let ports_at = suc (suc (suc n)) + length (optional_text formal_text c.parameters) in
    let instances_at = ports_at + length (section_text k.Ports names_text c.ports) in
    let channels_at = instances_at + length (section_text k.Instances (each_text instance_text) c.instances) in
    let placed_ports = option_map (map erase_id) (place_section place_names at ports_at c.ports) in
    let placed_instances = option_map (map erase_instance) (place_section place_instances at instances_at c.instances) in
    let placed_channels = option_map (map erase_channel) (place_section place_channels at channels_at c.channels) in
    ap (λ x. record { name = erase_id c.name; parameters = x; ports = placed_ports; instances = placed_instances; channels = placed_channels }) (erased_optional (map erase_group) place_enclosed erased_enclosed at (suc (suc (suc n))) c.parameters)
    ∙ ap (λ x. record { name = erase_id c.name; parameters = fs; ports = x; instances = placed_instances; channels = placed_channels }) (erased_section (map erase_id) place_names erased_names at ports_at c.ports)
    ∙ ap (λ x. record { name = erase_id c.name; parameters = fs; ports = ps; instances = x; channels = placed_channels }) (erased_section (map erase_instance) place_instances erased_instances at instances_at c.instances)
    ∙ ap (λ x. record { name = erase_id c.name; parameters = fs; ports = ps; instances = is; channels = x }) (erased_section (map erase_channel) place_channels erased_channels at channels_at c.channels)

pub erased_system : Erased erase_system place_system
erased_system at n d =
    let m = suc n + length (section_text k.Instances (each_text instance_text) d.instances) in
    ap (λ x. record { pos = origin; instances = x; channels = option_map (map erase_channel) (place_section place_channels at m d.channels) }) (erased_section (map erase_instance) place_instances erased_instances at (suc n) d.instances)
    ∙ ap (λ x. record { pos = origin; instances = option_map (map erase_instance) d.instances; channels = x }) (erased_section (map erase_channel) place_channels erased_channels at m d.channels)
