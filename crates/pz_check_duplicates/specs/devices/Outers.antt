-- The ports of a cluster class in a channel, by where they stand.
use Rattle.std.specs.Prelude.{Bool, true, List, [], ◌∷◌}
use Rattle.std.specs.List.{flat_map}
use Rattle.pz_classes.specs.pz_syntax.declared.tokens.Pos.{Pos}
use Rattle.pz_classes.specs.pz_syntax.declared.clusters.ChannelEnd.{ChannelEnd}
use Rattle.pz_classes.specs.pz_syntax.declared.clusters.ChannelEnd.TheVariants.{Inner, Outer}

abbrev pub outer_place : ChannelEnd → List Pos
outer_place (Inner i port) = []
outer_place (Outer port) = port.pos ∷ []

abbrev pub outer_places : List ChannelEnd → List Pos
outer_places ends = flat_map outer_place ends

abbrev pub any_two : Pos → Pos → Bool
any_two p q = true

abbrev pub itself : Pos → Pos
itself p = p
