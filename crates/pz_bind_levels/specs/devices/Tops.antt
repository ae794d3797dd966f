-- The last channel that is reached, computed.
use Rattle.std.specs.Prelude.{ℕ, [], ◌∷◌, List, Option, None}
use Rattle.std.specs.Option.{option_map, option_map_or}
use Rattle.pz_bind_levels.specs.Layouts.{Layout}
use Rattle.pz_bind_levels.specs.Places.{Address, layout_at}
use Rattle.pz_bind_levels.specs.Wires.{Channel, channel, joined}
use Rattle.pz_bind_levels.specs.Connections.{PortEnd}

module _ (layouts : List Layout) (system : ℕ) where
  -- from the channel of this number of the level at this place on
  abbrev pub top : Address → ℕ → Channel
  top [] k = channel [] k
  top (i ∷ up) k = option_map_or (top up) (joined layouts system (i ∷ up) k) (channel (i ∷ up) k)

  abbrev pub top_at : Address → ℕ → Option Channel
  top_at [] port = None
  top_at (i ∷ up) port = option_map (top up) ((layout_at layouts system up).linked i port)

  abbrev pub top_of : PortEnd → Option Channel
  top_of e = top_at e.place e.port
