-- Channels of nested levels, and the wires that they make together.
use Rattle.std.specs.Prelude.{ℕ, suc, List, [], ◌∷◌, ◌++◌, Option, None, slice_get, if◌then◌else◌}
use Rattle.std.specs.Option.{unwrap_or, option_and_then, is_some}
use Rattle.std.specs.List.{flat_map}
use Rattle.pz_bind_levels.specs.Layouts.{Layout}
use Rattle.pz_bind_levels.specs.Places.{Address, Spot, levels, layout_at}

-- the channel of this number of the level at this place
pub record Channel : Type 0 where
  pub place : Address
  pub number : ℕ

abbrev pub channel : Address → ℕ → Channel
channel place number = record { place = place; number = number }

module _ (layouts : List Layout) (system : ℕ) where
  -- The channel of the level around this one with which a channel is joined that has this port of its
  -- level: the one in which that port of the level is. There is none around the system.
  abbrev pub joined_by : Address → Option ℕ → Option ℕ
  joined_by [] port = None
  joined_by (i ∷ up) port = option_and_then ((layout_at layouts system up).linked i) port

  abbrev pub joined : Address → ℕ → Option ℕ
  joined place k = joined_by place (unwrap_or (slice_get (layout_at layouts system place).outer k) None)

  -- of the channels of a level, from number k on, those that are joined no further
  abbrev pub ending : Address → ℕ → List (Option ℕ) → List Channel
  ending place k [] = []
  ending place k (port ∷ ports) = (if is_some (joined_by place port) then [] else channel place k ∷ []) ++ ending place (suc k) ports

  abbrev pub wires_of : Spot → List Channel
  wires_of s = ending s.place 0 (layout_at layouts system s.place).outer

  -- The wires in order: a wire is a channel that is joined no further. First come those of the system,
  -- then those of each cluster, which come before those of the clusters in it.
  abbrev pub wires : List Channel
  wires = flat_map wires_of (levels layouts system)
