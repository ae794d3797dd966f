-- The ends that a script names, and the channels that it needs: one for each end.
use Rattle.std.specs.Prelude.{◌≡◌, ℕ, Bool, true, not, ◌&&◌, List, [], ◌∷◌, map, Some, slice_get}
use Rattle.std.specs.List.{filter}
use Rattle.std.specs.Str.{bytes_eq}
use Rattle.pz_trace.specs.pz_syntax.declared.names.Id.{Id}
use Rattle.pz_trace.specs.pz_syntax.declared.clusters.Channel.{Channel}
use Rattle.pz_trace.specs.pz_syntax.declared.clusters.ChannelEnd.TheVariants.{Inner}
use Rattle.pz_env_rules.specs.Environment.{Line, at_line}

-- both lines name the same port of the same instance
abbrev pub is_same_end : Line → Line → Bool
is_same_end x y = bytes_eq x.entry.instance y.entry.instance && bytes_eq x.entry.port y.entry.port

-- the lines that name an end which no line before them names
abbrev pub first_mentions : List Line → List Line
first_mentions [] = []
first_mentions (x ∷ xs) = x ∷ filter (λ y. not (is_same_end x y)) (first_mentions xs)

-- the end of the line is the one of number k in the order of first mention
pub record IsEnd (lines : List Line) (x : Line) (k : ℕ) : Type 0 where
  pub first : Line
  pub there : slice_get (first_mentions lines) k ≡ Some first
  pub same : is_same_end first x ≡ true

abbrev pub named_at : Line → List ℕ → Id
named_at x name = record { name = name; pos = at_line x }

-- the channel of an end, with the end in it, at the line that names it first
abbrev pub channel_for : Line → Channel
channel_for x =
    record { pos = at_line x; ends = Inner (named_at x x.entry.instance) (named_at x x.entry.port) ∷ [] }

abbrev pub further_channels : List Line → List Channel
further_channels lines = map channel_for (first_mentions lines)
