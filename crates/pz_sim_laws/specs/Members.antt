-- The processes of a system one by one, each with how its statements see it: a configuration, taken apart.
use Rattle.std.specs.Prelude.{◌≡◌, ℕ, List, length, map, Some, slice_get}
use Rattle.pz_bind_levels.specs.Places.{Address}
use Rattle.pz_tree_standing.specs.pz_bind_rules.Nest.{processes, class_at}
use Rattle.pz_tree_standing.specs.pz_rules.Terms.{Term}
use Rattle.pz_tree_standing.specs.pz_rules.Settings.{Setting, Process, Context, in_state}
use Rattle.pz_tree_standing.specs.pz_rules.Configurations.{Config}

-- a process: how its statements see it, its state with that, and what is left of it
pub record Member : Type 0 where
  pub seen : Context
  pub term : Term

abbrev pub process_of : Member → Process
process_of m = record { term = m.term; state = m.seen.state }

abbrev pub config_of : ℕ → List Member → Config
config_of clock ms = record { clock = clock; processes = map process_of ms }

-- it has become this, at the same clock
abbrev pub become : Member → Process → Member
become m p = record { seen = in_state m.seen p.state; term = p.term }

-- as many as the model has, and process i sees itself at this clock as the process of number i, of the class of its place
pub record AreMembers (setting : Setting) (clock : ℕ) (ms : List Member) : Type 0 where
  pub whole : length ms ≡ length (processes setting.model)
  pub each : (i : ℕ) (m : Member) (place : Address) → slice_get ms i ≡ Some m → slice_get (processes setting.model) i ≡ Some place
      → m.seen ≡ record { setting = setting; process = i; class = class_at setting.model place; clock = clock; state = m.seen.state }
