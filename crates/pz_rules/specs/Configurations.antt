-- Where a model stands: the clock, and each process in the order of the text.
use Rattle.std.specs.Prelude.{◌≡◌, ℕ, List, length, Some, slice_get}
use Rattle.pz_bind_levels.specs.Places.{Address}
use Rattle.pz_bind_rules.specs.Nest.{processes, class_at}
use Rattle.pz_rules.specs.Settings.{Setting, Process, Context}

pub record Config : Type 0 where
  pub clock : ℕ
  pub processes : List Process

-- process i stands here, and this is how its statements see it
pub record Stands (setting : Setting) (c : Config) (i : ℕ) (p : Process) (a : Context) : Type 0 where
  pub place : Address
  pub is_process : slice_get (processes setting.model) i ≡ Some place
  pub is_here : slice_get c.processes i ≡ Some p
  pub seen : a ≡ record { setting = setting; process = i; class = class_at setting.model place; clock = c.clock; state = p.state }

-- as many processes stand here as the model has
abbrev pub IsWhole : Setting → Config → Type 0
IsWhole setting c = length c.processes ≡ length (processes setting.model)
