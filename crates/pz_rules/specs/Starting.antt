-- Where a model starts: at clock 0, in each process the call that its `init` names, opened, with the
-- given parameters and all other variables nil.
use Rattle.std.specs.Prelude.{◌≡◌, ℕ, length, Some, slice_get}
use Rattle.pz_bind_rules.specs.pz_classes_rules.Starts.{init}
use Rattle.pz_bind_levels.specs.Places.{Address}
use Rattle.pz_bind_rules.specs.Nest.{processes, class_at}
use Rattle.pz_bind_rules.specs.Values.{values_at}
use Rattle.pz_offer.specs.pz_state.States.{initial}
use Rattle.pz_rules.specs.Terms.{Step}
use Rattle.pz_rules.specs.Settings.{Setting, Process, Home}
use Rattle.pz_rules.specs.Opening.{opened}
use Rattle.pz_rules.specs.Leaving.{swept}
use Rattle.pz_rules.specs.Configurations.{Config}

-- of a process at this place of the system
abbrev pub home_at : Setting → Address → Home
home_at setting place = record { model = setting.model; edition = setting.limits.edition; class = class_at setting.model place }

-- a process at this place that begins with this call
abbrev pub begins_with : Setting → Address → Step → Process
begins_with setting place first = swept (opened (home_at setting place) first (initial (values_at setting.model place)))

-- the process that stands at this place of the system
pub record StartsAs (setting : Setting) (place : Address) (p : Process) : Type 0 where
  pub call : Step
  pub is_call : init setting.model (class_at setting.model place) ≡ Some call
  pub stands : p ≡ begins_with setting place call

pub record IsStart (setting : Setting) (c : Config) : Type 0 where
  pub clock : c.clock ≡ 0
  pub all : length c.processes ≡ length (processes setting.model)
  pub each : (i : ℕ) (place : Address) (p : Process) → slice_get (processes setting.model) i ≡ Some place → slice_get c.processes i ≡ Some p → StartsAs setting place p
