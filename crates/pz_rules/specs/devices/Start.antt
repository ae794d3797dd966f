-- The configuration with which a model starts, computed.
use Rattle.std.specs.Prelude.{map, Option, Some, None}
use Rattle.pz_bind_rules.specs.pz_classes_rules.Soundness.{IsSound}
use Rattle.pz_bind_rules.specs.pz_classes_rules.Starts.{init}
use Rattle.pz_bind_levels.specs.Places.{Address}
use Rattle.pz_bind_rules.specs.Nest.{processes, class_at}
use Rattle.pz_bind_rules.specs.Values.{values_at}
use Rattle.pz_offer.specs.pz_state.States.{initial}
use Rattle.pz_rules.specs.Terms.{Step, done}
use Rattle.pz_rules.specs.Settings.{Setting, Process, left_by}
use Rattle.pz_rules.specs.Configurations.{Config}
use Rattle.pz_rules.specs.Starting.{begins_with, IsStart}

-- the process at this place that begins with this call; one that is done where there is none, as in no
-- sound model
abbrev pub begins_by : Setting → Address → Option Step → Process
begins_by setting place None = left_by (initial (values_at setting.model place)) done
begins_by setting place (Some first) = begins_with setting place first

abbrev pub start_at : Setting → Address → Process
start_at setting place = begins_by setting place (init setting.model (class_at setting.model place))

abbrev pub start_of : Setting → Config
start_of setting = record { clock = 0; processes = map (start_at setting) (processes setting.model) }

-- a sound model starts so
abbrev pub StartIsComputed : Type 0
StartIsComputed = (setting : Setting) → IsSound setting.model → IsStart setting (start_of setting)
