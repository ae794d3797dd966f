-- Where a driven system stands: its configuration, whose clock is that of both, and its environment,
-- which is one more process, numbered after all others.
use Rattle.std.specs.Prelude.{◌≡◌, ◌≤◌, ◌+◌, ℕ, List, [], length, Some, slice_get, if◌then◌else◌, nat_le, Result, Ok}
use Rattle.pz_trace.specs.pz_value.declared.value.Value.{Value}
use Rattle.pz_trace.specs.pz_state.States.{object_limit}
use Rattle.pz_trace.specs.pz_state.declared.fault.FaultKind.TheVariants.{StoreFull}
use Rattle.pz_trace.specs.pz_copy.Parcels.{ParcelView}
use Rattle.pz_trace.specs.pz_bind_rules.Nest.{processes}
use Rattle.pz_bind_levels.specs.Wires.{channel}
use Rattle.pz_trace.specs.pz_bind_rules.Wires.{wires}
use Rattle.pz_trace.specs.pz_offer.declared.end.End.{End}
use Rattle.pz_trace.specs.pz_offer.declared.trouble.Trouble.{Trouble}
use Rattle.pz_trace.specs.pz_rules.Meanings.{fault}
use Rattle.pz_trace.specs.pz_rules.Configurations.{Config}
use Rattle.pz_trace.specs.pz_rules.Starting.{IsStart}
use Rattle.pz_env_script.specs.declared.entry.Transfer.TheVariants.{Send, Receive}
use Rattle.pz_env_rules.specs.Environment.{Line, at_line, offers, begins, Environment}
use Rattle.pz_env_rules.specs.Ends.{IsEnd}
use Rattle.pz_env_rules.specs.Joining.{Driving}

pub record Driven : Type 0 where
  pub system : Config
  pub environment : Environment

module _ (g : Driving) where
  abbrev pub environment_number : ℕ
  environment_number = length (processes g.setting.model)

  -- the one part that it has
  abbrev pub environment_end : End
  environment_end = record { process = environment_number; place = [] }

  -- the wire of the end that the line names: the channel of that end, which no channel is joined with
  pub record IsWireOf (x : Line) (wire : ℕ) : Type 0 where
    pub number : ℕ
    pub is_end : IsEnd g.lines x number
    pub there : slice_get (wires g.setting.model) wire ≡ Some (channel [] (g.own + number))

  -- values without objects
  abbrev pub plain : List Value → ParcelView
  plain values = record { values = values; objects = [] }

  -- The environment sends what this line says. Each value is evaluated as a literal, of one unit.
  pub record Gives (d : Driven) (x : Line) (rest : List Line) (values : List Value) : Type 0 where
    pub doing : d.environment.doing ≡ offers x rest
    pub sends : x.entry.transfer ≡ Send values
    pub paid : length values ≤ g.setting.limits.units

  -- the environment receives what this line says
  pub record Gets (d : Driven) (x : Line) (rest : List Line) (count : ℕ) : Type 0 where
    pub doing : d.environment.doing ≡ offers x rest
    pub receives : x.entry.transfer ≡ Receive count

  -- the objects of a parcel go into its store, or it is full
  abbrev pub stored : Driven → Line → ParcelView → Result ℕ Trouble
  stored d x parcel =
      if nat_le (d.environment.objects + length parcel.objects) object_limit then
      Ok (d.environment.objects + length parcel.objects)
      else
      fault StoreFull environment_number (at_line x)

  -- both are at their beginning
  pub record IsDrivenStart (d : Driven) : Type 0 where
    pub system : IsStart g.setting d.system
    pub environment : d.environment ≡ record { doing = begins g.lines; objects = 0 }
