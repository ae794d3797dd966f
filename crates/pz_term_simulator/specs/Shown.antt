-- What a variable of a process holds at the moment.
use Rattle.std.specs.Prelude.{◌≡◌, ◌<◌, ℕ, [], ◌∷◌, length, Some, slice_get}
use Rattle.pz_rules.specs.pz_state.States.{variable}
use Rattle.pz_rules.specs.pz_copy.Parcels.{ParcelView}
use Rattle.pz_rules.specs.pz_copy.Packing.{IsParcelOf}
use Rattle.pz_rules.specs.pz_bind_rules.Nest.{processes}
use Rattle.pz_rules.specs.Settings.{Process}
use Rattle.pz_rules.specs.Configurations.{Config}
use Rattle.pz_term_simulator.specs.Simulations.{Simulation, stands, broken}

-- The value of variable v in the state of process i, as a parcel, with all objects to which it leads. A
-- variable that the state does not have is nil, as it reads.
pub record HoldsValue (c : Config) (i v : ℕ) (parcel : ParcelView) : Type 0 where
  pub process : Process
  pub stands : slice_get c.processes i ≡ Some process
  pub is_parcel : IsParcelOf process.state (variable process.state v ∷ []) parcel

abbrev pub IsShown : Simulation → ℕ → ℕ → ParcelView → Type 0
IsShown (stands setting c standing) i v parcel = HoldsValue c i v parcel
IsShown (broken setting) i v parcel = ⊥

-- memory was never wanting, and the model has a process i
abbrev pub CanShow : Simulation → ℕ → Type 0
CanShow (stands setting c standing) i = i < length (processes setting.model)
CanShow (broken setting) i = ⊥
