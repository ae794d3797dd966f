-- What an assignment changes, and where a journal notes what stood there.
use Rattle.std.specs.Prelude.{◌≡◌, ℕ, List, Option, Some, None, get_or}
use Rattle.pz_value.specs.declared.value.Value.TheVariants as value
use Rattle.pz_state.specs.declared.spots.Spot.{Spot}
use Rattle.pz_state.specs.declared.spots.Spot.TheVariants as spot
use Rattle.pz_state.specs.declared.journal.Change.TheVariants as change
use Rattle.pz_state.specs.declared.journal.Entry.{Entry}
use Rattle.pz_state.specs.declared.journal.Entry.TheVariants as entry
use Rattle.pz_state.specs.States.{StateView, set_variable, set_local, set_item}
use Rattle.pz_state.specs.devices.StoredStates.{Room}
use Rattle.pz_state.specs.devices.Journals.{marks_from, AreReady}

-- the state with nil there
abbrev pub emptied : Spot → StateView → StateView
emptied (spot.Variable slot) s = set_variable s slot value.Nil
emptied (spot.Local frame slot) s = set_local s frame slot value.Nil
emptied (spot.Item r place) s = set_item s r place value.Nil

-- the states differ in nothing else
abbrev pub AreAlike : Spot → StateView → StateView → Type 0
AreAlike x s t = emptied x s ≡ emptied x t

-- the spot whose former value an entry notes, if it notes one
abbrev pub spot_of : Entry → Option Spot
spot_of (entry.Change (change.Variable slot old)) = Some (spot.Variable slot)
spot_of (entry.Change (change.Local frame slot old)) = Some (spot.Local frame slot)
spot_of (entry.Change (change.Item r place old)) = Some (spot.Item r place)
spot_of _ = None

abbrev pub IsNotedAt : List Entry → ℕ → Spot → Type 0
IsNotedAt es place x = spot_of (get_or es place entry.Kept) ≡ Some x

-- whatever stands there, these entries lead back to the same, and take no memory for it
pub record IsFree (x : Spot) (es : List Entry) : Type 0 where
  pub marks : (room : Room) (s t : StateView) → AreAlike x s t → AreReady room es s → marks_from 0 es t ≡ marks_from 0 es s
  pub ready : (room : Room) (s t : StateView) → AreAlike x s t → AreReady room es s → AreReady room es t
