-- What takes a change of a state back.
use Rattle.std.specs.Prelude.{◌≡◌, ◌<◌, ◌≤◌, ◌+◌, ◌-◌, ◌++◌, List, length, take, reverse, get_or, None}
use Rattle.pz_state.specs.declared.journal.Change.{Change}
use Rattle.pz_state.specs.declared.journal.Change.TheVariants as change
use Rattle.pz_state.specs.States.{StateView, HasVariable, HasFrame, HasLocal, HasObject, HasItem, locals_in, object, set_variable, set_local, set_item, at_object, with_frame, without_frame}
use Rattle.pz_state.specs.devices.StoredStates.{Room, StoredState, IsWider}

abbrev pub without_last : {A : Type 0} → List A → List A
without_last xs = take (length xs - 1) xs

-- the state before the change
abbrev pub taken_back : Change → StateView → StateView
taken_back (change.Variable slot old) s = set_variable s slot old
taken_back (change.Local frame slot old) s = set_local s frame slot old
taken_back (change.Item r place old) s = set_item s r place old
taken_back (change.Grown r count) s = record s { objects = at_object r (take count) s.objects }
taken_back (change.Cut r cut) s = record s { objects = at_object r (λ items. items ++ reverse cut.items) s.objects }
taken_back (change.Opened frame) s = record s { frames = without_frame frame s.frames }
taken_back (change.Closed frame locals) s = record s { frames = with_frame frame locals.items s.frames }
taken_back change.Made s = record s { objects = without_last s.objects }

-- it can be taken back without taking memory
abbrev pub IsReady : Room → Change → StateView → Type 0
IsReady room (change.Variable slot old) s = HasVariable s slot
IsReady room (change.Local frame slot old) s = HasLocal s frame slot
IsReady room (change.Item r place old) s = HasItem s r place
IsReady room (change.Grown r count) s = HasObject s r
IsReady room (change.Cut r cut) s = HasObject s r × (length (object s r).items + length cut.items ≤ get_or room.items r 0)
IsReady room (change.Opened frame) s = HasFrame s frame
IsReady room (change.Closed frame locals) s = (0 < frame) × (frame ≤ room.frames) × (locals_in s.frames frame ≡ None)
IsReady room change.Made s = Unit {0}

-- what was changed can be taken back
pub record LeadsBack (old new : StoredState) (change : Change) : Type 0 where
  pub back : taken_back change new.state ≡ old.state
  pub ready : IsReady new.room change new.state
  pub room : IsWider old.room new.room
