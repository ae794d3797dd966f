-- A state, and how far it can change without taking memory.
use Rattle.std.specs.Prelude.{◌<◌, ◌≤◌, ℕ, List, length, map, get_or}
use Rattle.pz_state.specs.States.{StateView}
use Rattle.pz_state.specs.declared.contents.Contents.TheInside.{Inside}

-- up to which number there is room for frames, and for how many items of each object
pub record Room : Type 0 where
  pub frames : ℕ
  pub items : List ℕ

pub record StoredState : Type 0 where
  pub state : StateView
  pub room : Room

abbrev pub stored_state : Inside → StoredState
stored_state s = record {
  state = record { vars = s.vars.items; frames = s.frames.frames; objects = map (λ o. o.object) s.objects.items };
  room = record { frames = s.frames.room; items = map (λ o. o.room) s.objects.items };
}

-- there is room wherever there was
pub record IsWider (old new : Room) : Type 0 where
  pub frames : old.frames ≤ new.frames
  pub items : (r : ℕ) → get_or old.items r 0 ≤ get_or new.items r 0

-- there is as much room for this state as there was
pub record KeepsRoom (old : Room) (new : StoredState) : Type 0 where
  pub frames : old.frames ≤ new.room.frames
  pub items : (r : ℕ) → r < length new.state.objects → get_or old.items r 0 ≤ get_or new.room.items r 0
