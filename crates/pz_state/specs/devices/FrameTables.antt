-- The open frames as a table of all numbers up to some: the locals of an open frame, or nothing.
use Rattle.std.specs.Prelude.{◌≡◌, ◌≤◌, ℕ, suc, List, [], ◌∷◌, length, slice_index_or, is_some, Option, Some, None, Vec}
use Rattle.std.specs.declared.alloc.Global.{Global}
use Rattle.pz_value.specs.declared.value.Value.{Value}
use Rattle.pz_state_flags.specs.Flags.{is_set, room}
use Rattle.pz_state.specs.declared.frames.FrameTable.TheInside.{Inside}
use Rattle.pz_state.specs.States.{Frames}

abbrev pub Table : Type 0
Table = List (Option (Vec Value Global))

-- the frames of a table that has the one of this number first
abbrev pub frames_from : ℕ → Table → Frames
frames_from number [] = []
frames_from number (None ∷ rest) = frames_from (suc number) rest
frames_from number (Some values ∷ rest) = (number, values.items) ∷ frames_from (suc number) rest

-- the frames, and up to which number they can be opened without taking memory
pub record StoredFrames : Type 0 where
  pub frames : Frames
  pub room : ℕ

abbrev pub stored : Table → StoredFrames
stored table = record { frames = frames_from 1 table; room = length table }

-- the flag of each place is set where a frame is open, and there is room for the flags of all places
pub record IsFlagged (f : Inside) : Type 0 where
  pub flags : (i : ℕ) → is_set f.flags i ≡ is_some (slice_index_or f.table.items i None)
  pub fits : length f.table.items ≤ room f.flags
