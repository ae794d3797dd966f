-- What the fields of a `State` stand for, and what they keep.
use Rattle.std.specs.Prelude.{◌≡◌, ◌≤◌, [], length, map, reverse, All}
use Rattle.pz_state.specs.States.{object_limit}
use Rattle.pz_state.specs.declared.state.State.TheInside.{Inside}
use Rattle.pz_state.specs.References.{IsSelfContained}
use Rattle.pz_state.specs.Marks.{Seen}
use Rattle.pz_state.specs.devices.Journals.{marks_from, AreReady}

abbrev pub seen : Inside → Seen
seen s = record { held = s.contents.state; marks = marks_from 0 s.journal.entries.items s.contents.state }

pub record IsKept (s : Inside) : Type 0 where
  -- the open marks stand at these places, and without any nothing is in the journal
  pub placed : reverse s.journal.places.items ≡ map (λ m. m.0) (marks_from 0 s.journal.entries.items s.contents.state)
  pub settled : length s.journal.places.items ≡ 0 → s.journal.entries.items ≡ []
  -- undoing takes no memory
  pub ready : AreReady s.contents.room s.journal.entries.items s.contents.state
  -- references name objects that are there, also in the marked states
  pub contained : IsSelfContained s.contents.state
  pub marked : All (λ m. IsSelfContained m.1) (marks_from 0 s.journal.entries.items s.contents.state)
  pub limit : length s.contents.state.objects ≤ object_limit
