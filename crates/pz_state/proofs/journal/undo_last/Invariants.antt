use Rattle.std.proofs.Common.{◌≤◌, List, length}
use Rattle.pz_state.specs.declared.journal.Entry.{Entry}
use Rattle.pz_state.specs.States.{StateView}
use Rattle.pz_state.specs.devices.Journals.{Undoes, AreReady}
use Rattle.pz_state.proofs.journal.undo_last.Given as goal

-- what leads back from here leads back from the start
abbrev pub invariant-loop-entry : goal.invariant-loop-entry
invariant-loop-entry l = record {
  leads : (s : StateView) (es : List Entry) → Undoes l.contents.state l.entries.items s es → Undoes l.initial.contents.state l.initial.entries.items s es;
  ready : AreReady l.contents.room l.entries.items l.contents.state;
  fewer : length l.contents.state.objects ≤ length l.initial.contents.state.objects;
}

abbrev pub decreases-loop-entry : goal.decreases-loop-entry
decreases-loop-entry l = length l.entries.items
