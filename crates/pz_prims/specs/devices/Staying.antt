-- What every outcome keeps.
use Rattle.std.specs.Prelude.{◌≡◌, length}
use Rattle.pz_state.specs.States.{StateView}
use Rattle.pz_prims.specs.Table.{Outcome}
use Rattle.pz_prims.specs.Promises.{AnswersWithin}

-- a reference that is answered names an object, and there are as many objects as before
abbrev pub StaysWithin : StateView → Outcome → Type 0
StaysWithin s o = AnswersWithin (length s.objects) o.answer × (length o.state.objects ≡ length s.objects)
