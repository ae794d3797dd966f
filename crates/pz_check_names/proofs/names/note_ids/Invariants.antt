use Rattle.std.proofs.Common.{List, ◌∷◌, ◌++◌, take}
use Rattle.pz_classes_code.specs.pz_syntax.declared.names.Id.{Id}
use Rattle.pz_check_names.specs.devices.Shown.{ShowsNames}
use Rattle.pz_check_names.proofs.names.note_ids.Given as goal

abbrev pub invariant-loop-id : goal.invariant-loop-id
invariant-loop-id l = (own : List Id) (outer : List (List Id)) → ShowsNames (own ∷ outer) l.initial.names → ShowsNames ((own ++ take l.id-index l.ids) ∷ outer) l.names
