use Rattle.std.proofs.Common.{List, ◌∷◌, ◌++◌, take}
use Rattle.pz_classes_code.specs.pz_syntax.declared.names.Id.{Id}
use Rattle.pz_classes.specs.pz_classes_rules.Members.{grouped}
use Rattle.pz_check_names.specs.devices.Shown.{ShowsNames}
use Rattle.pz_check_names.proofs.names.note_groups.Given as goal

abbrev pub invariant-loop-group : goal.invariant-loop-group
invariant-loop-group l = (own : List Id) (outer : List (List Id)) → ShowsNames (own ∷ outer) l.initial.names → ShowsNames ((own ++ grouped (take l.group-index l.groups)) ∷ outer) l.names
