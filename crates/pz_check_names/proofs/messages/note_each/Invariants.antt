use Rattle.std.proofs.Common.{List, ◌∷◌, ◌++◌, take}
use Rattle.pz_classes_code.specs.pz_syntax.declared.classes.Message.{Message}
use Rattle.pz_check_names.specs.devices.Shown.{ShowsMessages}
use Rattle.pz_check_names.proofs.messages.note_each.Given as goal

abbrev pub invariant-loop-message : goal.invariant-loop-message
invariant-loop-message l = (own : List Message) (outer : List (List Message)) → ShowsMessages (own ∷ outer) l.initial.noted → ShowsMessages ((own ++ take l.message-index l.messages) ∷ outer) l.noted
