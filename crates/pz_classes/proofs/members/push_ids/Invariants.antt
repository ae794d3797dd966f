use Rattle.std.proofs.Common.{◌≡◌, ◌++◌, take}
use Rattle.pz_classes_rules.specs.Members.{spelled}
use Rattle.pz_classes.proofs.members.push_ids.Given as goal

abbrev pub invariant-loop-id : goal.invariant-loop-id
invariant-loop-id l = l.names ≡ l.initial.names ++ spelled (take l.id-index l.ids)
