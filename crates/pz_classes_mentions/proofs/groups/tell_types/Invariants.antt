use Rattle.std.proofs.Common.{◌≡◌, drop}
use Rattle.pz_classes_mentions.specs.Declarations.{types}
use Rattle.pz_classes_mentions.specs.Words.{told}
use Rattle.pz_classes_mentions.proofs.groups.tell_types.Given as goal

abbrev pub invariant-loop-group : goal.invariant-loop-group
invariant-loop-group g l = told (g.L.Listener.after l.listener) l.heard (types (drop l.group-index l.groups)) ≡ told (g.L.Listener.after l.listener) l.fn.heard (types l.groups)
