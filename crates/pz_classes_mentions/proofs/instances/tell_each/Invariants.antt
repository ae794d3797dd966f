use Rattle.std.proofs.Common.{◌≡◌, drop}
use Rattle.pz_classes_mentions.specs.Declarations.{mentioned_instances}
use Rattle.pz_classes_mentions.specs.Words.{told}
use Rattle.pz_classes_mentions.proofs.instances.tell_each.Given as goal

abbrev pub invariant-loop-instance : goal.invariant-loop-instance
invariant-loop-instance g l = told (g.L.Listener.after l.listener) l.heard (mentioned_instances (drop l.instance-index l.instances)) ≡ told (g.L.Listener.after l.listener) l.fn.heard (mentioned_instances l.instances)
