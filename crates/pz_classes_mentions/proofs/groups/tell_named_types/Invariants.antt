use Rattle.std.proofs.Common.{◌≡◌, drop}
use Rattle.pz_classes_mentions.specs.Declarations.{named_types}
use Rattle.pz_classes_mentions.specs.Words.{told}
use Rattle.pz_classes_mentions.proofs.groups.tell_named_types.Given as goal

abbrev pub invariant-loop-kind : goal.invariant-loop-kind
invariant-loop-kind g l = told (g.L.Listener.after l.listener) l.heard (named_types (drop l.kind-index l.kinds)) ≡ told (g.L.Listener.after l.listener) l.fn.heard (named_types l.kinds)
