use Rattle.std.proofs.Common.{◌≡◌, drop}
use Rattle.pz_classes_mentions.specs.Declarations.{mentioned_givens}
use Rattle.pz_classes_mentions.specs.Words.{told}
use Rattle.pz_classes_mentions.proofs.instances.tell_givens.Given as goal

abbrev pub invariant-loop-given : goal.invariant-loop-given
invariant-loop-given g l = told (g.L.Listener.after l.listener) l.heard (mentioned_givens (drop l.given-index l.givens)) ≡ told (g.L.Listener.after l.listener) l.fn.heard (mentioned_givens l.givens)
