use Rattle.std.proofs.Common.{◌≡◌, drop}
use Rattle.pz_classes_mentions.specs.Statements.{variables}
use Rattle.pz_classes_mentions.specs.Words.{told}
use Rattle.pz_classes_mentions.proofs.expressions.tell_variables.Given as goal

abbrev pub invariant-loop-x : goal.invariant-loop-x
invariant-loop-x g l = told (g.L.Listener.after l.listener) l.heard (variables (drop l.x-index l.xs)) ≡ told (g.L.Listener.after l.listener) l.fn.heard (variables l.xs)
