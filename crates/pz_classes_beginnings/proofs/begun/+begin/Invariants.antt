use Rattle.std.proofs.Common.{◌≡◌, ◌+◌, ◌*◌, ◌++◌, map, drop}
use Rattle.pz_syntax.specs.StatementView.{view, branches_of}
use Rattle.pz_classes_beginnings.specs.Beginning.{begun_each}
use Rattle.pz_classes_beginnings.proofs.begun.+begin.Given as goal

abbrev pub invariant-add_begun_by_each-loop-branch : goal.invariant-add_begun_by_each-loop-branch
invariant-add_begun_by_each-loop-branch l = l.out ++ begun_each (branches_of (map (map view) (drop l.branch-index l.branches))) ≡ l.fn.out ++ begun_each (branches_of (map (map view) l.branches))

-- the depth comes first; at the same depth, lists of lists come before lists and these before one statement
abbrev pub decreases-add_begun_by : goal.decreases-add_begun_by
decreases-add_begun_by l = 3 * goal.size-add_begun_by l

abbrev pub decreases-add_begun : goal.decreases-add_begun
decreases-add_begun l = 3 * goal.size-add_begun l + 1

abbrev pub decreases-add_begun_by_each : goal.decreases-add_begun_by_each
decreases-add_begun_by_each l = 3 * goal.size-add_begun_by_each l + 2
