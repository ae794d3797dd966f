use Rattle.std.proofs.Common.{◌≡◌, ◌≤◌, ◌+◌, ◌*◌, min, map, drop}
use Rattle.pz_syntax.specs.StatementView.{view, sequence_view, branches_of}
use Rattle.pz_classes_beginnings.specs.Beginning.{statements_in_all, statements_in_each}
use Rattle.pz_classes_beginnings.proofs.counting.+count.Given as goal

abbrev pub invariant-count_up_to-loop-statement : goal.invariant-count_up_to-loop-statement
invariant-count_up_to-loop-statement l = record { bounded : l.count ≤ l.most; counted : min (l.count + statements_in_all (sequence_view (drop l.statement-index l.statements))) l.most ≡ min (statements_in_all (sequence_view l.statements)) l.most }

abbrev pub invariant-count_of_each-loop-branch : goal.invariant-count_of_each-loop-branch
invariant-count_of_each-loop-branch l = record { bounded : l.count ≤ l.most; counted : min (l.count + statements_in_each (branches_of (map (map view) (drop l.branch-index l.branches)))) l.most ≡ min (statements_in_each (branches_of (map (map view) l.branches))) l.most }

-- the depth comes first; at the same depth, lists of lists come before lists and these before one statement
abbrev pub decreases-count_of : goal.decreases-count_of
decreases-count_of l = 3 * goal.size-count_of l

abbrev pub decreases-count_up_to : goal.decreases-count_up_to
decreases-count_up_to l = 3 * goal.size-count_up_to l + 1

abbrev pub decreases-count_of_each : goal.decreases-count_of_each
decreases-count_of_each l = 3 * goal.size-count_of_each l + 2
