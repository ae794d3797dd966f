use Rattle.std.proofs.Common.{◌≡◌, ◌+◌, ◌*◌, ◌++◌, map, drop}
use Rattle.pz_syntax.specs.StatementView.{view, sequence_view, branches_of}
use Rattle.pz_classes_beginnings.specs.Beginning.{all_plain_calls, plain_calls_of_each}
use Rattle.pz_classes_beginnings.proofs.plain.+plain.Given as goal

abbrev pub invariant-add_plain_calls-loop-statement : goal.invariant-add_plain_calls-loop-statement
invariant-add_plain_calls-loop-statement l = l.out ++ all_plain_calls (sequence_view (drop l.statement-index l.statements)) ≡ l.fn.out ++ all_plain_calls (sequence_view l.statements)

abbrev pub invariant-add_plain_calls_of_each-loop-branch : goal.invariant-add_plain_calls_of_each-loop-branch
invariant-add_plain_calls_of_each-loop-branch l = l.out ++ plain_calls_of_each (branches_of (map (map view) (drop l.branch-index l.branches))) ≡ l.fn.out ++ plain_calls_of_each (branches_of (map (map view) l.branches))

-- the depth comes first; at the same depth, lists of lists come before lists and these before one statement
abbrev pub decreases-add_plain_calls_of : goal.decreases-add_plain_calls_of
decreases-add_plain_calls_of l = 3 * goal.size-add_plain_calls_of l

abbrev pub decreases-add_plain_calls : goal.decreases-add_plain_calls
decreases-add_plain_calls l = 3 * goal.size-add_plain_calls l + 1

abbrev pub decreases-add_plain_calls_of_each : goal.decreases-add_plain_calls_of_each
decreases-add_plain_calls_of_each l = 3 * goal.size-add_plain_calls_of_each l + 2
