use Rattle.std.proofs.Common.{◌≡◌, ◌+◌, ◌*◌, map, drop}
use Rattle.pz_syntax.specs.StatementView.{view, sequence_view, branches_of}
use Rattle.pz_classes_mentions.specs.Statements.{mentioned_statements, mentioned_branches}
use Rattle.pz_classes_mentions.specs.Words.{told}
use Rattle.pz_classes_mentions.proofs.statements.+tell.Given as goal

abbrev pub invariant-tell_statements-loop-statement : goal.invariant-tell_statements-loop-statement
invariant-tell_statements-loop-statement g l = told (g.L.Listener.after l.listener) l.heard (mentioned_statements (sequence_view (drop l.statement-index l.statements))) ≡ told (g.L.Listener.after l.listener) l.fn.heard (mentioned_statements (sequence_view l.statements))

abbrev pub invariant-tell_branches-loop-branch : goal.invariant-tell_branches-loop-branch
invariant-tell_branches-loop-branch g l = told (g.L.Listener.after l.listener) l.heard (mentioned_branches (branches_of (map (map view) (drop l.branch-index l.branches)))) ≡ told (g.L.Listener.after l.listener) l.fn.heard (mentioned_branches (branches_of (map (map view) l.branches)))

-- the depth comes first; at the same depth, branches come before statements and these before one
abbrev pub decreases-tell_statement : goal.decreases-tell_statement
decreases-tell_statement g l = 4 * goal.size-tell_statement g l

abbrev pub decreases-tell_statements : goal.decreases-tell_statements
decreases-tell_statements g l = 4 * goal.size-tell_statements g l + 1

abbrev pub decreases-tell_branches : goal.decreases-tell_branches
decreases-tell_branches g l = 4 * goal.size-tell_branches g l + 2
