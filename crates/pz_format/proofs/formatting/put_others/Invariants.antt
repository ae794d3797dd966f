use Rattle.std.proofs.Common.{◌≡◌, ◌+◌, ◌≤◌, ◌++◌, length}
use Rattle.pz_format.specs.Levels.{start, behind}
use Rattle.pz_format.specs.Layout.{text_behind}
use Rattle.pz_format.proofs.formatting.put_others.Given as goal

abbrev pub invariant-pieces : goal.invariant-pieces
invariant-pieces l =
    (l.text.items ++ text_behind l.level l.before l.rest ≡ l.fn.text.items ++ text_behind (behind start l.first) l.first l.others)
    × (l.level.opened + length l.rest ≤ 1 + length l.others)
    × (l.level.closed + length l.rest ≤ 1 + length l.others)

abbrev pub decreases-pieces : goal.decreases-pieces
decreases-pieces l = length l.rest
