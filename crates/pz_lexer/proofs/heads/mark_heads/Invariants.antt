use Rattle.pz_lexer.proofs.HeadMarks.{MarkedFrom}
use Rattle.pz_lexer.proofs.heads.mark_heads.Given as goal

abbrev pub invariant-pieces : goal.invariant-pieces
invariant-pieces l = MarkedFrom l.left l.fn.pieces l.pieces l.following

abbrev pub decreases-pieces : goal.decreases-pieces
decreases-pieces l = l.left
