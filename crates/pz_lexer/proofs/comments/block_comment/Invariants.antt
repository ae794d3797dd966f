use Rattle.std.proofs.Common.{length, ◌-◌, ◌≤◌}
use Rattle.pz_lexer.proofs.CommentReads.{Sought}
use Rattle.pz_lexer.proofs.comments.block_comment.Given as goal

abbrev pub invariant-body : goal.invariant-body
invariant-body l = (l.at ≤ length l.text) × Sought l.text l.at

abbrev pub decreases-body : goal.decreases-body
decreases-body l = length l.text - l.at
