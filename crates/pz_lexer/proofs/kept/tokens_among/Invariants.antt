use Rattle.std.proofs.Common.{◌≡◌}
use Rattle.pz_lexer.specs.Kept.{tokens_among}
use Rattle.pz_lexer.proofs.kept.tokens_among.Given as goal

abbrev pub invariant-loop-piece : goal.invariant-loop-piece
invariant-loop-piece l = l.tokens.items ≡ tokens_among l.yielded
