use Rattle.std.proofs.Common.{length}
use Rattle.pz_lexer.proofs.CutReads.{CutTo}
use Rattle.pz_lexer.proofs.lexer.cut.Given as goal

abbrev pub invariant-pieces : goal.invariant-pieces
invariant-pieces l = CutTo l.text l.rest l.pos l.pieces.items

abbrev pub decreases-pieces : goal.decreases-pieces
decreases-pieces l = length l.rest
