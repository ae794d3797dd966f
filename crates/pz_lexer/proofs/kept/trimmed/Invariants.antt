use Rattle.std.proofs.Common.{◌≡◌, length}
use Rattle.pz_lexer.specs.Kept.{trimmed}
use Rattle.pz_lexer.proofs.kept.trimmed.Given as goal

abbrev pub invariant-ends : goal.invariant-ends
invariant-ends l = trimmed l.rest ≡ trimmed l.text

abbrev pub decreases-ends : goal.decreases-ends
decreases-ends l = length l.rest
