use Rattle.std.proofs.Common.{◌+◌, arith}
use Rattle.std.proofs.lemmas.Bool.{false≢true}
use Rattle.pz_lexer.proofs.NumberReads.{value_more, value_front}
use Rattle.pz_lexer.proofs.numbers.value_of.Goals as goal

pub returns-then-value-clause-fits : goal.returns-then-value-clause-fits
returns-then-value-clause-fits c = (
  λ e. absurd (false≢true e),
  λ small. absurd (omega (arith, small, c.loop-digit.invariant.0, value_more c.args.digits.now c.loop-digit.digit-index c.loop-digit-test.true, value_front c.args.digits.now (c.loop-digit.digit-index + 1), c.if-value.true, c.from.ensures)),
)
