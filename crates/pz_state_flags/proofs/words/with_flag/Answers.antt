use Rattle.std.proofs.Common.{w64}
use Rattle.std.proofs.lemmas.Nat.Bits.{bit_at_set_same, bit_at_set_other, bit_at_clear_same, bit_at_clear_other}
use Rattle.pz_state_flags.proofs.words.with_flag.Goals as goal

pub returns-then-flag-clause-same : goal.returns-then-flag-clause-same
returns-then-flag-clause-same c = rw c.if-flag.true (bit_at_set_same w64 c.args.word c.args.bit c.requires)

pub returns-then-flag-clause-others : goal.returns-then-flag-clause-others
returns-then-flag-clause-others c = λ i lt ne. bit_at_set_other w64 c.args.word c.args.bit c.requires i ne

pub returns-else-flag-clause-same : goal.returns-else-flag-clause-same
returns-else-flag-clause-same c = rw c.if-flag.false (bit_at_clear_same w64 c.args.word c.args.bit c.requires)

pub returns-else-flag-clause-others : goal.returns-else-flag-clause-others
returns-else-flag-clause-others c = bit_at_clear_other w64 c.args.word c.args.bit c.requires
