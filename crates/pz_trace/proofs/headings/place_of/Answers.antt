use Rattle.std.proofs.Common.{◌≡◌, ℕ, suc, ◌+◌, take, subst, arith}
use Rattle.std.proofs.lemmas.List.{take_all}
use Rattle.pz_trace.specs.devices.Reading.{Lacks}
use Rattle.pz_trace.proofs.Cut.{lacks_more, stands_first}
use Rattle.pz_trace.proofs.headings.place_of.Goals as goal

pub returns-then-other-byte : goal.returns-then-other-byte
returns-then-other-byte c = stands_first c.args.byte c.loop-i.i c.args.text.now c.loop-i-test.true c.loop-i.invariant c.if-other-byte.true

pub loop-i-preserved : goal.loop-i-preserved
loop-i-preserved c =
    let same : suc c.loop-i.i ≡ c.loop-i.i + 1 = omega arith in
    subst (λ (j : ℕ). Lacks c.args.byte (take j c.args.text.now)) same (lacks_more c.args.byte c.loop-i.i c.args.text.now c.loop-i-test.true c.loop-i.invariant c.if-other-byte.false)

pub returns : goal.returns
returns c = subst (Lacks c.args.byte) (take_all c.loop-i.i c.args.text.now c.loop-i-test.false) c.loop-i.invariant
