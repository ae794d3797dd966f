use Rattle.std.proofs.Common.{Bool, length, subst}
use Rattle.pz_check_calls.specs.devices.Raising.{Raises}
use Rattle.pz_check_calls.proofs.Raisings.{standing}
use Rattle.pz_check_calls.proofs.counting.totals.Goals as goal

pub returns : goal.returns
returns c =
    let stood = subst (λ (grew : Bool). Raises c.args.methods.now c.loop.totals.items c.raise_all.new.totals.items grew (length c.args.methods.now)) c.loop-test.false c.raise_all.ensures in
    standing c.args.methods.now c.loop.totals.items c.raise_all.new.totals.items stood c.loop.invariant.reached
