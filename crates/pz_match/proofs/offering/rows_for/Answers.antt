-- Where nothing asks, nothing is said.
use Rattle.std.proofs.Common.{sym, arith}
use Rattle.std.specs.Prelude.{map}
use Rattle.pz_match.specs.devices.Kept.{kept}
use Rattle.pz_match.proofs.Offered.{none_asked_in}
use Rattle.pz_match.proofs.offering.rows_for.Goals as goal

pub returns-then-asking-eq0-clause-rows : goal.returns-then-asking-eq0-clause-rows
returns-then-asking-eq0-clause-rows g c =
    rw c.new.ensures (sym (none_asked_in (g.J.Judge.verdict c.args.judge.now) c.args.sender.now c.args.group (map kept c.args.all.now) (omega (arith, c.requires.covers, c.if-asking-eq0.true))))
