-- Wire by wire, if there is any.
use Rattle.std.proofs.Common.{◌∙◌, sym, arith}
use Rattle.std.specs.Prelude.{map}
use Rattle.pz_match.specs.devices.Kept.{kept}
use Rattle.pz_match.proofs.Troubles.{trouble_more, trouble_at}
use Rattle.pz_match.proofs.Untroubled.{untroubled}
use Rattle.pz_match.proofs.seeking.find_trouble.Goals as goal

pub returns-then-troubles-eq0 : goal.returns-then-troubles-eq0
returns-then-troubles-eq0 c = sym (untroubled c.args.groups.now (map kept c.args.all.now) c.requires.holds (sym c.troubles.ensures ∙ c.if-troubles-eq0.true) c.args.groups.now.wires)

pub returns-in-Some : goal.returns-in-Some
returns-in-Some c =
    sym
    (trouble_at (map kept c.args.all.now) c.loop-wire.wire c.args.groups.now.wires c.in-Some.trouble (omega (arith, c.loop-wire-test.true, c.wires-wire-end.ensures)) c.loop-wire.invariant (sym c.in-Some.ensures))

pub loop-wire-preserved : goal.loop-wire-preserved
loop-wire-preserved c = trouble_more (map kept c.args.all.now) c.loop-wire.wire c.loop-wire.invariant (sym c.in-None.ensures)
