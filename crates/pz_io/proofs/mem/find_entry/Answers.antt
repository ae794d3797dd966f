use Rattle.std.proofs.Common.{◌∙◌, add-one}
use Rattle.pz_io.proofs.Places.{lookup-drop-found, lookup-drop-passed}
use Rattle.pz_io.proofs.mem.find_entry.Goals as goal

pub returns-then-eq : goal.returns-then-eq
returns-then-eq c = c.loop-i.invariant ∙ lookup-drop-found c.args.entries.now c.loop-i.i c.index-entries-i.result c.args.name.now c.loop-i-test.true c.index-entries-i.is (cc)

pub loop-i-preserved : goal.loop-i-preserved
loop-i-preserved c = rw add-one (c.loop-i.invariant ∙ lookup-drop-passed c.args.entries.now c.loop-i.i c.index-entries-i.result c.args.name.now c.loop-i-test.true c.index-entries-i.is (cc))
