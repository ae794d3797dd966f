use Rattle.std.proofs.Common.{◌∙◌}
use Rattle.pz_gen.specs.Ring.{station}
use Rattle.pz_gen.proofs.Stations.{goes_on}
use Rattle.pz_gen.proofs.ring.add_stations.Goals as goal

pub loop-i-preserved : goal.loop-i-preserved
loop-i-preserved c = goes_on station c.loop-i.i-counter _ _ _ _ c.loop-i.invariant c.in_ok-push_str.ensures.bytes (c.as_str.ensures.value ∙ c.in_ok-line.ensures.ok)
