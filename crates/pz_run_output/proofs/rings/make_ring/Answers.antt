use Rattle.pz_gen.specs.Ring.{model as ring_text}
use Rattle.pz_run_output.proofs.rings.make_ring.Goals as goal

pub returns : goal.returns
returns g c = c.say_made.ensures (ring_text c.args.n) c.make.ensures
