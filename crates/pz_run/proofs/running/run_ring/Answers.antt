use Rattle.std.proofs.Common.{refl}
use Rattle.pz_run_output.proofs.RingLength.{ring_is_short}
use Rattle.pz_run_output.proofs.Sayings.{nothing}
use Rattle.pz_run.proofs.running.run_ring.Goals as goal

pub run_text-requires-clause-short : goal.run_text-requires-clause-short
run_text-requires-clause-short g c = rw (c.as_slice.ensures.value, c.in-Ok.ensures) (ring_is_short c.args.n c.requires.size.most)

pub returns-in-Ok-clause-printed : goal.returns-in-Ok-clause-printed
returns-in-Ok-clause-printed g c = rw (c.as_slice.ensures.value, c.in-Ok.ensures) at c.run_text.ensures.printed

pub returns-in-Err-clause-printed : goal.returns-in-Err-clause-printed
returns-in-Err-clause-printed g c = nothing _ _

pub returns-in-Ok-clause-simulator : goal.returns-in-Ok-clause-simulator
returns-in-Ok-clause-simulator g c = rw (c.as_slice.ensures.value, c.in-Ok.ensures) at c.run_text.ensures.simulator

pub returns-in-Err-clause-simulator : goal.returns-in-Err-clause-simulator
returns-in-Err-clause-simulator g c = λ written ample. absurd (ample refl)

pub returns-in-Ok-clause-unbegun : goal.returns-in-Ok-clause-unbegun
returns-in-Ok-clause-unbegun g c = c.run_text.ensures.unbegun

pub returns-in-Err-clause-unbegun : goal.returns-in-Err-clause-unbegun
returns-in-Err-clause-unbegun g c = λ never. refl
