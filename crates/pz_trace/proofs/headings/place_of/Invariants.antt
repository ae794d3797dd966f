use Rattle.std.proofs.Common.{take}
use Rattle.pz_trace.specs.devices.Reading.{Lacks}
use Rattle.pz_trace.proofs.headings.place_of.Given as goal

abbrev pub invariant-loop-i : goal.invariant-loop-i
invariant-loop-i l = Lacks l.byte (take l.i l.text)
