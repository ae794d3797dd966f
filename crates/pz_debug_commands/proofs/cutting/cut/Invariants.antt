use Rattle.std.proofs.Common.{take}
use Rattle.pz_debug_commands.specs.Lines.{Lacks}
use Rattle.pz_debug_commands.proofs.cutting.cut.Given as goal

abbrev pub invariant-loop-i : goal.invariant-loop-i
invariant-loop-i l = Lacks l.byte (take l.i l.text)
