use Rattle.std.proofs.Common.{◌≡◌, ◌++◌, string_bytes}
use Rattle.pz_gen.specs.Ring.{each, channel}
use Rattle.pz_gen.proofs.ring.add_channels.Given as goal

abbrev pub invariant-loop-i : goal.invariant-loop-i
invariant-loop-i l = string_bytes l.text ≡ string_bytes l.initial.text ++ each l.i-counter (channel l.n)
