use Rattle.std.proofs.Common.{◌≡◌, drop}
use Rattle.pz_term_enabled.specs.devices.Adding.{least_of}
use Rattle.pz_term_enabled.proofs.adding.least_of.Given as goal

abbrev pub invariant-loop-left : goal.invariant-loop-left
invariant-loop-left l = least_of l.least (drop l.left-index l.delays) ≡ least_of l.fn.least l.delays
