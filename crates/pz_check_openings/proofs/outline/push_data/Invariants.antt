use Rattle.std.proofs.Common.{◌≡◌, ◌++◌}
use Rattle.pz_check_openings.specs.devices.Outlines.{nones}
use Rattle.pz_check_openings.proofs.outline.push_data.Given as goal

abbrev pub invariant-loop-method : goal.invariant-loop-method
invariant-loop-method l = l.outlines ≡ l.fn.outlines ++ nones l._method
