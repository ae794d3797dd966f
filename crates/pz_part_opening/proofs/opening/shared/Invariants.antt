use Rattle.std.proofs.Common.{◌≡◌, take}
use Rattle.pz_part_opening.proofs.opening.shared.Given as goal

abbrev pub invariant-loop-step : goal.invariant-loop-step
invariant-loop-step l = l.copies ≡ take l.step-index l.steps
