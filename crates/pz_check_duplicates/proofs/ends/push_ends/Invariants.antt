use Rattle.std.proofs.Common.{◌≡◌, ◌++◌, map, take}
use Rattle.pz_check_duplicates.specs.devices.Tips.{tip, tip_of}
use Rattle.pz_check_duplicates.proofs.ends.push_ends.Given as goal

abbrev pub invariant-loop-end : goal.invariant-loop-end
invariant-loop-end l = map tip_of l.things ≡ map tip_of l.initial.things ++ map tip (take l.end-index l.ends)
