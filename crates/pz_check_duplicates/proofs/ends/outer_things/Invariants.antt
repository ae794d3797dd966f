use Rattle.std.proofs.Common.{◌≡◌, map, take}
use Rattle.pz_check_duplicates.specs.devices.Again.{thing_place}
use Rattle.pz_check_duplicates.specs.devices.Outers.{outer_places}
use Rattle.pz_check_duplicates.proofs.ends.outer_things.Given as goal

abbrev pub invariant-loop-end : goal.invariant-loop-end
invariant-loop-end l = map thing_place l.things ≡ outer_places (take l.end-index l.ends)
