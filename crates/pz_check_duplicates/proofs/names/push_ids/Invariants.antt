use Rattle.std.proofs.Common.{◌≡◌, ◌++◌, map, take}
use Rattle.pz_check_duplicates.specs.devices.Names.{id_of}
use Rattle.pz_check_duplicates.proofs.names.push_ids.Given as goal

abbrev pub invariant-loop-id : goal.invariant-loop-id
invariant-loop-id l = map id_of l.things ≡ map id_of l.initial.things ++ take l.id-index l.ids
