use Rattle.std.proofs.Common.{◌≡◌, map, drop}
use Rattle.pz_prims.specs.Rows.{beside}
use Rattle.pz_prims.specs.devices.Entries.{entry_of}
use Rattle.pz_prims.proofs.spellings.find.Given as goal

abbrev pub invariant-loop-spelling : goal.invariant-loop-spelling
invariant-loop-spelling g l = beside l.selector (map entry_of (drop l.spelling-index l.table)) ≡ beside l.selector (map entry_of l.table)
