use Rattle.std.proofs.Common.{◌≡◌, Option, None}
use Rattle.std.specs.Prelude.{map}
use Rattle.pz_offer.specs.declared.trouble.Trouble.{Trouble}
use Rattle.pz_match.specs.Pairs.{first_trouble}
use Rattle.pz_match.specs.devices.Kept.{kept, all_pairs}
use Rattle.pz_match.proofs.seeking.find_trouble.Given as goal

abbrev pub invariant-loop-wire : goal.invariant-loop-wire
invariant-loop-wire l = ◌≡◌ {A = Option Trouble} (first_trouble (all_pairs (map kept l.all) l.wire)) None
