use Rattle.std.proofs.Common.{◌≤◌}
use Rattle.pz_rules.specs.devices.Weights.{weight_all}
use Rattle.pz_part_opening.specs.Homes.{home_view}
use Rattle.pz_part_opening.specs.devices.Spots.{spot_view}
use Rattle.pz_part_opening.specs.devices.Rounds.{LeadsIn}
use Rattle.pz_part_opening.proofs.opening.descend.Given as goal

abbrev pub invariant-loop-way : goal.invariant-loop-way
invariant-loop-way l = record {
  leads : LeadsIn (home_view l.home) l.initial.spot (record { frame = l.frame; spot = l.inner }) l.initial.state l.state;
  lighter : weight_all (home_view l.home) (spot_view l.inner) ≤ weight_all (home_view l.home) (spot_view l.initial.spot);
}

abbrev pub decreases-loop-way : goal.decreases-loop-way
decreases-loop-way l = weight_all (home_view l.home) (spot_view l.inner)
