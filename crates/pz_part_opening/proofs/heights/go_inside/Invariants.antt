use Rattle.std.proofs.Common.{◌≡◌, ◌≤◌}
use Rattle.pz_rules.specs.devices.Outlines.{outlined_all}
use Rattle.pz_rules.specs.devices.Weights.{weight_all}
use Rattle.pz_part_opening.specs.Homes.{home_view}
use Rattle.pz_part_opening.specs.devices.Spots.{spot_view}
use Rattle.pz_part_opening.specs.devices.Rounds.{round_outline}
use Rattle.pz_part_opening.proofs.heights.go_inside.Given as goal

abbrev pub invariant-loop-way : goal.invariant-loop-way
invariant-loop-way l = record {
  opened : outlined_all (home_view l.home) (spot_view l.initial.inner.spot) ≡ round_outline l.inner.framed (outlined_all (home_view l.home) (spot_view l.inner.spot));
  lighter : weight_all (home_view l.home) (spot_view l.inner.spot) ≤ weight_all (home_view l.home) (spot_view l.initial.inner.spot);
}

abbrev pub decreases-loop-way : goal.decreases-loop-way
decreases-loop-way l = weight_all (home_view l.home) (spot_view l.inner.spot)
