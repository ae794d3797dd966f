use Rattle.std.proofs.Common.{◌≡◌, ◌+◌, ◌*◌, max, min, drop}
use Rattle.pz_classes_code.specs.StepView.{view, sequence_view}
use Rattle.pz_rules.specs.Terms.{greatest_height}
use Rattle.pz_rules.specs.View.{branches_view}
use Rattle.pz_rules.specs.devices.Outlines.{outlined_each}
use Rattle.pz_rules.specs.devices.Weights.{weight, weight_all, weight_each}
use Rattle.pz_part_opening.specs.Homes.{home_view}
use Rattle.pz_part_opening.specs.devices.Spots.{spot_view}
use Rattle.pz_part_opening.proofs.heights.+heights.Given as goal

abbrev pub invariant-branches_within-loop-branch : goal.invariant-branches_within-loop-branch
invariant-branches_within-loop-branch l =
    max l.greatest (min (greatest_height (outlined_each (home_view l.home) (branches_view (drop l.branch-index l.branches)))) l.room) ≡ min (greatest_height (outlined_each (home_view l.home) (branches_view l.branches))) l.room

-- The weight comes first. At the same weight, what stands there comes before what is inside, and that before the
-- statement that it is.
abbrev pub decreases-within : goal.decreases-within
decreases-within l = 4 * weight_all (home_view l.home.now) (spot_view l.spot) + 3

abbrev pub decreases-standing_within : goal.decreases-standing_within
decreases-standing_within l = 4 * weight_all (home_view l.home.now) (spot_view l.spot) + 2

abbrev pub decreases-form_within : goal.decreases-form_within
decreases-form_within l = 4 * weight (home_view l.home.now) (view l.step.now) + 1

abbrev pub decreases-both_within : goal.decreases-both_within
decreases-both_within l = 4 * (weight_all (home_view l.home.now) (sequence_view l.first.now) + weight (home_view l.home.now) (view l.second.now)) + 4

abbrev pub decreases-branches_within : goal.decreases-branches_within
decreases-branches_within l = 4 * weight_each (home_view l.home.now) (branches_view l.branches.now) + 4
