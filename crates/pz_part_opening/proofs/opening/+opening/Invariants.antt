use Rattle.std.proofs.Common.{◌+◌, ◌*◌, take}
use Rattle.pz_classes_code.specs.StepView.{view}
use Rattle.pz_rules.specs.Opening.{enter, branches_opened}
use Rattle.pz_rules.specs.View.{terms_view, branches_view}
use Rattle.pz_rules.specs.devices.Weights.{weight, weight_all, weight_each}
use Rattle.pz_part_opening.specs.Homes.{home_view}
use Rattle.pz_part_opening.specs.devices.Spots.{spot_view}
use Rattle.pz_part_opening.specs.devices.Rounds.{BecameBeside}
use Rattle.pz_part_opening.proofs.opening.+opening.Given as goal

abbrev pub invariant-open_branches-loop-branch : goal.invariant-open_branches-loop-branch
invariant-open_branches-loop-branch l =
    BecameBeside (branches_opened (enter (home_view l.home)) (branches_view (take l.branch-index l.branches)) l.initial.state.held) (terms_view l.terms) l.initial.state l.state

-- the weight comes first; at the same weight, what may have an inside comes before what has none
abbrev pub decreases-open_spot : goal.decreases-open_spot
decreases-open_spot l = 4 * weight_all (home_view l.home.now) (spot_view l.spot) + 2

abbrev pub decreases-open_standing : goal.decreases-open_standing
decreases-open_standing l = 4 * weight_all (home_view l.home.now) (spot_view l.spot) + 1

abbrev pub decreases-open_form : goal.decreases-open_form
decreases-open_form l = 4 * weight (home_view l.home.now) (view l.step.now)

abbrev pub decreases-open_branches : goal.decreases-open_branches
decreases-open_branches l = 4 * weight_each (home_view l.home.now) (branches_view l.branches.now) + 3
