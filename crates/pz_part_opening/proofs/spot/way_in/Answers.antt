use Rattle.std.proofs.Common.{◌∙◌, arith}
use Rattle.pz_part_opening.specs.Homes.{home_view}
use Rattle.pz_part_opening.proofs.Ways.{several_stand}
use Rattle.pz_part_opening.proofs.spot.way_in.Goals as goal

pub returns-in_default : goal.returns-in_default
returns-in_default c = several_stand (home_view c.args.home.now) c.args.spot c.in-Several.steps c.as_slice.result.now c.in-Several.is (c.as_slice.ensures ∙ c.get.ensures) (omega arith)
