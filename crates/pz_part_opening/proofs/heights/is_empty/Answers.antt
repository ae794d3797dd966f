use Rattle.pz_part_opening.proofs.Outlining.{one_stands, stand_if_some}
use Rattle.pz_part_opening.proofs.heights.is_empty.Goals as goal

pub returns-in-One : goal.returns-in-One
returns-in-One c = λ h stands. one_stands h c.args.spot c.in-One.field-0 c.in-One.is stands

pub returns-in-Several : goal.returns-in-Several
returns-in-Several c = λ h stands. stand_if_some h c.args.spot c.in-Several.steps c.get.result.now c.is_empty.result c.in-Several.is c.get.ensures c.is_empty.ensures.0 c.is_empty.ensures.1 stands
