use Rattle.pz_part_opening.specs.Homes.{home_view}
use Rattle.pz_term_outlines.proofs.Outlined.{outlined_opened}
use Rattle.pz_term_outlines.proofs.outline.outline_opened.Goals as goal

pub returns : goal.returns
returns c =
    outlined_opened (home_view c.args.home.now) c.opened_height.result c.opens_done.result c.opens_bare.result c.args.step.now c.opened_height.ensures c.opens_done.ensures c.opens_bare.ensures
