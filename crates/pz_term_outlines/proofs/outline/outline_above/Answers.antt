use Rattle.pz_term_outlines.proofs.Outlined.{outlined_above}
use Rattle.pz_term_outlines.proofs.outline.outline_above.Goals as goal

pub returns : goal.returns
returns c = λ t n is above. outlined_above c.above.result n t (c.above.ensures n is) above
