use Rattle.pz_term_outlines.proofs.outline.opened_height.Goals as goal

pub returns : goal.returns
returns c = λ s. c.step_within.ensures s
