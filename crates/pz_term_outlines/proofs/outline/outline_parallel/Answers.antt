use Rattle.std.proofs.Common.{sym, ◌∙◌}
use Rattle.pz_term_outlines.proofs.Beside.{parallel_ended, parallel_goes_on}
use Rattle.pz_term_outlines.proofs.outline.outline_parallel.Goals as goal

pub returns-then-stand_done : goal.returns-then-stand_done
returns-then-stand_done c = λ home. parallel_ended home c.args.before.now c.args.behind.now c.args.left c.outline_done.result (sym c.stand_done.ensures ∙ c.if-stand_done.true) c.outline_done.ensures

pub returns : goal.returns
returns c = λ home.
    parallel_goes_on home c.args.before.now c.args.behind.now c.args.left c.outline_above.result c.greatest_of-2.result c.greatest_of.result c.max-others.result c.max.result
    (sym c.stand_done.ensures ∙ c.if-stand_done.false) c.greatest_of-2.ensures c.greatest_of.ensures c.max-others.ensures c.max.ensures c.outline_above.ensures
