use Rattle.std.proofs.Common.{sym, ◌∙◌}
use Rattle.pz_part_opening.specs.Homes.{home_view}
use Rattle.pz_term_outlines.proofs.Outlined.{none_wait, one_waits, more_wait}
use Rattle.pz_term_outlines.proofs.outline.outline_rest.Goals as goal

pub returns-in_default : goal.returns-in_default
returns-in_default c = λ s. c.outline_done.ensures ∙ none_wait (home_view c.args.home.now) c.args.rest.now c.in_default.ensures s

pub returns-then-len-eq1 : goal.returns-then-len-eq1
returns-then-len-eq1 c = λ s.
    c.outline_opened.ensures s
    ∙ one_waits (home_view c.args.home.now) c.args.rest.now c.in-Some.first.now c.in-Some.ensures (sym c.len.ensures ∙ c.if-len-eq1.true) s

pub returns : goal.returns
returns c =
    more_wait (home_view c.args.home.now) c.args.rest.now c.in-Some.first.now c.opened_height.result c.outline_above.result c.in-Some.ensures (λ one. c.if-len-eq1.false (c.len.ensures ∙ one))
    c.opened_height.ensures c.outline_above.ensures
