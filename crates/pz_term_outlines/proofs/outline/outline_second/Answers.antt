use Rattle.pz_classes_code.specs.StepView.{view}
use Rattle.pz_part_opening.specs.Homes.{home_view}
use Rattle.pz_term_outlines.proofs.Rounds.{handled_ended, handled_stays}
use Rattle.pz_term_outlines.proofs.outline.outline_second.Goals as goal

pub returns-then-left : goal.returns-then-left
returns-then-left c = λ t s x high same.
    handled_ended (home_view c.args.home.now) c.args.left c.outline_above.result t (view c.args.again.now) c.args.first c.opened_height.result c.max.result c.if-left.true high
    c.opened_height.ensures c.max.ensures c.outline_above.ensures s x same

pub returns : goal.returns
returns c = λ t s x high same.
    handled_stays (home_view c.args.home.now) c.args.left c.outline_above-2.result t (view c.args.again.now) c.args.first c.max-2.result c.if-left.false high c.max-2.ensures
    c.outline_above-2.ensures s x same
