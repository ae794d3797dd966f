use Rattle.pz_classes_code.specs.StepView.{sequence_view}
use Rattle.pz_part_opening.specs.Homes.{home_view}
use Rattle.pz_term_outlines.proofs.Rounds.{sequence_ended, sequence_stays}
use Rattle.pz_term_outlines.proofs.outline.outline_sequence.Goals as goal

pub returns-then-left : goal.returns-then-left
returns-then-left c = sequence_ended (home_view c.args.home.now) c.args.left c.outline_rest.result (sequence_view c.args.rest.now) c.if-left.true c.outline_rest.ensures

pub returns-else-left : goal.returns-else-left
returns-else-left c = sequence_stays (home_view c.args.home.now) c.args.left c.outline_above.result (sequence_view c.args.rest.now) c.if-left.false c.outline_above.ensures
