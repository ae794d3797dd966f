use Rattle.std.proofs.lemmas.Result.{IfOk-weaker}
use Rattle.pz_classes_code.specs.StepView.{sequence_view}
use Rattle.pz_rules.specs.View.{term_view}
use Rattle.pz_part_opening.specs.Homes.{home_view}
use Rattle.pz_term_around.proofs.AroundLevels.{sequence_ends, sequence_goes_on}
use Rattle.pz_term_around.proofs.around.in_sequence.Goals as goal

pub returns-then-is_done : goal.returns-then-is_done
returns-then-is_done c =
    IfOk-weaker c.open_rest.result _ _
    (λ term became.
    sequence_ends (home_view c.args.home.now) (sequence_view c.args.rest) (term_view c.args.left) (term_view term) c.args.state.now c.open_rest.new.state c.is_done.result c.is_done.ensures c.if-is_done.true became)
    c.open_rest.ensures.opened

pub returns : goal.returns
returns c = sequence_goes_on (home_view c.args.home.now) c.args.rest c.args.left c.in_ok-left.left c.args.state.now c.is_done.result c.is_done.ensures c.if-is_done.false c.in_ok-left.ensures
