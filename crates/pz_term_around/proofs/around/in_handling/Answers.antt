use Rattle.std.proofs.lemmas.Result.{IfOk-weaker}
use Rattle.pz_classes_code.specs.StepView.{view}
use Rattle.pz_rules.specs.View.{term_view}
use Rattle.pz_part_opening.specs.Homes.{home_view}
use Rattle.pz_term_around.proofs.AroundLevels.{handled_ends, handled_goes_on}
use Rattle.pz_term_around.proofs.around.in_handling.Goals as goal

pub returns-then-is_done : goal.returns-then-is_done
returns-then-is_done c =
    IfOk-weaker c.reopened.result _ _
    (λ term became.
    handled_ends (home_view c.args.home.now) (term_view c.args.first) (view c.args.again) (term_view c.args.left) (term_view term) c.args.state.now c.reopened.new.state c.is_done.result c.is_done.ensures c.if-is_done.true became)
    c.reopened.ensures

pub returns : goal.returns
returns c = handled_goes_on (home_view c.args.home.now) c.args.first c.args.left c.in_ok-left.left c.args.again c.args.state.now c.is_done.result c.is_done.ensures c.if-is_done.false c.in_ok-left.ensures
