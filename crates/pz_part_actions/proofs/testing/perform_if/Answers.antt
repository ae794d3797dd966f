use Rattle.std.proofs.Common.{Err, refl}
use Rattle.std.proofs.lemmas.Result.{IfOk-weaker}
use Rattle.pz_classes_code.specs.pz_syntax.Statements.{conditional}
use Rattle.pz_classes_code.specs.CodeView.{view}
use Rattle.pz_classes_code.specs.StepView.{sequence_view}
use Rattle.pz_rules.specs.Terms.{leaf}
use Rattle.pz_rules.specs.InternalActions.{chosen}
use Rattle.pz_part_queries.specs.pz_classes.CheckedView.{checked_model}
use Rattle.pz_term_around.specs.pz_part_opening.Homes.{home_view}
use Rattle.pz_part_actions.specs.devices.Standing.{seen_there}
use Rattle.pz_part_actions.specs.devices.Parts.{otherwise_view}
use Rattle.pz_part_actions.proofs.Becomings.{home_is}
use Rattle.pz_part_actions.proofs.Openings.{answered, opening_answered}
use Rattle.pz_part_actions.proofs.Performed.{if_chosen, if_troubled}
use Rattle.pz_part_actions.proofs.testing.perform_if.Goals as goal

pub returns-in-Ok-clause-performs : goal.returns-in-Ok-clause-performs
returns-in-Ok-clause-performs c = λ known.
    IfOk-weaker c.chosen.result _ _
    (λ left opens.
    opening_answered c.args.here.now c.args.pos (chosen (home_view c.args.home.now) c.test.new.state.held (sequence_view c.args.steps.now) (otherwise_view c.args.other.now) c.in-Ok.truth) c.test.new.state c.chosen.new.state
    (seen_there c.args.here.now c.args.home.now c.args.state.now.held) c.args.frame.0 (leaf (conditional c.args.pos (view c.args.condition.now) (sequence_view c.args.steps.now) (otherwise_view c.args.other.now))) refl refl left
    (if_chosen (seen_there c.args.here.now c.args.home.now c.args.state.now.held) c.args.frame.0 c.args.pos (view c.args.condition.now) c.test.new.state c.in_ok-truth.field-0 (c.in_ok-truth.ensures.tests (checked_model c.args.home.now.checked.now) c.args.home.now.class.0 known)
    (home_view c.args.home.now) (home_is c.args.here.now c.args.home.now c.args.state.now.held c.requires.edition) c.in-Ok.truth c.in-Ok.is (sequence_view c.args.steps.now) (otherwise_view c.args.other.now)) opens)
    c.chosen.ensures.opens

pub returns-in-Err-clause-performs : goal.returns-in-Err-clause-performs
returns-in-Err-clause-performs c = λ known.
    answered (seen_there c.args.here.now c.args.home.now c.args.state.now.held) c.args.frame.0 (leaf (conditional c.args.pos (view c.args.condition.now) (sequence_view c.args.steps.now) (otherwise_view c.args.other.now))) c.args.pos (Err c.in-Err.trouble)
    (if_troubled (seen_there c.args.here.now c.args.home.now c.args.state.now.held) c.args.frame.0 c.args.pos (view c.args.condition.now) c.test.new.state c.in_ok-truth.field-0 (c.in_ok-truth.ensures.tests (checked_model c.args.home.now.checked.now) c.args.home.now.class.0 known)
    (sequence_view c.args.steps.now) (otherwise_view c.args.other.now) c.in-Err.trouble c.in-Err.is)
