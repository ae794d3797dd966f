use Rattle.std.proofs.lemmas.Result.{IfOk-weaker}
use Rattle.pz_rules.specs.View.{term_view}
use Rattle.pz_term_around.specs.pz_part_opening.Homes.{home_view}
use Rattle.pz_term_residual.proofs.Outward.{round_sequence, round_frame, round_handling}
use Rattle.pz_term_residual.proofs.levels.put_around.Goals as goal

pub returns-in-Sequence : goal.returns-in-Sequence
returns-in-Sequence c =
    IfOk-weaker c.in_sequence.result _ _
    (λ term up. round_sequence (home_view c.args.home.now) c.args.level c.in-Sequence.rest c.args.state.now c.in_sequence.new.state (term_view c.args.left) (term_view term) c.in-Sequence.is up)
    c.in_sequence.ensures

pub returns-in-Frame : goal.returns-in-Frame
returns-in-Frame c =
    IfOk-weaker c.in_frame.result _ _
    (λ term up. round_frame (home_view c.args.home.now) c.args.level c.in-Frame.outer c.in-Frame.frame c.in-Frame.inputs c.in-Frame.results c.args.state.now c.in_frame.new.state (term_view c.args.left) (term_view term) c.in-Frame.is up)
    c.in_frame.ensures

pub returns-in-Handling : goal.returns-in-Handling
returns-in-Handling c =
    IfOk-weaker c.in_handling.result _ _
    (λ term up. round_handling (home_view c.args.home.now) c.args.level c.in-Handling.first c.in-Handling.again c.args.state.now c.in_handling.new.state (term_view c.args.left) (term_view term) c.in-Handling.is up)
    c.in_handling.ensures
