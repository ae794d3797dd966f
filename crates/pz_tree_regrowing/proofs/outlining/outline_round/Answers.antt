use Rattle.std.proofs.Common.{List, Option, ℕ, refl, subst, sym, ap, ◌∙◌}
use Rattle.pz_classes_code.specs.StepView.{view, sequence_view}
use Rattle.pz_nodes.specs.Arena.{find}
use Rattle.pz_term_around.specs.pz_part_opening.Homes.{home_view}
use Rattle.pz_tree_nodes.specs.View.{head_view}
use Rattle.pz_tree_nodes.specs.pz_tree_standing.Heads as heads
use Rattle.pz_tree_regrowing.specs.devices.Outlining.{HomeRoundRule}
use Rattle.pz_tree_regrowing.proofs.HighRounds.{by_head, sequence_round, frame_round, handling_second}
use Rattle.pz_tree_regrowing.proofs.outlining.outline_round.Goals as goal

pub returns-in-Seq : goal.returns-in-Seq
returns-in-Seq g c =
    by_head (find c.args.nodes.now) c.args.kids.now c.args.left c.outline_sequence.result c.args.steps.now c.args.steps.now (home_view c.args.home.now) c.args.number (head_view c.args.head.now) (heads.sequence (sequence_view c.in-Seq.rest)) (ap head_view c.in-Seq.is)
    (sequence_round (find c.args.nodes.now) c.args.kids.now c.args.left c.outline_sequence.result c.args.steps.now c.args.steps.now (home_view c.args.home.now) (sequence_view c.in-Seq.rest) c.args.number refl c.outline_sequence.ensures)

pub returns-in-Par : goal.returns-in-Par
returns-in-Par g c =
    by_head (find c.args.nodes.now) c.args.kids.now c.args.left c.outline_parallel.result c.args.steps.now c.outline_parallel.new.steps (home_view c.args.home.now) c.args.number (head_view c.args.head.now) heads.parallel (ap head_view c.in-Par.is)
    (subst (λ (keys : List (Option ℕ)). HomeRoundRule (home_view c.args.home.now) (find c.args.nodes.now) heads.parallel keys c.args.number c.args.left c.outline_parallel.result c.args.steps.now c.outline_parallel.new.steps) c.as_slice.ensures
    (c.outline_parallel.ensures (home_view c.args.home.now)))

pub returns-in-Frame : goal.returns-in-Frame
returns-in-Frame g c =
    by_head (find c.args.nodes.now) c.args.kids.now c.args.left c.outline_frame.result c.args.steps.now c.args.steps.now (home_view c.args.home.now) c.args.number (head_view c.args.head.now) (heads.frame c.in-Frame.frame.0 c.in-Frame.inputs c.in-Frame.results) (ap head_view c.in-Frame.is)
    (frame_round (find c.args.nodes.now) c.args.kids.now c.args.left c.outline_frame.result c.args.steps.now c.args.steps.now (home_view c.args.home.now) c.in-Frame.frame.0 c.in-Frame.inputs c.in-Frame.results c.args.number refl c.outline_frame.ensures)

pub returns-in-Abort : goal.returns-in-Abort
returns-in-Abort g c =
    by_head (find c.args.nodes.now) c.args.kids.now c.args.left c.outline_abort.result c.args.steps.now c.outline_abort.new.steps (home_view c.args.home.now) c.args.number (head_view c.args.head.now) heads.abort (ap head_view c.in-Abort.is)
    (c.outline_abort.ensures (home_view c.args.home.now))

pub returns-in-Idle : goal.returns-in-Idle
returns-in-Idle g c =
    by_head (find c.args.nodes.now) c.args.kids.now c.args.left c.outline_idle.result c.args.steps.now c.outline_idle.new.steps (home_view c.args.home.now) c.args.number (head_view c.args.head.now) (heads.idle (view c.get.result.now) c.in-Idle.field-1)
    (ap head_view c.in-Idle.is ∙ ap (λ s. heads.idle (view s) c.in-Idle.field-1) (sym c.get.ensures))
    (c.outline_idle.ensures c.in-Idle.field-1)

pub returns-in-Handling : goal.returns-in-Handling
returns-in-Handling g c =
    by_head (find c.args.nodes.now) c.args.kids.now c.args.left c.outline_handling.result c.args.steps.now c.outline_handling.new.steps (home_view c.args.home.now) c.args.number (head_view c.args.head.now) (heads.handling (view c.get-in-Handling.result.now) c.in-Handling.field-1)
    (ap head_view c.in-Handling.is ∙ ap (λ s. heads.handling (view s) c.in-Handling.field-1) (sym c.get-in-Handling.ensures))
    (handling_second (find c.args.nodes.now) c.args.kids.now c.args.left c.outline_handling.result c.args.steps.now c.outline_handling.new.steps (home_view c.args.home.now) (view c.get-in-Handling.result.now) c.in-Handling.field-1 c.args.number c.outline_handling.ensures)
