use Rattle.std.proofs.Common.{ℕ, List, ap, ◌∙◌, sym}
use Rattle.std.proofs.lemmas.Result.{on_ok_weaker}
use Rattle.pz_rules.specs.pz_state.Marks.{Seen, changed}
use Rattle.pz_term_frames.specs.Closing.{without_frames}
use Rattle.pz_tree_regrowing.specs.pz_tree_nodes.Dropping.{numbers}
use Rattle.pz_tree_acting.proofs.Frames.{numbers_none, empty_closed, those_closed}
use Rattle.pz_tree_acting.proofs.closing.close_lost.Goals as goal

pub returns-then-is_empty-clause-closed : goal.returns-then-is_empty-clause-closed
returns-then-is_empty-clause-closed c = empty_closed (numbers c.args.lost.now) c.args.state.now (numbers_none c.args.lost.now (sym c.is_empty.ensures ∙ c.if-is_empty.true))

pub returns-clause-closed : goal.returns-clause-closed
returns-clause-closed c = on_ok_weaker c.close_those.result
    (λ is. those_closed (numbers c.args.lost.now) c.in_ok-gone.gone.items c.args.state.now c.close_those.new.state c.in_ok-gone.ensures.frames c.close_those.ensures.ordered
    (is ∙ ap (λ (l : List ℕ). changed c.args.state.now (without_frames l c.args.state.now.held)) c.deref.ensures.value))
    c.close_those.ensures.closed

pub returns-clause-marks : goal.returns-clause-marks
returns-clause-marks c = on_ok_weaker c.close_those.result (λ is. ap (λ (s : Seen). s.marks) is) c.close_those.ensures.closed
