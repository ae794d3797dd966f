use Rattle.std.proofs.Common.{ℕ, List, ap, ◌∙◌}
use Rattle.std.proofs.lemmas.Result.{on_ok_weaker}
use Rattle.pz_rules.specs.Leaving.{only_frames}
use Rattle.pz_rules.specs.pz_state.Marks.{Seen, changed}
use Rattle.pz_tree_acting.proofs.Frames.{only_listed}
use Rattle.pz_tree_acting.proofs.closing.close_unlisted.Goals as goal

pub returns-clause-closed : goal.returns-clause-closed
returns-clause-closed c = on_ok_weaker c.close_others.result
    (λ is. only_listed c.args.listed.items c.in_ok-standing.standing.items c.args.state.now c.close_others.new.state c.in_ok-standing.ensures.same
    (is ∙ ap (λ (l : List ℕ). changed c.args.state.now (only_frames l c.args.state.now.held)) c.deref.ensures.value))
    c.close_others.ensures.closed

pub returns-clause-ordered : goal.returns-clause-ordered
returns-clause-ordered c = on_ok_weaker c.close_others.result (λ is. c.close_others.ensures.ordered) c.close_others.ensures.closed

pub returns-clause-marks : goal.returns-clause-marks
returns-clause-marks c = on_ok_weaker c.close_others.result (λ is. ap (λ (s : Seen). s.marks) is) c.close_others.ensures.closed
