use Rattle.std.proofs.Common.{ℕ, List, ap, ◌∙◌}
use Rattle.std.proofs.lemmas.Result.{on_ok_weaker}
use Rattle.pz_rules.specs.pz_state.Marks.{changed}
use Rattle.pz_rules.specs.Terms.{frames_in}
use Rattle.pz_rules.specs.Leaving.{only_frames}
use Rattle.pz_rules.specs.View.{term_view}
use Rattle.pz_term_frames.proofs.Standing.{same_frames}
use Rattle.pz_term_frames.proofs.sweeping.sweep.Goals as goal

pub returns : goal.returns
returns c =
    on_ok_weaker c.close_others.result
    (λ swept. swept
    ∙ ap (λ (l : List ℕ). changed c.args.state.now (only_frames l c.args.state.now.held)) c.deref.ensures.value
    ∙ ap (changed c.args.state.now) (same_frames (frames_in (term_view c.args.term.now)) c.in_ok-standing.standing.items c.args.state.now.held c.in_ok-standing.ensures.frames))
    c.close_others.ensures.closed
