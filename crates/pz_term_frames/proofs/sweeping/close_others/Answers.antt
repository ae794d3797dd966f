use Rattle.std.proofs.Common.{nat_eq, List, map, ap, ◌∙◌}
use Rattle.std.specs.List.{list_any}
use Rattle.pz_rules.specs.pz_state.declared.state.FrameId.{FrameId}
use Rattle.pz_term_frames.proofs.Closing.{frame_there, one_closed}
use Rattle.pz_term_frames.proofs.sweeping.close_others.Goals as goal

pub close_unless-requires-clause-there : goal.close_unless-requires-clause-there
close_unless-requires-clause-there c =
    frame_there (λ n. list_any (nat_eq n) c.args.standing.now) c.deref-frame-items.result.now c.args.state.now c.loop-frame.state c.loop-frame.frame-index c.loop-frame-test.true
    (ap (λ (l : List FrameId). map (λ (n : FrameId). n.0) l) c.deref-frame-items.ensures.value ∙ c.in_ok-frames.ensures.frames) c.loop-frame.invariant

pub loop-frame-preserved : goal.loop-frame-preserved
loop-frame-preserved c =
    one_closed (λ n. list_any (nat_eq n) c.args.standing.now) c.deref-frame-items.result.now c.args.state.now c.loop-frame.state c.loop-frame.frame-index c.loop-frame-test.true
    (ap (λ (l : List FrameId). map (λ (n : FrameId). n.0) l) c.deref-frame-items.ensures.value ∙ c.in_ok-frames.ensures.frames) c.loop-frame.invariant
    c.close_unless.new.state c.frames.ensures.ordered c.in_ok-close_unless.ensures
