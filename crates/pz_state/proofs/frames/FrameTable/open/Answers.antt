use Rattle.std.proofs.Common.{is_some, ap, ◌∙◌}
use Rattle.pz_state.specs.States.{Frames, locals_in, with_frame, without_frame}
use Rattle.pz_state.proofs.FrameTables.{without_frame-with_frame, locals_in-with_frame}
use Rattle.pz_state.proofs.frames.FrameTable.open.Goals as goal

pub returns-clause-back : goal.returns-clause-back
returns-clause-back c = let number = c.in_ok-number.number in
    ap (λ (fs : Frames). without_frame number fs) (c.open_at.ensures.frames ∙ ap (λ (fs : Frames). with_frame number c.args.locals.items fs) c.free_number.ensures.frames)
    ∙ without_frame-with_frame number c.args.locals.items c.args.self.now.frames c.in_ok-number.ensures.least.free

pub returns-clause-there : goal.returns-clause-there
returns-clause-there c = let number = c.in_ok-number.number in
    ap is_some (ap (λ (fs : Frames). locals_in fs number) (c.open_at.ensures.frames ∙ ap (λ (fs : Frames). with_frame number c.args.locals.items fs) c.free_number.ensures.frames)
    ∙ locals_in-with_frame number c.args.locals.items c.args.self.now.frames c.in_ok-number.ensures.least.free)
