use Rattle.std.proofs.Common.{sym, ◌∙◌, arith}
use Rattle.pz_debug_session.proofs.Placed.{front_of_session}
use Rattle.pz_debug_session.proofs.session.Session.back.Goals as goal

pub play_again-requires-clause-leads : goal.play_again-requires-clause-leads
play_again-requires-clause-leads g c =
    front_of_session c.args.self.now.lost (g.E.Simulator.simulation c.args.self.now.engine) c.args.self.now.steps.items c.split_at.result.0.now c.split_at.result.1.now
    (sym c.as_slice.ensures.value ∙ c.split_at.ensures.by_index.0) c.requires.place

pub play_again-requires-clause-few : goal.play_again-requires-clause-few
play_again-requires-clause-few g c =
    let steps = c.args.self.now.steps in
    omega (arith, steps.ok.1, steps.small, c.split_at.ensures.front_len, c.as_slice.ensures.len, c.split_at.ensures.back_len)
