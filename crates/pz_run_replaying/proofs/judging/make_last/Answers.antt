use Rattle.std.proofs.Common.{ap, ◌∙◌, ℕ}
use Rattle.std.proofs.lemmas.Result.{on_ok_weaker}
use Rattle.pz_trace.specs.Lines.{end_line}
use Rattle.pz_term_simulator.specs.Simulations.{model_in}
use Rattle.pz_run_replaying.proofs.Simulated.{clock_of_ready}
use Rattle.pz_run_replaying.proofs.Written.{put_alone}
use Rattle.pz_run_replaying.proofs.judging.make_last.Goals as goal

pub returns : goal.returns
returns g c =
    let s = g.S.Simulator.simulation c.args.sim.now in
    let m = model_in s in
    let clock = clock_of_ready s c.clock.result c.requires.ready c.clock.ensures in
    on_ok_weaker c.put_end_line.result
    (λ is. put_alone c.clear.new.self.items (end_line m c.clock.result c.args.ending) c.put_end_line.new.out.items c.clear.ensures.items is
    ∙ ap (λ (n : ℕ). end_line m n c.args.ending) clock) (c.put_end_line.ensures m c.net.ensures)
