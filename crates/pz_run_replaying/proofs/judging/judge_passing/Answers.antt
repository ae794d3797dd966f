use Rattle.std.proofs.Common.{◌≡◌, refl, sym, ap, ◌∙◌, List, ℕ, ◌++◌, Vec}
use Rattle.std.specs.declared.alloc.Global.{Global}
use Rattle.pz_rules.specs.declared.moment.Moment.TheVariants.{Time}
use Rattle.pz_trace.specs.Lines.{time_line}
use Rattle.pz_term_simulator.specs.Simulations.{clock_in}
use Rattle.pz_run_replaying.proofs.Simulated.{clock_of_ready}
use Rattle.pz_run_replaying.proofs.Found.{judges_stop, judges_passing, differs_passing}
use Rattle.pz_run_replaying.proofs.Written.{put_alone}
use Rattle.pz_run_replaying.proofs.judging.judge_passing.Goals as goal

pub returns-in-Some : goal.returns-in-Some
returns-in-Some g c =
    judges_stop (g.S.Simulator.simulation c.args.sim.now) (Time c.args.time) c.args.rest.now c.in-Some.len c.requires.ready c.requires.moment refl (rw c.in-Some.is at c.in_ok-len.ensures)

pub returns-in-Some-front_len : goal.returns-in-Some-front_len
returns-in-Some-front_len g c =
    let s = g.S.Simulator.simulation c.args.sim.now in
    let clock = clock_of_ready s c.clock.result c.requires.ready c.clock.ensures in
    judges_passing s c.args.rest.now c.as_slice.result.now c.args.time c.in-Some-front_len.len c.requires.moment
    (c.as_slice.ensures.value ∙ put_alone c.clear.new.self.items (time_line c.clock.result c.args.time) c.put_time_line.new.out.items c.clear.ensures.items c.in_ok-put_time_line.ensures
    ∙ ap (λ (i : ℕ). time_line i c.args.time) clock) c.in-Some-front_len.ensures

pub returns-in-None : goal.returns-in-None
returns-in-None g c =
    let s = g.S.Simulator.simulation c.args.sim.now in
    let clock = clock_of_ready s c.clock.result c.requires.ready c.clock.ensures in
    let of : c.put_time_line.new.out.items ≡ time_line (clock_in s) c.args.time =
    put_alone c.clear.new.self.items (time_line c.clock.result c.args.time) c.put_time_line.new.out.items c.clear.ensures.items c.in_ok-put_time_line.ensures
    ∙ ap (λ (i : ℕ). time_line i c.args.time) clock in
    differs_passing c.rules_are_known.ensures s c.args.rest.now c.args.time c.replace.result c.requires.ready c.requires.moment (ap (λ (l : Vec ℕ Global). l.items) c.replace.ensures.value ∙ of) (rw c.in_default.is at c.in_ok-len.ensures)
    (λ left is. c.in-None.ensures left (is ∙ ap (λ (l : List ℕ). l ++ left) (sym (c.as_slice.ensures.value ∙ of))))
