use Rattle.std.proofs.Common.{sym, ap, ◌∙◌, List, ℕ, ◌++◌, Vec}
use Rattle.std.specs.declared.alloc.Global.{Global}
use Rattle.pz_run_replaying.proofs.Simulated.{last_named}
use Rattle.pz_run_replaying.proofs.Found.{judges_end, differs_end}
use Rattle.pz_run_replaying.proofs.judging.judge_end.Goals as goal

pub make_last-requires-clause-named : goal.make_last-requires-clause-named
make_last-requires-clause-named g c = last_named c.rules_are_known.ensures (g.S.Simulator.simulation c.args.sim.now) c.args.ending c.requires.ready c.requires.last

pub returns-in-Some : goal.returns-in-Some
returns-in-Some g c =
    judges_end (g.S.Simulator.simulation c.args.sim.now) c.args.rest.now c.as_slice.result.now c.args.ending c.in-Some.len c.requires.ready c.requires.last
    (c.as_slice.ensures.value ∙ c.in_ok-make_last.ensures) c.in-Some.ensures

pub returns-in-None : goal.returns-in-None
returns-in-None g c =
    differs_end c.rules_are_known.ensures (g.S.Simulator.simulation c.args.sim.now) c.args.rest.now c.args.ending c.replace.result c.requires.ready c.requires.last
    (ap (λ (l : Vec ℕ Global). l.items) c.replace.ensures.value ∙ c.in_ok-make_last.ensures)
    (λ left is. c.in-None.ensures left (is ∙ ap (λ (l : List ℕ). l ++ left) (sym (c.as_slice.ensures.value ∙ c.in_ok-make_last.ensures))))
