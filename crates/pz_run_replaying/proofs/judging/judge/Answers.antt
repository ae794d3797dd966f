use Rattle.pz_rules.specs.declared.moment.Moment.TheVariants.{Time, Finished, Deadlock, Faulty, Stopped}
use Rattle.pz_run_replaying.proofs.Simulated.{no_broken}
use Rattle.pz_run_replaying.proofs.Found.{few_else, time_no, finished_no, deadlock_no, faulty_no, stopped_no}
use Rattle.pz_run_replaying.proofs.judging.judge.Goals as goal

pub unreachable-requires : goal.unreachable-requires
unreachable-requires g c = no_broken (g.S.Simulator.simulation c.args.sim.now) c.requires c.in-Broken.ensures

pub returns-in-Time-clause-few : goal.returns-in-Time-clause-few
returns-in-Time-clause-few g c = few_else c.rules_are_known.ensures.one_moment_of (g.S.Simulator.simulation c.args.sim.now) (Time c.in-Time.time) c.in-Time.ensures (time_no c.in-Time.time)

pub returns-in-Finished-clause-few : goal.returns-in-Finished-clause-few
returns-in-Finished-clause-few g c = few_else c.rules_are_known.ensures.one_moment_of (g.S.Simulator.simulation c.args.sim.now) Finished c.in-Finished.ensures finished_no

pub returns-in-Deadlock-clause-few : goal.returns-in-Deadlock-clause-few
returns-in-Deadlock-clause-few g c = few_else c.rules_are_known.ensures.one_moment_of (g.S.Simulator.simulation c.args.sim.now) Deadlock c.in-Deadlock.ensures deadlock_no

pub returns-in-Faulty-clause-few : goal.returns-in-Faulty-clause-few
returns-in-Faulty-clause-few g c = few_else c.rules_are_known.ensures.one_moment_of (g.S.Simulator.simulation c.args.sim.now) (Faulty c.in-Faulty.trouble) c.in-Faulty.ensures (faulty_no c.in-Faulty.trouble)

pub returns-in-Stopped-clause-few : goal.returns-in-Stopped-clause-few
returns-in-Stopped-clause-few g c = few_else c.rules_are_known.ensures.one_moment_of (g.S.Simulator.simulation c.args.sim.now) (Stopped c.in-Stopped.trouble) c.in-Stopped.ensures (stopped_no c.in-Stopped.trouble)
