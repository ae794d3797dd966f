use Rattle.std.proofs.Common.{refl}
use Rattle.std.specs.Result.{result_err}
use Rattle.pz_rules.specs.Runs.{passed}
use Rattle.pz_run_playing.proofs.Heard.{silent_says, silent_hears, line_says, line_hears, judged_says, judged_hears}
use Rattle.pz_run_playing.proofs.hearing.hear_passing.Goals as goal

pub returns-in-Silent-clause-wrote : goal.returns-in-Silent-clause-wrote
returns-in-Silent-clause-wrote g c = λ m manner past heard.
    silent_says m manner past (passed c.args.clock c.args.time) c.args.clock refl c.args.listener.now heard c.rules_are_known.ensures c.in-Silent.is (g.W.Sink.state c.args.out.now)

pub returns-in-Silent-clause-heard : goal.returns-in-Silent-clause-heard
returns-in-Silent-clause-heard g c = λ m manner past heard.
    silent_hears m manner past (passed c.args.clock c.args.time) c.args.clock refl c.args.listener.now heard c.in-Silent.is

pub returns-in-Lines-clause-wrote : goal.returns-in-Lines-clause-wrote
returns-in-Lines-clause-wrote g c = λ m manner past heard.
    line_says m manner past (passed c.args.clock c.args.time) c.args.clock refl c.args.listener.now heard c.in-Lines.line c.in-Lines.is (g.W.Sink.state c.args.out.now) (g.W.Sink.state c.tell_passing.new.out) (result_err c.tell_passing.result) c.tell_passing.ensures

pub returns-in-Lines-clause-heard : goal.returns-in-Lines-clause-heard
returns-in-Lines-clause-heard g c = λ m manner past heard.
    line_hears m manner past (passed c.args.clock c.args.time) c.args.clock refl c.args.listener.now heard c.in-Lines.line c.tell_passing.new.line c.tell_passing.result c.in-Lines.is

pub returns-in-Watches-clause-wrote : goal.returns-in-Watches-clause-wrote
returns-in-Watches-clause-wrote g c = λ m manner past heard.
    judged_says m manner past (passed c.args.clock c.args.time) c.args.clock refl c.args.listener.now heard c.in-Watches.watching c.in-Watches.line c.in-Watches.is (g.W.Sink.state c.args.out.now) (g.W.Sink.state c.judge_passing.new.out) (result_err c.judge_passing.result)
    (λ ws judged up. c.judge_passing.ensures.wrote m ws past judged up)

pub returns-in-Watches-clause-heard : goal.returns-in-Watches-clause-heard
returns-in-Watches-clause-heard g c = λ m manner past heard.
    judged_hears m manner past (passed c.args.clock c.args.time) c.args.clock refl c.args.listener.now heard c.in-Watches.watching c.judge_passing.new.watching c.in-Watches.line c.judge_passing.new.line c.judge_passing.result c.in-Watches.is
    (λ ws judged up. c.judge_passing.ensures.judged m ws past judged up)
