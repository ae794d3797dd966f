use Rattle.pz_sim.specs.Sims.{simulation_of}
use Rattle.pz_run_output.specs.Plays.{setting_for}
use Rattle.pz_run.proofs.Judgings.{says_judged}
use Rattle.pz_run.proofs.Handed.{judged_hands, judged_begun}
use Rattle.pz_run.proofs.watching.judge_whole.Goals as goal

pub returns-clause-printed : goal.returns-clause-printed
returns-clause-printed g c = λ m file ws begins are stand.
    says_judged c.args.play m file _ _ ws are (simulation_of c.judge_from-ended.new.sim) c.judge_from-ended.result c.judged.result c.judged.ensures
    (c.judge_from-ended.ensures (setting_for m c.args.play) ws begins stand)

pub returns-clause-simulator : goal.returns-clause-simulator
returns-clause-simulator g c = λ m begins.
    let stand = c.requires.stand in
    judged_hands c.args.play m (simulation_of c.judge_from-ended.new.sim) _ _ stand.0 c.judge_from-ended.result c.judged.result c.judged.ensures
    (c.judge_from-ended.ensures (setting_for m c.args.play) stand.0 begins stand.1)

pub returns-clause-unbegun : goal.returns-clause-unbegun
returns-clause-unbegun g c = λ never. absurd (judged_begun c.judge_from-ended.result c.judged.result c.judged.ensures never)
