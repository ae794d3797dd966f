use Rattle.std.proofs.Common.{◌∙◌, ap}
use Rattle.pz_rules.specs.ChosenRuns.{decided}
use Rattle.pz_run_playing.specs.Policies.{policy_of}
use Rattle.pz_run_playing.proofs.deciding.decide.Goals as goal

pub returns-in-Actions-clause-decided : goal.returns-in-Actions-clause-decided
returns-in-Actions-clause-decided c = λ r clock stands held.
    ap (decided (policy_of r c.args.limits) c.args.chosen clock) c.in-Actions.is ∙ c.decide_action.ensures.decided r clock stands
