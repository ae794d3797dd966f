use Rattle.std.proofs.lemmas.Result.{IfOk-weaker}
use Rattle.pz_eval_machine.proofs.beginning.begin_group.Goals as goal

pub returns-clause-within : goal.returns-clause-within
returns-clause-within c = IfOk-weaker c.go_on_list.result _ _ (λ k kept count all. kept count tt all) c.go_on_list.ensures.within
