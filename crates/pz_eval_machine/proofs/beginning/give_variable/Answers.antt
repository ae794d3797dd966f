use Rattle.pz_eval_machine.proofs.beginning.give_variable.Goals as goal

pub returns-clause-within : goal.returns-clause-within
returns-clause-within c = c.in_ok-read.ensures.within c.requires
