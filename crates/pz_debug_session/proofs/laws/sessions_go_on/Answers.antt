use Rattle.pz_debug_session.specs.declared.step.Step.TheVariants.{Pick, Pass}
use Rattle.pz_debug_session.proofs.Placed.{begins, goes_on, begins_low, chosen_low, passed_low}
use Rattle.pz_debug_session.proofs.laws.sessions_go_on.Goals as goal

pub returns-clause-start : goal.returns-clause-start
returns-clause-start c = begins

pub returns-clause-choice : goal.returns-clause-choice
returns-clause-choice c = λ setting steps k s t x takes. goes_on setting steps (Pick k) s t x takes

pub returns-clause-passing : goal.returns-clause-passing
returns-clause-passing c = λ setting steps s t x takes. goes_on setting steps Pass s t x takes

pub returns-clause-low_start : goal.returns-clause-low_start
returns-clause-low_start c = begins_low

pub returns-clause-low_choice : goal.returns-clause-low_choice
returns-clause-low_choice c = chosen_low

pub returns-clause-low_passing : goal.returns-clause-low_passing
returns-clause-low_passing c = passed_low
