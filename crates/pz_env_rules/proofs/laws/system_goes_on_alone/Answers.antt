-- Nothing is there that the environment could do.
use Rattle.pz_env_rules.proofs.Alone.{offers_alone, offers_back, moment_alone, moment_back}
use Rattle.pz_env_rules.proofs.laws.system_goes_on_alone.Goals as goal

pub returns-clause-offers : goal.returns-clause-offers
returns-clause-offers c = λ g d actions done. (offers_alone g d done actions, offers_back g d done actions)

pub returns-clause-moment : goal.returns-clause-moment
returns-clause-moment c = λ g d m done. (moment_alone g d done m, moment_back g d done m)
