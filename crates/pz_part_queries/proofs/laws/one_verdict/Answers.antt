use Rattle.pz_part_queries.proofs.Verdicts.{one_verdict}
use Rattle.pz_part_queries.proofs.laws.one_verdict.Goals as goal

pub returns : goal.returns
returns c = record { law = one_verdict c.evaluations_are_computed.ensures.tests }
