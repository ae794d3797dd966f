use Rattle.pz_sim_laws.proofs.Saying.{says_computed, says_nothing_else}
use Rattle.pz_sim_laws.proofs.laws.receives_say_one_thing.Goals as goal

pub returns : goal.returns
returns c =
    let outcomes = c.each_evaluation_has_an_outcome.ensures.law in
    let computed = c.evaluations_are_computed.ensures.tests in
    record { computed = says_computed outcomes computed; only = says_nothing_else outcomes computed c.one_verdict.ensures.law }
