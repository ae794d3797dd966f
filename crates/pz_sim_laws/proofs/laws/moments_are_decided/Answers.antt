use Rattle.pz_sim_laws.proofs.Moments.{moment_is}
use Rattle.pz_sim_laws.proofs.laws.moments_are_decided.Goals as goal

pub returns : goal.returns
returns c =
    let walks = c.walks_list_what_is_active.ensures in
    record { law = λ setting clock ms ps are low couples. moment_is setting clock ms ps are couples low c.one_list_of_offers.ensures.one walks.delays walks.internal walks.troubles c.one_verdict.ensures.law }
