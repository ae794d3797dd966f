use Rattle.pz_sim_laws.proofs.Moments.{internal_numbered, communication_numbered}
use Rattle.pz_sim_laws.proofs.laws.offers_are_numbered.Goals as goal

pub returns : goal.returns
returns c =
    let walks = c.walks_list_what_is_active.ensures in
    record {
      internal = λ setting clock ms ps are couples. internal_numbered setting clock ms ps are couples walks.internal c.one_verdict.ensures.law;
      communications = λ setting clock ms ps are couples. communication_numbered setting clock ms ps are couples walks.internal c.one_verdict.ensures.law;
    }
