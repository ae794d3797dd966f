use Rattle.pz_sim_laws.proofs.Enduring.{sends_outlast, receives_outlast, says_outlast}
use Rattle.pz_sim_laws.proofs.laws.unclocked_offers_outlast.Goals as goal

pub returns : goal.returns
returns c =
    let timeless = c.unclocked_is_timeless.ensures in
    let tests = c.steady_terms_keep_summaries.ensures.tests in
    let computed = c.evaluations_are_computed.ensures.tests in
    let only = c.passing_is_computed.ensures.only in
    let received = c.walks_list_what_is_active.ensures.receives in
    let receives = c.offered_parts_act.ensures.receives in
    record {
      sends = λ d m n xs sound elapsed calm. sends_outlast timeless.methods timeless.value tests timeless.computed_list computed only received receives d m n sound elapsed calm xs;
      receives = λ d m n xs sound elapsed calm. receives_outlast timeless.methods timeless.value tests timeless.computed_list computed only received receives d m n sound elapsed calm xs;
      verdicts = λ d m n place parcel verdict sound elapsed calm. says_outlast timeless.methods timeless.value tests timeless.computed_list computed only received receives d m n sound elapsed calm place parcel verdict;
    }
