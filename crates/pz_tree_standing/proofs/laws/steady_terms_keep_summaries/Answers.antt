use Rattle.pz_tree_standing.proofs.Steady.{tested_same, steady_summary, steady_passing}
use Rattle.pz_tree_standing.proofs.laws.steady_terms_keep_summaries.Goals as goal

pub returns : goal.returns
returns c =
    let value = c.unclocked_is_timeless.ensures.computed in
    let list = c.unclocked_is_timeless.ensures.computed_list in
    record {
      summary = λ a d c1 f t x sound. steady_passing value list a d (c.unclocked_is_timeless.ensures.methods a.setting.model sound) c.passing_is_computed.ensures.only c1 f t x;
      computed = λ a d c1 f t methods. steady_summary value list a d methods c1 f t;
      tests = λ a d f at e methods. tested_same value list a d methods f at e;
    }
