use Rattle.pz_sim_laws.proofs.Merely.{moment_is, chosen_is, leads, passes}
use Rattle.pz_sim_laws.proofs.laws.what_is_merely_so_is_so.Goals as goal

pub returns : goal.returns
returns c =
    let wires = c.wires_are_known.ensures.law in
    let offers = c.one_list_of_offers.ensures in
    let moments = c.one_moment.ensures in
    let once = c.one_next.ensures in
    let sets = c.trees_are_sets.ensures.statements in
    let outcomes = c.each_evaluation_has_an_outcome.ensures.law in
    let lists = c.each_list_has_an_outcome.ensures.law in
    record {
      moment = moment_is wires moments.one moments.some;
      chosen = λ setting c1 n k a sound. chosen_is wires offers.one offers.some setting c1 sound n k a;
      leads = λ setting c1 n k r sound fit. leads outcomes lists c.sound_bodies_fit.ensures.law c.active_parts_fit.ensures.law setting c1 sound fit sets wires offers.one offers.some once.action n k r;
      passes = passes sets wires c.least_passes.ensures.some once.passing;
    }
