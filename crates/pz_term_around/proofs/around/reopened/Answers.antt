use Rattle.pz_part_opening.specs.Homes.{home_view}
use Rattle.pz_term_around.proofs.AroundLevels.{opened_afresh}
use Rattle.pz_term_around.proofs.around.reopened.Goals as goal

pub returns : goal.returns
returns c = opened_afresh (home_view c.args.home.now) c.args.first c.in_ok-second.second c.args.again c.get.result.now c.args.state.now c.boxed_step.new.state c.get.ensures c.in_ok-second.ensures
