-- What is known of runs, by the laws of the crates below.
use Rattle.pz_rules.specs.Laws.{OneMoment, OneListOfOffers, OneNext, OnePassing, StaysWhole, OneStart}
use Rattle.pz_term_simulator.specs.Laws.{OneMomentOf}

pub record Known : Type 0 where
  pub one_moment : OneMoment
  pub one_list : OneListOfOffers
  pub one_next : OneNext
  pub one_passing : OnePassing
  pub stays_whole : StaysWhole
  pub one_start : OneStart
  pub one_moment_of : OneMomentOf
