use Rattle.pz_term_simulator.proofs.Moments.{one_moment_of, offers_there, offers_counted, offers_numbered, offers_derived, one_offer_of}
use Rattle.pz_term_simulator.proofs.laws.simulators_show_one_moment.Goals as goal

pub returns : goal.returns
returns c = record {
  one = one_moment_of c.one_moment.ensures.one;
  there = offers_there c.one_moment.ensures.counts;
  counted = offers_counted c.one_moment.ensures.counts c.one_list_of_offers.ensures.one;
  numbered = offers_numbered c.one_list_of_offers.ensures.one;
  derived = offers_derived;
  same = one_offer_of c.one_list_of_offers.ensures.one;
}
