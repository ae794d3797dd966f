use Rattle.pz_debug_replies.proofs.laws.rules_are_known.Goals as goal

pub returns : goal.returns
returns c = record {
  wires = c.wires_are_known.ensures.law;
  some_moment = c.one_moment.ensures.some;
  counts = c.one_moment.ensures.counts;
  some_passing = c.least_passes.ensures.some;
  stays_whole = c.one_next.ensures.whole;
  start_fits = c.what_fits_goes_on.ensures.start;
  stays_fit = c.what_fits_goes_on.ensures.stays;
  some_next = c.what_fits_goes_on.ensures.some;
  some_start = c.start_is_one.ensures.some;
  some_parcel = c.walks_list_what_is_active.ensures.parcels;
  one_list = c.one_list_of_offers.ensures.one;
  one_moment_of = c.simulators_show_one_moment.ensures.one;
  offers_there = c.simulators_show_one_moment.ensures.there;
  offers_counted = c.simulators_show_one_moment.ensures.counted;
  offers_numbered = c.simulators_show_one_moment.ensures.numbered;
  offers_derived = c.simulators_show_one_moment.ensures.derived;
  one_offer = c.simulators_show_one_moment.ensures.same;
  offers_named = c.what_happens_is_named.ensures.offers;
  faults_named = c.what_happens_is_named.ensures.faults;
  highs_named = c.what_happens_is_named.ensures.highs;
  stops_named = c.what_happens_is_named.ensures.stops;
  nothing = c.pieces_join.ensures.nothing;
  joins = c.pieces_join.ensures.joins;
  halts = c.pieces_join.ensures.halts;
  wants = c.pieces_join.ensures.wants;
  some_commands = c.texts_have_one_list.ensures.some;
  one_place = c.sessions_have_one_place.ensures;
  begins = c.sessions_go_on.ensures.start;
  chosen = c.sessions_go_on.ensures.choice;
  passed = c.sessions_go_on.ensures.passing;
  low_chosen = c.sessions_go_on.ensures.low_choice;
  low_passed = c.sessions_go_on.ensures.low_passing;
  fronts = c.fronts_lead_too.ensures;
}
