use Rattle.pz_run_replaying.proofs.laws.rules_are_known.Goals as goal

pub returns : goal.returns
returns c = record {
  one_list = c.one_list_of_offers.ensures.one;
  wires = c.wires_are_known.ensures.law;
  one_moment = c.one_moment.ensures.one;
  some_moment = c.one_moment.ensures.some;
  counts = c.one_moment.ensures.counts;
  some_passing = c.least_passes.ensures.some;
  one_next = c.one_next.ensures.action;
  one_passing = c.one_next.ensures.passing;
  stays_whole = c.one_next.ensures.whole;
  start_fits = c.what_fits_goes_on.ensures.start;
  stays_fit = c.what_fits_goes_on.ensures.stays;
  some_next = c.what_fits_goes_on.ensures.some;
  one_moment_of = c.simulators_show_one_moment.ensures.one;
  offers_derived = c.simulators_show_one_moment.ensures.derived;
  one_offer = c.simulators_show_one_moment.ensures.same;
  room_at_start = c.room_is_left.ensures.start;
  choices_take = c.room_is_left.ensures.choice;
  passings_take = c.room_is_left.ensures.passing;
  room_is_low = c.room_is_left.ensures.low;
  less_room = c.room_is_left.ensures.less;
  offers_named = c.what_happens_is_named.ensures.offers;
  faults_named = c.what_happens_is_named.ensures.faults;
  highs_named = c.what_happens_is_named.ensures.highs;
  stops_named = c.what_happens_is_named.ensures.stops;
  header_lines = c.lines_stand_apart.ensures.header;
  end_lines = c.lines_stand_apart.ensures.end;
  one_line = c.lines_differ.ensures.first;
  actions_differ = c.lines_differ.ensures.offers;
  stop_acting = c.lines_differ.ensures.stop_acting;
  stop_passing = c.lines_differ.ensures.stop_passing;
  one_heading = c.headings_tell_actions.ensures.one;
  some_heading = c.headings_tell_actions.ensures.some;
  headings = c.headings_tell_actions.ensures.actions;
  nothing = c.pieces_join.ensures.nothing;
  joins = c.pieces_join.ensures.joins;
  halts = c.pieces_join.ensures.halts;
  wants = c.pieces_join.ensures.wants;
}
