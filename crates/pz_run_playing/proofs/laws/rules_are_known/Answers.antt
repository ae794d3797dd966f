use Rattle.pz_run_playing.proofs.laws.rules_are_known.Goals as goal

pub returns : goal.returns
returns c = record {
  wires = c.wires_are_known.ensures.law;
  one_moment = c.one_moment.ensures.one;
  some_moment = c.one_moment.ensures.some;
  counts = c.one_moment.ensures.counts;
  positive = c.least_passes.ensures.positive;
  some_passing = c.least_passes.ensures.some;
  stays_whole = c.one_next.ensures.whole;
  start_fits = c.what_fits_goes_on.ensures.start;
  stays_fit = c.what_fits_goes_on.ensures.stays;
  some_next = c.what_fits_goes_on.ensures.some;
  some_run = c.one_chosen_run.ensures.some;
  are_runs = c.one_chosen_run.ensures.is_run;
  passings_end = c.passings_end.ensures.law;
  one_moment_of = c.simulators_show_one_moment.ensures.one;
  offers_there = c.simulators_show_one_moment.ensures.there;
  offers_counted = c.simulators_show_one_moment.ensures.counted;
  offers_numbered = c.simulators_show_one_moment.ensures.numbered;
  offers_derived = c.simulators_show_one_moment.ensures.derived;
  one_offer = c.simulators_show_one_moment.ensures.same;
  room_at_start = c.room_is_left.ensures.start;
  choices_take = c.room_is_left.ensures.choice;
  passings_take = c.room_is_left.ensures.passing;
  room_is_low = c.room_is_left.ensures.low;
  less_room = c.room_is_left.ensures.less;
  offers_named = c.what_happens_is_named.ensures.offers;
  faults_named = c.what_happens_is_named.ensures.faults;
  highs_named = c.what_happens_is_named.ensures.highs;
  stops_named = c.what_happens_is_named.ensures.stops;
  nothing = c.pieces_join.ensures.nothing;
  joins = c.pieces_join.ensures.joins;
  halts = c.pieces_join.ensures.halts;
  wants = c.pieces_join.ensures.wants;
  processes_there = c.processes_are_there.ensures.named;
}
