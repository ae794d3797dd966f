use Rattle.pz_term_simulator.proofs.Rooms.{starts_with_room, choices_take_room, passings_take_no_room, room_means_low, less_room_too}
use Rattle.pz_term_simulator.proofs.laws.room_is_left.Goals as goal

pub returns : goal.returns
returns c = record {
  start = starts_with_room c.room_is_left.ensures.start;
  choice = choices_take_room c.room_is_left.ensures.action;
  passing = passings_take_no_room c.room_is_left.ensures.passing;
  low = room_means_low c.room_is_left.ensures.low;
  less = less_room_too c.room_is_left.ensures.less;
}
