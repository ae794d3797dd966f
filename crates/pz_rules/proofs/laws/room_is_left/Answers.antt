use Rattle.pz_rules.proofs.Room.{start_room, action_room, passing_room, room_low, less_room}
use Rattle.pz_rules.proofs.laws.room_is_left.Goals as goal

pub returns : goal.returns
returns c = record {
  start = start_room;
  action = action_room;
  passing = λ setting config next d left room is passes short. passing_room setting config next d left (c.wires_are_known.ensures.law setting.model room.sound) room is passes short;
  low = room_low;
  less = less_room;
}
