-- Room for actions, as a simulator goes on.
use Rattle.std.proofs.Common.{◌≡◌, ℕ, subst, arith}
use Rattle.pz_rules.specs.declared.moment.Moment.{Moment}
use Rattle.pz_rules.specs.declared.moment.Moment.TheVariants.{Time, Stopped, Broken}
use Rattle.pz_rules.specs.Runs.{whole, stopped}
use Rattle.pz_rules.specs.devices.Room.{StartsHaveRoom, ActionsLeaveRoom, PassingsLeaveRoom, RoomIsLow, LessRoom}
use Rattle.pz_term_simulator.specs.Simulations as simulations
use Rattle.pz_term_simulator.specs.Simulations.{stands, broken}
use Rattle.pz_term_simulator.specs.devices.Room.{StartsWithRoom, ChoicesTakeRoom, PassingsTakeNoRoom, RoomMeansLow, LessRoomToo}

pub starts_with_room : StartsHaveRoom → StartsWithRoom
starts_with_room law setting _ sound few opens (simulations.starts c is) = law setting c sound few opens is

pub choices_take_room : ActionsLeaveRoom → ChoicesTakeRoom
choices_take_room law k left _ _ room (simulations.acts setting c next n a is choice to) = law setting c next a left room to
choices_take_room law k left _ _ room (simulations.stops setting c n a trouble is choice to) = tt

pub passings_take_no_room : PassingsLeaveRoom → PassingsTakeNoRoom
passings_take_no_room law left _ _ room (simulations.passes setting c next d is to) short = law setting c next d left room is to (omega (arith, to.clock, short))

abbrev IsTime : Moment → Type 0
IsTime (Time d) = Unit {0}
IsTime m = ⊥

no_time : (d : ℕ) (m : Moment) → Time d ≡ m → IsTime m
no_time d m e = subst IsTime e tt

pub room_means_low : RoomIsLow → RoomMeansLow
room_means_low law left d (stands setting c whole) room is = law setting c left room
room_means_low law left d (stands setting c (stopped trouble)) room is = absurd (no_time d (Stopped trouble) is)
room_means_low law left d (broken setting) room is = absurd (no_time d Broken is)

pub less_room_too : LessRoom → LessRoomToo
less_room_too law more left (stands setting c whole) fewer room = law setting c more left fewer room
less_room_too law more left (stands setting c (stopped trouble)) fewer room = tt
less_room_too law more left (broken setting) fewer room = tt
