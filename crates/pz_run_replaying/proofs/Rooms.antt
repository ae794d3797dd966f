-- Room for the lines that are left.
use Rattle.std.proofs.Common.{◌<◌, ◌+◌, ◌^◌, ℕ, suc, Result, Ok, Err, arith}
use Rattle.std.specs.Prelude.{OnOk, ⊤}
use Rattle.pz_io.specs.declared.writing.Halt.{Halt}
use Rattle.pz_term_simulator.specs.Simulations.{Simulation, Passes, clock_in}
use Rattle.pz_term_simulator.specs.devices.Room.{HasRoomFor}
use Rattle.pz_run_replaying.specs.devices.Known.{Known}

-- after a passing there is still room for as many lines as before, and so for one less
pub waited_room : Known → (s t : Simulation) (left : ℕ) (r : Result ⊤ Halt) → HasRoomFor (suc left) s → OnOk r (Passes s t) → OnOk r (clock_in t < clock_in s + 2 ^ 64) → OnOk r (HasRoomFor left t)
waited_room known s t left (Ok x) room passes short = known.less_room (suc left) left t (omega arith) (known.passings_take (suc left) s t room passes short)
waited_room known s t left (Err h) room passes short = tt
