-- How the program ends.
use Rattle.std.specs.Prelude.{ℕ}
use Rattle.pz_debug.specs.declared.status.DebugStatus.{DebugStatus}
use Rattle.pz_debug.specs.declared.status.DebugStatus.TheVariants.{Done, Usage, ModelRefused, TooLong, ReadFault, WriteFault, NoMemory}

-- the exit status
abbrev pub number_of : DebugStatus → ℕ
number_of Done = 0
number_of Usage = 2
number_of ModelRefused = 3
number_of TooLong = 7
number_of ReadFault = 8
number_of WriteFault = 9
number_of NoMemory = 10
