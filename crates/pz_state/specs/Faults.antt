-- The numbers of the faults.
use Rattle.std.specs.Prelude.{ℕ}
use Rattle.pz_state.specs.declared.fault.FaultKind.{FaultKind}
use Rattle.pz_state.specs.declared.fault.FaultKind.TheVariants as fault

abbrev pub number_of : FaultKind → ℕ
number_of fault.Overflow = 1
number_of fault.DivideByZero = 2
number_of fault.NotUnderstood = 3
number_of fault.Index = 4
number_of fault.NegativeDelay = 5
number_of fault.NotBoolean = 6
number_of fault.NotInteger = 7
number_of fault.StoreFull = 8
number_of fault.ClockTooLarge = 9
