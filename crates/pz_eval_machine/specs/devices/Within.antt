-- References in what is done next, and in what an evaluation ends with, name objects that are there.
use Rattle.std.specs.Prelude.{ℕ}
use Rattle.pz_state.specs.References.{RefersWithin}
use Rattle.pz_eval_operations.specs.devices.Within.{RequestWithin}
use Rattle.pz_eval_machine.specs.declared.control.Control.{Control}
use Rattle.pz_eval_machine.specs.declared.control.Control.TheVariants as control
use Rattle.pz_eval_machine.specs.declared.control.Finish.{Finish}
use Rattle.pz_eval_machine.specs.declared.control.Finish.TheVariants as finish
use Rattle.pz_eval_machine.specs.declared.control.Progress.{Progress}
use Rattle.pz_eval_machine.specs.declared.control.Progress.TheVariants as progress

abbrev pub ControlWithin : ℕ → Control → Type 0
ControlWithin count (control.Evaluate d code) = Unit {0}
ControlWithin count (control.Give y) = RefersWithin count y
ControlWithin count (control.Send q) = RequestWithin count q.value
ControlWithin count (control.Leave y) = RefersWithin count y

abbrev pub FinishWithin : ℕ → Finish → Type 0
FinishWithin count (finish.Value y) = RefersWithin count y
FinishWithin count (finish.Return y) = RefersWithin count y

abbrev pub ProgressWithin : ℕ → Progress → Type 0
ProgressWithin count (progress.On c) = ControlWithin count c
ProgressWithin count (progress.Over f) = FinishWithin count f
