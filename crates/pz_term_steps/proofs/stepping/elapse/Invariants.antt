use Rattle.std.proofs.Common.{◌≡◌, ℕ, ◌<◌, ◌≤◌, Some}
use Rattle.std.specs.Prelude.{slice_get}
use Rattle.pz_bind.specs.pz_classes.CheckedView.{checked_model}
use Rattle.pz_term_processes.specs.declared.process.Process.{Process}
use Rattle.pz_term_processes.specs.Standing.{setting_of}
use Rattle.pz_term_steps.specs.devices.Elapsing.{PassedAt}
use Rattle.pz_term_steps.proofs.stepping.elapse.Given as goal

abbrev pub invariant-loop-number : goal.invariant-loop-number
invariant-loop-number l = record {
  passed : (i : ℕ) (old : Process) → i < l.number → slice_get l.initial.processes i ≡ Some old → PassedAt (setting_of (checked_model l.checked) l.limits) l.clock l.time i old l.processes;
  left : (i : ℕ) → l.number ≤ i → slice_get l.processes i ≡ slice_get l.initial.processes i;
}
