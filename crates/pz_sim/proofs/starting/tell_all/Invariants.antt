use Rattle.std.proofs.Common.{◌≡◌}
use Rattle.pz_bind.specs.pz_classes.CheckedView.{checked_model}
use Rattle.pz_sim.specs.devices.Tables.{IsTable}
use Rattle.pz_sim.proofs.Spoken.{staged}
use Rattle.pz_sim.proofs.starting.tell_all.Given as goal

abbrev pub invariant-loop-process : goal.invariant-loop-process
invariant-loop-process g l = record {
  trees : l.trees ≡ l.initial.trees;
  table : ∥ IsTable (staged (checked_model l.checked) l.process l.initial.trees) l.pairs ∥₁;
}
