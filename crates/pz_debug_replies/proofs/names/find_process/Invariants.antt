use Rattle.std.proofs.Common.{◌≡◌, ◌<◌, ℕ}
use Rattle.pz_classes_code.specs.pz_syntax.Classes.{ModelTree}
use Rattle.pz_bind.specs.devices.Nets.{IsNet}
use Rattle.pz_trace.specs.Labels.{path_of}
use Rattle.pz_debug_replies.proofs.names.find_process.Given as goal

abbrev pub invariant-loop-process : goal.invariant-loop-process
invariant-loop-process l = (m : ModelTree) → ∥ IsNet m l.net ∥₁ → (j : ℕ) → j < l.process → path_of m j ≡ l.word → ⊥
