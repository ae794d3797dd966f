use Rattle.std.proofs.Common.{◌≡◌, length, drop}
use Rattle.std.specs.List.{All}
use Rattle.pz_copy.specs.pz_state.References.{RefersWithin}
use Rattle.pz_eval_binding.specs.Binding.{set_slots}
use Rattle.pz_eval_binding.proofs.binding.set_slots.Given as goal

abbrev pub invariant-loop-place : goal.invariant-loop-place
invariant-loop-place l = record {
  so_far : set_slots l.frame.0 (drop l.place l.slots) (drop l.place l.values.items) l.state.held ≡ set_slots l.frame.0 l.slots l.initial.values.items l.initial.state.held;
  marks : l.state.marks ≡ l.initial.state.marks;
  objects : l.state.held.objects ≡ l.initial.state.held.objects;
  within : All (RefersWithin (length l.initial.state.held.objects)) l.values.items;
}
