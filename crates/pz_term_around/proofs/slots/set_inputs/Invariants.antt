use Rattle.std.proofs.Common.{◌≡◌, length, drop}
use Rattle.std.specs.List.{All}
use Rattle.pz_rules.specs.pz_state.References.{RefersWithin}
use Rattle.pz_eval_binding.specs.Binding.{set_slots, first_slots}
use Rattle.pz_term_around.proofs.slots.set_inputs.Given as goal

abbrev pub invariant-loop-place : goal.invariant-loop-place
invariant-loop-place l = record {
  so_far : set_slots l.frame.0 (first_slots l.place (drop l.place l.values.items)) (drop l.place l.values.items) l.state.held ≡ set_slots l.frame.0 (first_slots 0 l.initial.values.items) l.initial.values.items l.initial.state.held;
  marks : l.state.marks ≡ l.initial.state.marks;
  objects : l.state.held.objects ≡ l.initial.state.held.objects;
  sized : length l.values.items ≡ length l.initial.values.items;
  within : All (RefersWithin (length l.initial.state.held.objects)) l.values.items;
}
