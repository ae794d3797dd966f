use Rattle.std.proofs.Common.{◌≡◌, length, take, drop}
use Rattle.std.specs.List.{All}
use Rattle.pz_rules.specs.pz_state.References.{RefersWithin}
use Rattle.pz_rules.specs.pz_state.States.{locals}
use Rattle.pz_term_around.proofs.slots.copy_locals.Given as goal

abbrev pub invariant-loop-count : goal.invariant-loop-count
invariant-loop-count l = record {
  so_far : l.values.items ≡ take l.count (drop l.first (locals l.state.held l.frame.0));
  within : All (RefersWithin (length l.state.held.objects)) l.values.items;
}
