use Rattle.std.proofs.Common.{◌≡◌, length}
use Rattle.std.specs.List.{All}
use Rattle.pz_rules.specs.View.{term_view}
use Rattle.pz_rules.specs.Settings.{left_by}
use Rattle.pz_term_around.specs.pz_part_opening.Homes.{home_view}
use Rattle.pz_term_residual.specs.devices.Unwound.{unwound, HasItsPlace}
use Rattle.pz_term_residual.proofs.settling.put_together.Given as goal

abbrev pub invariant-loop-level : goal.invariant-loop-level
invariant-loop-level l = record {
  so_far : unwound (home_view l.home) l.levels.items (left_by l.state.held (term_view l.left)) ≡ unwound (home_view l.home) l.initial.levels.items (left_by l.initial.state.held (term_view l.initial.left));
  marks : l.state.marks ≡ l.initial.state.marks;
  places : All HasItsPlace l.levels.items;
}

abbrev pub decreases-loop-level : goal.decreases-loop-level
decreases-loop-level l = length l.levels.items
