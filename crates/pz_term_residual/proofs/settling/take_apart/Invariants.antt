use Rattle.std.proofs.Common.{◌≡◌, drop}
use Rattle.std.specs.List.{All}
use Rattle.pz_rules.specs.Settings.{Process, Home}
use Rattle.pz_rules.specs.Leaving.{residual}
use Rattle.pz_rules.specs.View.{term_view}
use Rattle.pz_rules.specs.Places.{MayAct}
use Rattle.pz_term_residual.specs.devices.Unwound.{unwound, HasItsPlace}
use Rattle.pz_term_residual.proofs.settling.take_apart.Given as goal

abbrev pub invariant-loop-child : goal.invariant-loop-child
invariant-loop-child l = record {
  may : MayAct (term_view l.term) (drop l.child-index l.place);
  around : (home : Home) (p : Process) → unwound home l.levels.items (residual home l.frame.0 (term_view l.term) (drop l.child-index l.place) p) ≡ residual home 0 (term_view l.initial.term) l.place p;
  places : All HasItsPlace l.levels.items;
}
