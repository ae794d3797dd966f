use Rattle.std.proofs.Common.{◌≡◌, nat_eq, not}
use Rattle.std.specs.List.{list_any}
use Rattle.pz_rules.specs.pz_state.Marks.{changed}
use Rattle.pz_term_frames.specs.devices.Swept.{swept_up_to}
use Rattle.pz_term_frames.proofs.sweeping.close_those.Given as goal

abbrev pub invariant-loop-frame : goal.invariant-loop-frame
invariant-loop-frame l = l.state ≡ changed l.initial.state (swept_up_to (λ n. not (list_any (nat_eq n) l.gone)) l.frame-index l.initial.state.held)
