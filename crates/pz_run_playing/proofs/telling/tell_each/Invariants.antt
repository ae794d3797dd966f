use Rattle.std.proofs.Common.{◌≡◌, ◌++◌, List, ℕ, drop, None}
use Rattle.pz_io.specs.Writing.{Wrote}
use Rattle.pz_rules.specs.declared.action.Action.{Action}
use Rattle.pz_term_simulator.specs.Simulations.{model_in, AreOffersOf}
use Rattle.pz_run_playing.specs.Menus.{offers_text}
use Rattle.pz_run_playing.proofs.telling.tell_each.Given as goal

abbrev pub invariant-loop-number : goal.invariant-loop-number
invariant-loop-number g l =
    (actions : List Action) → AreOffersOf (g.S.Simulator.simulation l.sim) actions
    → (written : List ℕ) × Wrote (g.W.Sink.state l.initial.out) (g.W.Sink.state l.out) written None
    × (written ++ offers_text (model_in (g.S.Simulator.simulation l.sim)) l.number (drop l.number actions) ≡ offers_text (model_in (g.S.Simulator.simulation l.sim)) 0 actions)
