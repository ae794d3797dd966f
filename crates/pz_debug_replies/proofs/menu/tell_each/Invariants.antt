use Rattle.std.proofs.Common.{◌≡◌, ◌++◌, List, ℕ, drop, None}
use Rattle.pz_io.specs.Writing.{Wrote}
use Rattle.pz_rules.specs.declared.action.Action.{Action}
use Rattle.pz_term_simulator.specs.Simulations.{model_in, AreOffersOf}
use Rattle.pz_debug_replies.specs.Lines.{offers_text}
use Rattle.pz_debug_session.specs.Sessions.{stands_in}
use Rattle.pz_debug_replies.proofs.menu.tell_each.Given as goal

abbrev pub invariant-loop-number : goal.invariant-loop-number
invariant-loop-number g l =
    (actions : List Action) → AreOffersOf (stands_in g.E.Simulator.simulation l.session) actions
    → (written : List ℕ) × Wrote (g.W.Sink.state l.initial.out) (g.W.Sink.state l.out) written None
    × (written ++ offers_text (model_in (stands_in g.E.Simulator.simulation l.session)) l.number (drop l.number actions) ≡ offers_text (model_in (stands_in g.E.Simulator.simulation l.session)) 0 actions)
