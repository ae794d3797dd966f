use Rattle.std.proofs.Common.{ap, subst}
use Rattle.std.specs.Prelude.{IfOk}
use Rattle.pz_classes_code.specs.CodeView.{part_view}
use Rattle.pz_rules.specs.pz_state.States.{StateView}
use Rattle.pz_rules.specs.pz_state.Marks.{Seen}
use Rattle.pz_part_queries.specs.Standpoints.{seen_from}
use Rattle.pz_part_actions.specs.devices.Effects.{Ran}
use Rattle.pz_part_actions.proofs.taking.bind.Goals as goal

pub returns-clause-runs : goal.returns-clause-runs
returns-clause-runs c = λ m class known.
    subst (λ (s : StateView). IfOk c.run_part.result (λ end. Ran (seen_from m c.args.here.now class s) c.args.frame.0 c.args.pos (part_view c.args.block.now) end c.run_part.new.state.held))
    (ap (λ (t : Seen). t.held) c.in_ok-set_slots.ensures.ok) (rw (← c.get.ensures) (c.run_part.ensures.runs m class known))
