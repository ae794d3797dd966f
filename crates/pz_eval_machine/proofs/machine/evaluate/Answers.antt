use Rattle.std.proofs.Common.{length}
use Rattle.pz_classes_code.specs.CodeView.{view}
use Rattle.pz_state.specs.References.{RefersWithin}
use Rattle.pz_eval_operations.specs.pz_eval_rules.Memories.{in_process}
use Rattle.pz_eval_operations.specs.pz_eval_rules.Outcomes.{outside}
use Rattle.pz_eval_operations.specs.pz_eval_rules.devices.Computed.{evaluated}
use Rattle.pz_eval_machine.specs.declared.control.Control.TheVariants as control
use Rattle.pz_eval_machine.specs.devices.Tasks.{meant}
use Rattle.pz_eval_operations.specs.devices.Within.{TaskWithin}
use Rattle.pz_eval_machine.proofs.Advancing.{begun, ended_outside, nothing_within}
use Rattle.pz_eval_machine.proofs.machine.evaluate.Goals as goal

pub run-requires-clause-within : goal.run-requires-clause-within
run-requires-clause-within c = record {
  site = tt;
  locals = nothing_within (RefersWithin (length c.args.state.now.held.objects)) c.new.result.items c.new.ensures.items;
  tasks = nothing_within (TaskWithin (length c.args.state.now.held.objects)) c.new-2.result.items c.new-2.ensures.items;
}

pub run-requires-clause-callers : goal.run-requires-clause-callers
run-requires-clause-callers c = c.new-callers.ensures.items

pub returns-clause-goes : goal.returns-clause-goes
returns-clause-goes c model known =
    ended_outside c.run.result c.run.new.activation.site c.run.new.state.held c.run.new.activation.locals.items c.args.frame.0 c.run.new.units
    (meant model c.args.basis.clock (in_process c.args.frame.0) c.new-2.result.items (control.Evaluate c.args.depth c.args.code) (outside c.args.state.now.held) c.args.units.now)
    (evaluated model c.args.basis.clock c.args.depth (in_process c.args.frame.0) (view c.args.code.now) (outside c.args.state.now.held) c.args.units.now)
    (begun model c.args.basis.clock (in_process c.args.frame.0) c.args.depth c.args.code c.new-2.result.items (outside c.args.state.now.held) c.args.units.now c.new-2.ensures.items)
    c.run.ensures.place (c.run.ensures.goes model known)

pub returns-clause-marks : goal.returns-clause-marks
returns-clause-marks c = c.run.ensures.marks

pub returns-clause-within : goal.returns-clause-within
returns-clause-within c = c.run.ensures.within
