use Rattle.std.proofs.Common.{◌-◌, arith}
use Rattle.pz_eval_operations.specs.devices.Sites.{place_of, memory_of}
use Rattle.pz_eval_operations.proofs.Worth.{assigned_found}
use Rattle.pz_eval_operations.proofs.assigning.assign_at_once.Goals as goal

pub returns-clause-assigned : goal.returns-clause-assigned
returns-clause-assigned c =
    assigned_found (place_of c.args.activation.now.site) (memory_of c.args.activation.now c.args.state.now.held) (memory_of c.assigned.new.activation c.assigned.new.state.held)
    c.args.code.now c.in-Assign.value c.get.result.now c.in-Assign.slot c.in-Some.value c.in_ok-assigned.field-0 c.args.depth (c.args.depth - 1) c.args.units.now (c.args.units.now - 1) c.at_once.new.units
    c.in-Assign.is c.get.ensures (omega (arith, c.if-depth-eq0.false)) (omega (arith, c.if-units-eq0.false)) c.in_ok-assigned.ensures.value c.in_ok-assigned.ensures.memory c.in-Some.ensures.finds
