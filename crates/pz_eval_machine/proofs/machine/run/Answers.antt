use Rattle.std.proofs.Common.{List, length, refl, ap, arith}
use Rattle.pz_eval_operations.specs.declared.task.Activation.{Activation}
use Rattle.pz_eval_operations.specs.devices.Sites.{place_of, memory_at}
use Rattle.pz_eval_machine.specs.devices.Tasks.{meant}
use Rattle.pz_eval_machine.specs.devices.Steps.{root}
use Rattle.pz_eval_operations.specs.devices.Within.{ActivationWithin}
use Rattle.pz_eval_machine.proofs.Unwinding.{unwound_none}
use Rattle.pz_eval_machine.proofs.Advancing.{nothing_within}
use Rattle.pz_eval_machine.proofs.machine.run.Goals as goal

pub units-init : goal.units-init
units-init c = record {
  goes = λ model known. unwound_none model c.args.basis.clock c.args.callers.now.items (meant model c.args.basis.clock (place_of c.args.activation.now.site) c.args.activation.now.tasks.items c.args.first (memory_at c.args.activation.now.site c.args.state.now.held c.args.activation.now.locals.items) c.args.units.now) c.requires.callers;
  marks = refl;
  count = omega arith;
  place = ap (λ (cs : List Activation). root cs (place_of c.args.activation.now.site)) c.requires.callers;
  control = c.requires.control;
  within = c.requires.within;
  callers = nothing_within (ActivationWithin (length c.args.state.now.held.objects)) c.args.callers.now.items c.requires.callers;
}
