use Rattle.std.proofs.Common.{◌≡◌, ◌∙◌, sym, ap, Some, slice_get}
use Rattle.std.specs.Option.{option_copied}
use Rattle.pz_bind.proofs.Gets.{got}
use Rattle.pz_bind.proofs.PlanSteps.{port_step}
use Rattle.pz_bind.proofs.naming.Naming.port.Goals as goal

pub returns : goal.returns
returns c = λ m xs naming.
    let parts = c.args.self.now.parts.now in
    let part = c.in_ok-class.field-0.now in
    let here : slice_get parts c.args.part ≡ Some part =
    sym (got parts c.args.part c.get.result c.get.ensures.lookup.3 c.get.ensures.lookup.1) ∙ ap option_copied c.in_ok-class.was in
    port_step m _ xs parts part c.args.part c.args.name.now c.port_in.result naming.parts naming.model here c.port_in.ensures
