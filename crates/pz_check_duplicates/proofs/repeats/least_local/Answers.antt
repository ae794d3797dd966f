use Rattle.std.proofs.Common.{◌∙◌, ap, List, arith}
use Rattle.pz_classes.specs.pz_syntax.declared.names.Id.{Id}
use Rattle.pz_check_violations.specs.Least.{least_from}
use Rattle.pz_check_duplicates.specs.devices.RepeatList.{of_names, of_part}
use Rattle.pz_check_duplicates.proofs.Steps.{flat_step}
use Rattle.pz_check_duplicates.proofs.repeats.least_local.Goals as goal

pub loop-part-preserved : goal.loop-part-preserved
loop-part-preserved c =
    flat_step of_part _ c.part-item.result _ _ c.loop-part.least _ _ c.loop-part-test.true c.part-item.is (omega arith)
    (c.in_ok-least.ensures ∙ ap (λ (ids : List Id). least_from c.loop-part.least (of_names ids)) c.locals.ensures) c.loop-part.invariant
