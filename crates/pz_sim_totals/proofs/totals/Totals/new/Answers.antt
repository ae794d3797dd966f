use Rattle.std.proofs.Common.{◌++◌, replicate, ap, ◌∙◌}
use Rattle.std.proofs.lemmas.List.{length-replicate}
use Rattle.pz_sim_totals.specs.Sums.{none}
use Rattle.pz_sim_totals.specs.devices.Levels.{levels}
use Rattle.pz_sim_totals.proofs.Cells.{are_levels}
use Rattle.pz_sim_totals.proofs.totals.Totals.new.Goals as goal

pub invariant_of-result : goal.invariant_of-result
invariant_of-result c =
    let n = c.args.processes in
    are_levels n (replicate n none) c.grow.new.cells.items (length-replicate n none) (c.in_ok-grow.ensures ∙ ap (λ us. us ++ levels n (replicate n none)) c.new-cells.ensures.items)
