use Rattle.std.proofs.Common.{sym, ◌∙◌}
use Rattle.pz_part_opening.specs.Homes.{home_view}
use Rattle.pz_part_opening.proofs.Ways.{some_inputs, some_results}
use Rattle.pz_part_opening.proofs.spot.way_into.Goals.{then-not-is_empty-via-then-not-is_empty, then-not-is_empty-via-else-not-is_empty+then-not-is_empty-2}
use Rattle.pz_part_opening.proofs.spot.way_into.Goals as goal

pub returns-then-not-is_empty : goal.returns-then-not-is_empty
returns-then-not-is_empty c =
    elim c.then-not-is_empty.branch [
      | then-not-is_empty-via-then-not-is_empty w ↦
          some_inputs (home_view c.args.home.now) c.args.step.now c.in-Call.method c.in-Call.args c.in-Call.results (sym c.get.ensures ∙ c.in-Call.is) c.get-in-Call.result.now c.is_empty.result c.get-in-Call.ensures c.is_empty.ensures.1 w.if-not-is_empty.true
      | then-not-is_empty-via-else-not-is_empty+then-not-is_empty-2 w ↦
          some_results (home_view c.args.home.now) c.args.step.now c.in-Call.method c.in-Call.args c.in-Call.results (sym c.get.ensures ∙ c.in-Call.is) w.get-else-not-is_empty.result.now w.is_empty-else-not-is_empty.result
          w.get-else-not-is_empty.ensures w.is_empty-else-not-is_empty.ensures.1 w.if-not-is_empty-2.true
    ]
