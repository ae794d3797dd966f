use Rattle.std.proofs.Common.{◌≡◌, ◌+◌, suc, get_or, arith}
use Rattle.std.proofs.lemmas.List.{get_or_default}
use Rattle.pz_classes.specs.pz_syntax.ClassView.{model_view}
use Rattle.pz_classes.specs.pz_classes_rules.Ancestors.{ancestors}
use Rattle.pz_classes_lineage.specs.declared.visit.Visit.{Visit}
use Rattle.pz_check_duplicates.specs.devices.RepeatList.{of_line}
use Rattle.pz_check_duplicates.proofs.Known.{knows_closed}
use Rattle.pz_check_duplicates.proofs.Openings.{entered}
use Rattle.pz_check_duplicates.proofs.Steps.{flat_step}
use Rattle.pz_check_duplicates.proofs.walk.least_inherited.Goals as goal

pub loop-visit-preserved : goal.loop-visit-preserved
loop-visit-preserved c =
    let m = model_view c.args.model.now in
    let i = c.loop-visit.visit-index in
    let first : Visit = record { class = 0; depth = 0 } in
    let visit = get_or c.args.visits.now i first in
    let is = get_or_default c.args.visits.now i first visit c.loop-visit-test.true in
    let next : i + 1 ≡ suc i = omega arith in
    let e = entered m c.args.sort c.args.visits.now visit i (i + 1) c.loop-visit.known c.close_to.new.self c.enter.new.known c.loop-visit.least c.in_ok-least.least
    c.loop-visit-test.true is next c.loop-visit.invariant.walks
    (λ names kept. knows_closed names visit.depth c.loop-visit.known c.close_to.new.self c.close_to.ensures.closed kept)
    c.in_ok-least.ensures.known c.in_ok-least.ensures.found in
    record {
      walks = e.walks;
      found = flat_step (λ (v : Visit). of_line m c.args.sort (ancestors m v.class)) c.args.visits.now visit _ _ c.loop-visit.least _ _ c.loop-visit-test.true is next e.found c.loop-visit.invariant.found;
    }
