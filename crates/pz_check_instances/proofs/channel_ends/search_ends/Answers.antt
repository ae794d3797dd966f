use Rattle.std.proofs.Common.{◌∙◌, ◌+◌, arith}
use Rattle.pz_classes_code.specs.pz_syntax.ClassView.{model_view}
use Rattle.pz_classes.proofs.pz_classes_rules_proofs.FewMarks.{room, item_fits}
use Rattle.pz_check_instances.specs.devices.Ends.{missing_at, wanted_at}
use Rattle.pz_check_instances.specs.devices.Search.{wanted_of}
use Rattle.pz_check_instances.proofs.Steps.{over_step, over_least_step}
use Rattle.pz_check_instances.proofs.channel_ends.search_ends.Goals as goal

pub overflow_add-number : goal.overflow_add-number
overflow_add-number c =
    let ds = c.as_slice-decl-items.result.now in
    omega (arith, room ds (rw c.as_slice-decl-items.ensures c.requires.few), c.loop-decl.invariant.numbered, c.loop-decl-test.true)

pub add_decl-requires-clause-marks : goal.add_decl-requires-clause-marks
add_decl-requires-clause-marks c =
    item_fits c.as_slice-decl-items.result.now (rw c.as_slice-decl-items.ensures c.requires.few) c.loop-decl.decl-index c.decl-item.result c.loop-decl-test.true c.decl-item.is

pub loop-decl-preserved : goal.loop-decl-preserved
loop-decl-preserved c =
    let m = model_view c.args.model.now in
    record {
      numbered = omega (arith, c.loop-decl.invariant.numbered);
      counted = c.in_ok-add_decl.ensures.counted ∙ c.loop-decl.invariant.counted;
      asked = λ k. over_step (wanted_at m k) _ c.decl-item.result _ _ c.loop-decl.number (c.loop-decl.number + 1) (wanted_of c.loop-decl.found k) (wanted_of c.add_decl.new.self k) _
          c.loop-decl-test.true c.decl-item.is (omega arith) (omega arith) (c.in_ok-add_decl.ensures.asked k) (c.loop-decl.invariant.asked k);
      least = over_least_step (missing_at m) _ c.decl-item.result _ _ c.loop-decl.number (c.loop-decl.number + 1) _ _ _
          c.loop-decl-test.true c.decl-item.is (omega arith) (omega arith) c.in_ok-add_decl.ensures.least c.loop-decl.invariant.least;
    }
