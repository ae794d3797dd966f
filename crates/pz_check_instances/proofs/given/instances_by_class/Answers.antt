use Rattle.std.proofs.Common.{◌≡◌, length, arith}
use Rattle.std.proofs.lemmas.List.{length-map}
use Rattle.pz_classes_code.specs.pz_syntax.ClassView.{decl_view, model_view}
use Rattle.pz_check_instances.proofs.Steps.{class_by_decl}
use Rattle.pz_check_instances.proofs.given.instances_by_class.Goals as goal

pub loop-decl-init : goal.loop-decl-init
loop-decl-init c =
    let m = model_view c.args.model.now in
    let count = c.count.ensures.count m c.requires in
    let same : length m.decls ≡ length c.args.model.now.decls = length-map c.args.model.now.decls decl_view in
    rw c.as_slice-decl-items.ensures (record {
      counted = omega (arith, c.in_ok-rows.ensures.counted, count, same);
      listed = λ k. rw (c.in_ok-rows.ensures.empty k) (class_by_decl m k c.args.model.now.decls);
    })
