use Rattle.std.proofs.Common.{ap, ◌∙◌, Bool, false, List, [], ◌∷◌, ◌++◌, length}
use Rattle.pz_classes.specs.pz_syntax.ClassView.{decl_view, model_view}
use Rattle.pz_check_openings.proofs.Marks.{none_so_far, one_more_mark, all_marked, read_decl, all_read}
use Rattle.pz_check_openings.proofs.declaring.declaring.Goals as goal

pub loop-decl-init : goal.loop-decl-init
loop-decl-init c = none_so_far (model_view c.args.model.now) c.args.methods.now c.push.new.self.items (ap length (c.in_ok-push.ensures.items ∙ ap (λ (l : List Bool). l ++ false ∷ []) c.new-marks.ensures.items))

pub loop-decl-preserved : goal.loop-decl-preserved
loop-decl-preserved c =
    one_more_mark (model_view c.args.model.now) c.args.methods.now c.loop-decl.decl-index c.loop-decl.first c.next_after-next.result c.count_declared.result (decl_view c.decl-item.result) c.has_between.result c.loop-decl.marks.items c.push-in-loop-decl.new.self.items c.loop-decl.invariant
    (read_decl c.args.model.now.decls _ c.loop-decl.decl-index c.decl-item.result c.as_slice-decl-items.ensures c.loop-decl-test.true c.decl-item.is) c.count_declared.ensures c.next_after-next.ensures c.has_between.ensures c.in_ok-push-2.ensures.items

pub returns : goal.returns
returns c = all_marked (model_view c.args.model.now) c.args.methods.now c.loop-decl.marks.items c.loop-decl.decl-index c.loop-decl.first (all_read c.args.model.now.decls _ c.loop-decl.decl-index c.as_slice-decl-items.ensures c.loop-decl-test.false) c.loop-decl.invariant
