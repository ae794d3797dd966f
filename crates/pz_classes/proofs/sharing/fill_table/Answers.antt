use Rattle.std.proofs.lemmas.List.{get_or_default}
use Rattle.pz_classes_code.specs.pz_syntax.ClassView.{model_view}
use Rattle.pz_classes.proofs.Filling.{is_class, visit_inherits, fills_visit, counted_with}
use Rattle.pz_classes.proofs.sharing.fill_table.Goals as goal

pub visit_class-requires-clause-within : goal.visit_class-requires-clause-within
visit_class-requires-clause-within c =
    is_class (model_view c.args.model.now) c.args.visits.now _ (counted_with c.args.model.now) c.requires.preorder c.loop-visit.visit-index
    _ c.loop-visit-test.true (get_or_default c.args.visits.now c.loop-visit.visit-index _ _ c.loop-visit-test.true)

pub visit_class-requires-clause-inherits : goal.visit_class-requires-clause-inherits
visit_class-requires-clause-inherits c =
    rw c.requires.root (visit_inherits (model_view c.args.model.now) c.args.visits.now _ (counted_with c.args.model.now) c.requires.preorder c.loop-visit.visit-index
    _ c.loop-visit-test.true (get_or_default c.args.visits.now c.loop-visit.visit-index _ _ c.loop-visit-test.true)
    c.args.table.now c.loop-visit.table c.args.parents.now c.requires.extending c.loop-visit.invariant)

pub loop-visit-preserved : goal.loop-visit-preserved
loop-visit-preserved c =
    fills_visit (model_view c.args.model.now) c.args.visits.now _ (counted_with c.args.model.now) c.requires.preorder c.loop-visit.visit-index
    _ c.loop-visit-test.true (get_or_default c.args.visits.now c.loop-visit.visit-index _ _ c.loop-visit-test.true)
    c.args.table.now c.loop-visit.table c.visit_class.new.table c.loop-visit.invariant c.in_ok-visit_class.ensures
