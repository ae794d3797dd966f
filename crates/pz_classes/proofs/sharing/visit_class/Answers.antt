use Rattle.std.proofs.Common.{sym, subst, ap, ◌∙◌}
use Rattle.pz_classes_code.specs.pz_syntax.ClassView.{model_view}
use Rattle.pz_classes.specs.devices.Fronts.{kept_above, Inherits}
use Rattle.pz_classes.proofs.sharing.visit_class.Goals as goal

pub fill-requires-clause-ends : goal.fill-requires-clause-ends
fill-requires-clause-ends c =
    let same = c.in_ok-above.ensures ∙ c.front_above.ensures ∙ ap (kept_above c.args.table.now c.args.root.now) c.parent_at.ensures in
    let inherits = subst (Inherits (model_view c.args.model.now) c.args.class) (sym same) c.requires.inherits in
    rw (c.in_ok-lists.ensures.names, c.in_ok-lists.ensures.above, c.as_slice.ensures.value) (c.in_ok-own.ensures.each c.in_ok-above.above inherits)
