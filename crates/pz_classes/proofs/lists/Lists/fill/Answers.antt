use Rattle.std.proofs.Common.{sym, subst}
use Rattle.std.proofs.lemmas.List.Elements.{All-get_or}
use Rattle.pz_classes_code.specs.pz_syntax.ClassView.{model_view}
use Rattle.pz_classes_rules.specs.Ancestors.{ancestors}
use Rattle.pz_classes.specs.devices.Inherited.{HasMembers}
use Rattle.pz_classes.specs.devices.Fronts.{listed, IsEnd}
use Rattle.pz_classes.proofs.FewMembers.{members_fit}
use Rattle.pz_classes.proofs.Filling.{fills_end}
use Rattle.pz_classes.proofs.lists.Lists.fill.Goals as goal

pub front-requires-clause-few : goal.front-requires-clause-few
front-requires-clause-few c =
    let m = model_view c.args.model.now in
    let lists = listed c.args.self.now.fields c.args.self.now.variables c.args.self.now.ports in
    let is = All-get_or (IsEnd m c.args.self.now.above lists) c.args.ends.now c.loop-end.end-index _ c.loop-end-test.true c.requires.ends in
    members_fit m c.requires.few c.requires.acyclic _ is.below _ is.has

pub loop-end-preserved : goal.loop-end-preserved
loop-end-preserved c =
    let m = model_view c.args.model.now in
    let lists = listed c.args.self.now.fields c.args.self.now.variables c.args.self.now.ports in
    let is = All-get_or (IsEnd m c.args.self.now.above lists) c.args.ends.now c.loop-end.end-index _ c.loop-end-test.true c.requires.ends in
    fills_end m c.args.ends.now c.loop-end.end-index _ c.in_ok-front.field-0 c.args.table.now c.loop-end.table c.loop-end-test.true c.loop-end.invariant is.below
    (subst (HasMembers m (ancestors m _)) (sym c.in_ok-front.ensures) is.has)
