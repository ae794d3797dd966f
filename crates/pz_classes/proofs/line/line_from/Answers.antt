use Rattle.std.proofs.Common.{◌∷◌, [], ◌++◌, List, ap, sym, ◌∙◌, subst, arith}
use Rattle.pz_classes_code.specs.pz_syntax.ClassView.{model_view}
use Rattle.pz_classes.specs.declared.line.End.{End}
use Rattle.pz_classes.specs.declared.members.Members.{Members}
use Rattle.pz_classes.specs.devices.Inherited.{AddsAt}
use Rattle.pz_classes.specs.devices.Fronts.{lengths, IsLineTo}
use Rattle.pz_classes.proofs.Extending.{line_begins}
use Rattle.pz_classes.proofs.Filling.{counted_with}
use Rattle.pz_classes.proofs.line.line_from.Goals as goal

pub follow-requires-clause-begun : goal.follow-requires-clause-begun
follow-requires-clause-begun c =
    let m = model_view c.args.model.now in
    let own = c.add.new.self.own in
    let counted = counted_with c.args.model.now in
    let within = c.requires.within in
    subst (λ (ends : List End). IsLineTo m c.args.first own ends c.args.first)
    (sym (c.in_ok-add.ensures.ends ∙ ap (λ (ends : List End). ends ++ record { class = c.args.first; lengths = lengths own } ∷ []) c.new-2.ensures.items))
    (line_begins m c.requires.acyclic c.args.first own (omega (arith, counted, within)) (subst (λ (old : Members). AddsAt m c.args.first old own) c.new.ensures c.in_ok-add.ensures.own))
