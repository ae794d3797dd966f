use Rattle.std.proofs.Common.{List, sym, ◌∙◌, subst}
use Rattle.pz_classes_code.specs.pz_syntax.ClassView.{model_view}
use Rattle.pz_classes.specs.declared.line.End.{End}
use Rattle.pz_classes.specs.devices.Fronts.{IsLineTo}
use Rattle.pz_classes.proofs.Extending.{line_goes_on}
use Rattle.pz_classes.proofs.line.follow.Goals as goal

pub loop-step-preserved : goal.loop-step-preserved
loop-step-preserved c =
    let m = model_view c.args.model.now in
    subst (λ (ends : List End). IsLineTo m c.args.first c.add.new.self.own ends c.in-Some.next) (sym c.in_ok-add.ensures.ends)
    (line_goes_on m c.requires.acyclic c.args.first c.loop-step.last c.in-Some.next c.loop-step.line.own c.add.new.self.own c.loop-step.line.ends.items c.loop-step.invariant
    (sym (c.requires.extending c.in-Some.next) ∙ c.in-Some.ensures) c.in_ok-add.ensures.own)
