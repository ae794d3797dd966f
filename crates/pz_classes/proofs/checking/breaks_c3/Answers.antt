use Rattle.std.proofs.Common.{◌∙◌, ap, false, Option, Bool}
use Rattle.std.specs.Option.{unwrap_or}
use Rattle.pz_classes_code.specs.pz_syntax.ClassView.{model_view}
use Rattle.pz_classes.proofs.Gets.{got}
use Rattle.pz_classes_rules.proofs.Rounds.{marked}
use Rattle.pz_classes.proofs.checking.breaks_c3.Goals as goal

pub returns : goal.returns
returns c =
    let read = got c.args.round.now c.args.number c.get.result c.get.ensures.lookup.3 c.get.ensures.lookup.1 in
    c.unwrap_or.ensures ∙ ap (λ (o : Option Bool). unwrap_or o false) (c.copied.ensures ∙ read) ∙ marked (model_view c.args.model.now) c.args.number c.args.round.now c.requires
