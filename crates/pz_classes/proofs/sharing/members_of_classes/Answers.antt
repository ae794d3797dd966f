use Rattle.std.proofs.lemmas.Result.{IfOk-weaker}
use Rattle.pz_classes_code.specs.pz_syntax.ClassView.{model_view}
use Rattle.pz_classes.proofs.Filling.{all_filled}
use Rattle.pz_classes.proofs.sharing.members_of_classes.Goals as goal

pub returns : goal.returns
returns c =
    IfOk-weaker c.all_kept.result _ _ (λ fronts same. all_filled (model_view c.args.model.now) c.in_ok-table.table.items fronts.items c.in_ok-table.ensures.table same) c.all_kept.ensures
