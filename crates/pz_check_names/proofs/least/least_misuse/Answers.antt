use Rattle.std.proofs.Common.{◌≡◌, None, sym, subst}
use Rattle.pz_classes_code.specs.pz_syntax.ClassView.{model_view}
use Rattle.pz_classes_lineage.specs.Preorder.{visited}
use Rattle.pz_check_violations.specs.Least.{LeastOf, least_from}
use Rattle.pz_classes.specs.pz_classes_rules.WordRules.{BreaksWord}
use Rattle.pz_check_names.specs.devices.Misuses.{misuses}
use Rattle.pz_check_names.proofs.Found.{least_found}
use Rattle.pz_check_names.proofs.Sets.{if_ok}
use Rattle.pz_check_names.proofs.least.least_misuse.Goals as goal

pub least_of_visits-requires-clause-opens : goal.least_of_visits-requires-clause-opens
least_of_visits-requires-clause-opens c = (c.preorder.ensures.preorder (model_view c.args.model.now) c.requires.classes).nested

pub returns : goal.returns
returns c =
    let m = model_view c.args.model.now in
    let walk = c.preorder.ensures.preorder m c.requires.classes in
    if_ok (λ least. least ≡ least_from None (misuses m (visited c.preorder.result.now))) (LeastOf (BreaksWord m)) c.least_of_visits.result
    (λ least is. subst (LeastOf (BreaksWord m)) (sym is) (least_found m (visited c.preorder.result.now) walk.whole)) c.least_of_visits.ensures
