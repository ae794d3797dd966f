use Rattle.std.proofs.Common.{◌≡◌, ◌∙◌, sym, ap, subst, arith, None}
use Rattle.std.specs.List.{flat_map}
use Rattle.std.proofs.lemmas.Grind.{common_steps}
use Rattle.pz_classes.specs.pz_syntax.ClassView.{decl_view, model_view}
use Rattle.pz_check_violations.specs.Least.{LeastOf, least_from}
use Rattle.pz_classes.specs.pz_classes_rules.ChannelRules.{BreaksC17}
use Rattle.pz_check_duplicates.specs.devices.EndList.{of_decl, double_ends}
use Rattle.pz_check_duplicates.proofs.Steps.{flat_step, flat_view}
use Rattle.pz_check_duplicates.proofs.EndsFound.{least_found}
use Rattle.pz_check_duplicates.proofs.ends.least_double_end.Goals as goal

pub loop-decl-preserved : goal.loop-decl-preserved
loop-decl-preserved c = flat_step (λ d. of_decl (decl_view d)) _ c.decl-item.result _ _ _ _ _ c.loop-decl-test.true c.decl-item.is (omega arith) c.in_ok-least.ensures c.loop-decl.invariant

pub returns : goal.returns
returns c =
    let found : c.loop-decl.least ≡ least_from None (flat_map (λ d. of_decl (decl_view d)) c.args.model.now.decls) = grind (arith, common_steps) in
    let all : c.loop-decl.least ≡ least_from None (double_ends (model_view c.args.model.now)) = found ∙ ap (least_from None) (sym (flat_view decl_view of_decl c.args.model.now.decls)) in
    subst (LeastOf (BreaksC17 (model_view c.args.model.now))) (sym all) (least_found (model_view c.args.model.now))
