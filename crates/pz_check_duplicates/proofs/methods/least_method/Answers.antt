use Rattle.std.proofs.Common.{◌≡◌, refl, subst, List, map, rules}
use Rattle.std.specs.Result.{IfOk}
use Rattle.pz_classes.specs.pz_syntax.ClassView.{decl_view}
use Rattle.pz_check_violations.specs.declared.violation.Violation.{Violation}
use Rattle.pz_check_violations.specs.Least.{least_from}
use Rattle.pz_classes.specs.pz_classes_rules.RepeatRules.{headings}
use Rattle.pz_check_duplicates.specs.devices.Headings.{heading_of}
use Rattle.pz_check_duplicates.proofs.MethodKeys.{methods_repeat}
use Rattle.pz_check_duplicates.proofs.methods.least_method.Goals as goal

pub returns : goal.returns
returns c =
    let all : map heading_of c.as_slice.result.now ≡ headings (decl_view c.args.decl.now) = search rules in
    subst (λ (vs : List Violation). IfOk c.least_again.result (λ least. least ≡ least_from c.args.before vs)) (methods_repeat _ (record { datas = λ _ _ _ _. refl; processes = λ _ _ _ _ _ _. refl; data_process = λ _ _ _ _ _. refl; process_data = λ _ _ _ _ _. refl }) 4 c.as_slice.result.now _ all) c.least_again.ensures
