use Rattle.std.proofs.Common.{◌≡◌, refl, subst, List}
use Rattle.std.specs.Result.{IfOk}
use Rattle.pz_check_violations.specs.declared.violation.Violation.{Violation}
use Rattle.pz_check_violations.specs.Least.{least_from}
use Rattle.pz_check_duplicates.proofs.NameKeys.{names_repeat}
use Rattle.pz_check_duplicates.proofs.names.least_name.Goals as goal

pub returns : goal.returns
returns c =
    subst (λ (vs : List Violation). IfOk c.least_again.result (λ least. least ≡ least_from c.args.before vs)) (names_repeat _ (λ _ _. refl) 4 c.args.names.now _ refl) c.least_again.ensures
