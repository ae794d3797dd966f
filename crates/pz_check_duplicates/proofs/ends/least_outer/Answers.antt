use Rattle.std.proofs.Common.{◌≡◌, refl, ◌∙◌, subst, List, map, rules}
use Rattle.std.specs.Result.{IfOk}
use Rattle.pz_check_violations.specs.declared.violation.Violation.{Violation}
use Rattle.pz_check_violations.specs.Least.{least_from}
use Rattle.pz_check_duplicates.specs.devices.Again.{thing_place}
use Rattle.pz_check_duplicates.specs.devices.Outers.{outer_places}
use Rattle.pz_check_duplicates.proofs.AlikeKeys.{alike_repeat}
use Rattle.pz_check_duplicates.proofs.OuterEnds.{outers_repeat}
use Rattle.pz_check_duplicates.proofs.ends.least_outer.Goals as goal

pub returns : goal.returns
returns c =
    let all : map thing_place c.as_slice-2.result.now ≡ outer_places c.args.channel.now.ends = search rules in
    subst (λ (vs : List Violation). IfOk c.least_again.result (λ least. least ≡ least_from c.args.before vs)) (alike_repeat _ (λ _ _. refl) 17 c.as_slice-2.result.now _ all ∙ outers_repeat c.args.channel.now.ends) c.least_again.ensures
