use Rattle.std.proofs.Common.{◌≡◌, refl, subst, List, map, arith}
use Rattle.std.specs.List.{flat_map}
use Rattle.std.specs.Result.{IfOk}
use Rattle.std.proofs.lemmas.Grind.{common_steps}
use Rattle.pz_classes.specs.pz_syntax.declared.clusters.Channel.{Channel}
use Rattle.pz_check_violations.specs.declared.violation.Violation.{Violation}
use Rattle.pz_check_violations.specs.Least.{least_from}
use Rattle.pz_check_duplicates.specs.devices.Tips.{tip, tip_of}
use Rattle.pz_check_duplicates.proofs.EndKeys.{ends_repeat}
use Rattle.pz_check_duplicates.proofs.ends.least_end.Goals as goal

pub returns : goal.returns
returns c =
    let all : map tip_of c.as_slice-2.result.now ≡ map tip (flat_map (λ (h : Channel). h.ends) c.args.channels.now) = grind (arith, common_steps) in
    subst (λ (vs : List Violation). IfOk c.least_again.result (λ least. least ≡ least_from c.args.before vs)) (ends_repeat _ (record { inners = λ _ _ _ _. refl; outers = λ _ _. refl; inner_outer = λ _ _ _. refl; outer_inner = λ _ _ _. refl }) 17 c.as_slice-2.result.now _ all) c.least_again.ensures
