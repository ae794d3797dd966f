use Rattle.std.proofs.Common.{◌≡◌, sym, subst, ap, ◌∙◌, refl, true, false, List, [], map, None}
use Rattle.std.proofs.lemmas.Result.{IfOk-weaker}
use Rattle.pz_classes.specs.pz_syntax.ClassView.{model_view}
use Rattle.pz_check_violations.specs.Least.{LeastOf, least_from}
use Rattle.pz_classes.specs.pz_classes_rules.SizeRules.{systems, BreaksC20}
use Rattle.pz_check_duplicates.specs.devices.Again.{same_key, thing_place, repeats}
use Rattle.pz_check_duplicates.specs.devices.Systems.{any_two_systems, system_place}
use Rattle.pz_check_duplicates.proofs.AlikeKeys.{alike_repeat, systems_repeat, none_mapped, none_seen}
use Rattle.pz_check_duplicates.proofs.SystemsFound.{second_found, none_found}
use Rattle.pz_check_duplicates.proofs.systems.least_system.Goals as goal

pub returns-then-is_empty : goal.returns-then-is_empty
returns-then-is_empty c =
    none_found (model_view c.args.model.now)
    (none_mapped thing_place system_place c.in_ok-things.things (systems (model_view c.args.model.now)) c.in_ok-things.ensures (c.is_empty.ensures.0 c.if-is_empty.true))

pub returns : goal.returns
returns c =
    let m = model_view c.args.model.now in
    let all : map thing_place c.as_slice.result.now ≡ map system_place (systems m) = ap (map thing_place) c.as_slice.ensures ∙ c.in_ok-things.ensures in
    let same = alike_repeat _ (λ _ _. refl) 20 c.as_slice.result.now (map system_place (systems m)) all ∙ sym (systems_repeat (systems m)) in
    let some : systems m ≡ [] → ⊥ = λ none.
    let full : true ≡ false = sym (c.is_empty.ensures.1 (none_seen thing_place system_place c.in_ok-things.things (systems m) c.in_ok-things.ensures none)) ∙ c.if-is_empty.false in
    cc in
    IfOk-weaker c.least_again.result _ (LeastOf (BreaksC20 m)) (λ least is. subst (LeastOf (BreaksC20 m)) (sym (is ∙ ap (least_from None) same)) (second_found m some)) c.least_again.ensures
