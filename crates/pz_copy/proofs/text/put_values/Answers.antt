use Rattle.std.proofs.Common.{◌≡◌, ◌∙◌, ap, ◌++◌, ◌∷◌, List, take, arith}
use Rattle.std.specs.List.{flat_map}
use Rattle.pz_state.specs.pz_value.declared.value.Value.{Value}
use Rattle.pz_copy.specs.ParcelText.{value_text}
use Rattle.pz_copy.proofs.Texts.{values_done, values_whole}
use Rattle.pz_copy.proofs.text.put_values.Goals as goal

pub returns : goal.returns
returns c =
    let whole : take c.loop-value.value-index c.in-Some.rest.now ≡ c.in-Some.rest.now = values_whole c.loop-value.value-index c.in-Some.rest.now (omega (arith, c.loop-value-test.false)) in
    values_done c.args.out.now.items c.put_value.new.out.items c.loop-value.out.items c.args.values.now c.in-Some.first.now c.in-Some.rest.now c.in-Some.ensures.cases.0 c.in_ok-put_value.ensures
    (c.loop-value.invariant ∙ ap (λ (vs : List Value). c.put_value.new.out.items ++ flat_map (λ v. 44 ∷ value_text v) vs) whole)
