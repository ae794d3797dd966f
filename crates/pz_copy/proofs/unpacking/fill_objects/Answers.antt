use Rattle.std.proofs.Common.{◌≡◌, sym, ◌∙◌, ap, subst, ◌+◌, ◌-◌, ◌<◌, ◌^◌, ℕ, List, length, arith}
use Rattle.std.specs.Prelude.{All}
use Rattle.pz_state.specs.pz_value.declared.value.Value.{Value}
use Rattle.pz_state.specs.Marks.{changed}
use Rattle.pz_state.specs.States.{nils}
use Rattle.pz_state.specs.References.{RefersWithin}
use Rattle.pz_copy.specs.Parcels.{plain_objects}
use Rattle.pz_copy.specs.Unpacking.{shifted_values}
use Rattle.pz_copy.specs.devices.Filling.{filled}
use Rattle.pz_copy.proofs.Steps.{plain_all, object_length, object_blank, object_step}
use Rattle.pz_copy.proofs.unpacking.fill_objects.Goals as goal

pub fill_object-requires-clause-blank : goal.fill_object-requires-clause-blank
fill_object-requires-clause-blank c =
    object_blank c.args.state.now c.loop-place.state c.args.count c.args.objects.now c.loop-place.place c.index-objects-place.result c.requires.number c.loop-place-test.true c.index-objects-place.is c.loop-place.invariant
    ∙ ap (λ (vs : List Value). nils (length vs)) (sym c.items.ensures)

pub fill_object-requires-clause-size : goal.fill_object-requires-clause-size
fill_object-requires-clause-size c =
    let size : length c.index-objects-place.result.object.items < 2 ^ 32 = plain_all (λ o. length o.items < 2 ^ 32) c.args.objects.now c.loop-place.place c.index-objects-place.result c.loop-place-test.true c.index-objects-place.is c.requires.sizes in
    let same : length c.items.result.now ≡ length c.index-objects-place.result.object.items = ap (λ (vs : List Value). length vs) c.items.ensures in
    omega (arith, size, same)

pub fill_object-requires-clause-within : goal.fill_object-requires-clause-within
fill_object-requires-clause-within c =
    let all : All (RefersWithin (length (plain_objects c.args.objects.now))) c.index-objects-place.result.object.items = plain_all (λ o. All (RefersWithin (length (plain_objects c.args.objects.now))) o.items) c.args.objects.now c.loop-place.place c.index-objects-place.result c.loop-place-test.true c.index-objects-place.is c.requires.within in
    let long : length c.loop-place.state.held.objects ≡ c.args.count + length (plain_objects c.args.objects.now) = object_length c.args.state.now c.loop-place.state c.args.count c.args.objects.now c.loop-place.place c.index-objects-place.result c.requires.number c.loop-place-test.true c.index-objects-place.is c.loop-place.invariant in
    let rest : length (plain_objects c.args.objects.now) ≡ length c.loop-place.state.held.objects - c.args.count = omega (arith, long) in
    subst (λ (vs : List Value). All (RefersWithin (length c.loop-place.state.held.objects - c.args.count)) vs) (sym c.items.ensures)
    (subst (λ (n : ℕ). All (RefersWithin n) c.index-objects-place.result.object.items) rest all)

pub loop-place-preserved : goal.loop-place-preserved
loop-place-preserved c =
    object_step c.args.state.now c.loop-place.state c.args.count c.args.objects.now c.loop-place.place c.index-objects-place.result c.requires.number c.loop-place-test.true c.index-objects-place.is c.loop-place.invariant c.fill_object.new.state
    (c.in_ok-fill_object.ensures.ok ∙ ap (λ (vs : List Value). changed c.loop-place.state (filled (c.args.count + c.loop-place.place) (shifted_values c.args.count vs) c.loop-place.state.held)) c.items.ensures)
