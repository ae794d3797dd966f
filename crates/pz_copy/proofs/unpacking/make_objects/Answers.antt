use Rattle.std.proofs.Common.{◌≡◌, ap, ◌<◌, ◌^◌, List, length, arith}
use Rattle.pz_state.specs.pz_value.declared.value.Value.{Value}
use Rattle.pz_copy.proofs.Steps.{plain_all}
use Rattle.pz_copy.proofs.unpacking.make_objects.Goals as goal

pub overflow_cast-items : goal.overflow_cast-items
overflow_cast-items c =
    let size : length c.object-item.result.object.items < 2 ^ 32 = plain_all (λ o. length o.items < 2 ^ 32) c.args.objects.now c.loop-object.object-index c.object-item.result c.loop-object-test.true c.object-item.is c.requires.sizes in
    let same : length c.items.result.now ≡ length c.object-item.result.object.items = ap (λ (vs : List Value). length vs) c.items.ensures in
    omega (arith, size, same)
