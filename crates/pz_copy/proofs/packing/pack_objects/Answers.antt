use Rattle.std.proofs.Common.{◌≡◌, ◌∙◌, ap, ◌<◌, ◌^◌, length, arith}
use Rattle.pz_state.specs.Objects.{ObjectView}
use Rattle.pz_state.specs.States.{object}
use Rattle.pz_copy.specs.References.{renumbered_object}
use Rattle.pz_copy.specs.Packing.{place_in}
use Rattle.pz_copy.proofs.Parcelled.{packed_is, packed_next, packed_length, plain_push}
use Rattle.pz_copy.proofs.packing.pack_objects.Goals as goal

pub loop-place-preserved : goal.loop-place-preserved
loop-place-preserved c =
    let is : c.new.result.object ≡ renumbered_object (place_in c.args.listed.now.keys) (object c.args.state.now.held c.index.result.now) = packed_is c.args.listed.now.keys c.new.result.object c.class.result c.in_ok-items.items.items c.items.result.now c.object-object.result.now.object (object c.args.state.now.held c.index.result.now) c.new.ensures c.class.ensures c.in_ok-items.ensures c.items.ensures c.object-object.ensures.value in
    let long : length c.new.result.object.items ≡ length (object c.args.state.now.held c.index.result.now).items = ap (λ (o : ObjectView). length o.items) is ∙ packed_length c.args.listed.now.keys (object c.args.state.now.held c.index.result.now) in
    let same : length c.object-object.result.now.object.items ≡ length (object c.args.state.now.held c.index.result.now).items = ap (λ (o : ObjectView). length o.items) c.object-object.ensures.value in
    let small : length c.object-object.result.now.object.items < 2 ^ 32 = c.object-object.ensures.counted in
    let size : length c.new.result.object.items < 2 ^ 32 = omega (arith, long, same, small) in
    record {
      objects = packed_next c.args.state.now.held c.args.listed.now.keys c.loop-place.objects.items c.push.new.self.items c.loop-place.place c.index.result.now c.new.result c.index.ensures c.loop-place.invariant.objects is c.in_ok-push.ensures.items;
      sizes = plain_push (λ o. length o.items < 2 ^ 32) c.loop-place.objects.items c.push.new.self.items c.new.result c.loop-place.invariant.sizes size c.in_ok-push.ensures.items;
    }
