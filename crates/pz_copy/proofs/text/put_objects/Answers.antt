use Rattle.pz_copy.proofs.Texts.{objects_next}
use Rattle.pz_copy.proofs.text.put_objects.Goals as goal

pub loop-place-preserved : goal.loop-place-preserved
loop-place-preserved c = objects_next c.args.names.now c.put_object.new.out.items c.loop-place.out.items c.push-in-loop-place.new.self.items c.put_object-in-loop-place.new.out.items c.in-Some.rest.now c.loop-place.place c.index-rest-place.result c.loop-place-test.true c.index-rest-place.is c.loop-place.invariant c.in_ok-push-2.ensures.items c.in_ok-put_object-2.ensures
