use Rattle.std.proofs.Common.{ap, ◌∙◌}
use Rattle.pz_state.specs.pz_value.declared.value.ClassId.{ClassId}
use Rattle.pz_copy.specs.ParcelText.{name_of}
use Rattle.pz_copy.proofs.Texts.{object_done}
use Rattle.pz_copy.proofs.text.put_object.Goals as goal

pub returns : goal.returns
returns c =
    object_done c.args.out.now.items c.put_number.new.out.items c.push.new.self.items c.extend_from_slice.new.self.items c.push-2.new.self.items c.put_values.new.out.items c.push-3.new.self.items c.args.names.now c.args.number c.args.object.now.object c.name_of.result.now c.items.result.now
    c.in_ok-put_number.ensures c.in_ok-push.ensures.items c.in_ok-extend_from_slice.ensures.items c.in_ok-push-2.ensures.items c.in_ok-put_values.ensures c.in_ok-push-3.ensures.items
    (c.name_of.ensures ∙ ap (λ (k : ClassId). name_of c.args.names.now k) c.class.ensures)
    c.items.ensures
