use Rattle.std.proofs.Common.{refl, sym, ap, ◌∙◌}
use Rattle.pz_classes_code.specs.pz_syntax.declared.names.Id.{Id}
use Rattle.pz_nodes.specs.Arena.{find}
use Rattle.pz_tree_offering.proofs.Received.{received_so}
use Rattle.pz_tree_offering.proofs.receiving.add_receive.Goals as goal

pub returns : goal.returns
returns g c =
    let part = c.args.part in
    let n = c.in-Some.node.now in
    let receive = c.in-Some-receive_form.receive in
    received_so (find c.args.nodes.now) part c.args.receives.now.items c.push.new.self.items n (sym c.in-Some.ensures.value) c.in-Leaf.step c.in-Leaf.is receive c.in-Some-receive_form.ensures
    (record { place = part.place; port = receive.port; message = c.in_ok-message.message; count = receive.count; conditional = receive.conditional; uses_clock = n.what.kept.clocked })
    refl refl (c.in_ok-message.ensures ∙ ap (λ (z : Id). z.name) c.get-2.ensures) refl refl refl c.in_ok-push.ensures.items
