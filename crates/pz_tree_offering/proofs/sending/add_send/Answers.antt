use Rattle.std.proofs.Common.{Result, refl, sym, subst, ap, ◌∙◌}
use Rattle.pz_classes_code.specs.pz_syntax.declared.names.Id.{Id}
use Rattle.pz_tree_nodes.specs.pz_copy.Parcels.{ParcelView}
use Rattle.pz_classes_code.specs.CodeView.{part_view}
use Rattle.pz_tree_nodes.specs.pz_offer.declared.trouble.Trouble.{Trouble}
use Rattle.pz_nodes.specs.Arena.{find}
use Rattle.pz_part_queries.specs.Standpoints.{seen_from}
use Rattle.pz_part_queries.specs.Parcels.{Packs}
use Rattle.pz_tree_offering.proofs.Sent.{sent_troubled, sent_packed}
use Rattle.pz_tree_offering.proofs.sending.add_send.Goals as goal

pub returns-in-Err-clause-adds : goal.returns-in-Err-clause-adds
returns-in-Err-clause-adds g c = λ m class known.
    let a = seen_from m c.args.here.now class c.args.state.now.held in
    let part = c.args.part in
    let send = c.in-Some-send_form.send in
    sent_troubled a (find c.args.nodes.now) part c.args.sends.now.items c.args.sends.now.items c.in-Some.node.now (sym c.in-Some.ensures.value) c.in-Leaf.step c.in-Leaf.is
    c.evaluations_are_computed.ensures.parts send c.in-Some-send_form.ensures c.in-Err.field-0
    (subst (λ (r : Result ParcelView Trouble). Packs a part.frame.0 send.pos (part_view send.args.now) r) c.in-Err.is (c.in_ok-ask_parcel.ensures.packs m class known))

pub returns-in_ok-push-in-Ok-clause-adds : goal.returns-in_ok-push-in-Ok-clause-adds
returns-in_ok-push-in-Ok-clause-adds g c = λ m class known.
    let a = seen_from m c.args.here.now class c.args.state.now.held in
    let part = c.args.part in
    let send = c.in-Some-send_form.send in
    sent_packed a (find c.args.nodes.now) part c.args.sends.now.items c.push.new.self.items c.in-Some.node.now (sym c.in-Some.ensures.value) c.in-Leaf.step c.in-Leaf.is
    c.evaluations_are_computed.ensures.parts send c.in-Some-send_form.ensures c.in-Ok.parcel (record { place = part.place; port = send.port; message = c.in_ok-message.message; parcel = c.in-Ok.parcel })
    (subst (λ (r : Result ParcelView Trouble). Packs a part.frame.0 send.pos (part_view send.args.now) r) c.in-Ok.is (c.in_ok-ask_parcel.ensures.packs m class known))
    refl refl (c.in_ok-message.ensures ∙ ap (λ (z : Id). z.name) c.get-2.ensures) refl c.in_ok-push-in-Ok.ensures.items
