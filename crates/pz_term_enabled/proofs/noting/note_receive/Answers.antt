use Rattle.std.proofs.Common.{ap, ◌∙◌}
use Rattle.pz_classes_code.specs.pz_syntax.declared.names.Id.{Id}
use Rattle.pz_term_enabled.proofs.OnePart.{adds_one, grows_receive}
use Rattle.pz_term_enabled.proofs.noting.note_receive.Goals as goal

pub returns : goal.returns
returns c = λ a f t is.
    adds_one a c.args.place.now f t _ c.args.found.now _ is
    (grows_receive c.args.place.now c.in_ok-place.place c.args.pos c.args.port c.in_ok-message.message c.args.name.now.name c.args.count c.args.found.now c.push.new.self
    c.in_ok-place.ensures (c.in_ok-message.ensures ∙ ap (λ (x : Id). x.name) c.get.ensures) c.in_ok-push.ensures.items) (λ unbegun. tt)
