use Rattle.pz_term_enabled.proofs.OnePart.{adds_one, grows_action}
use Rattle.pz_term_enabled.proofs.noting.note_action.Goals as goal

pub returns : goal.returns
returns c = λ a f t is.
    adds_one a c.args.place.now f t _ c.args.found.now _ is
    (grows_action c.args.place.now c.in_ok-place.place c.args.kind c.args.pos c.args.found.now c.push.new.self c.in_ok-place.ensures c.in_ok-push.ensures.items) (λ unbegun. tt)
