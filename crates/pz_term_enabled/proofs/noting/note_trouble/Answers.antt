use Rattle.pz_term_enabled.proofs.OnePart.{adds_one, grows_trouble}
use Rattle.pz_term_enabled.proofs.noting.note_trouble.Goals as goal

pub returns : goal.returns
returns c = λ a f t is.
    adds_one a c.args.place.now f t _ c.args.found.now _ is (grows_trouble c.args.place.now c.args.trouble c.args.found.now c.push.new.self c.in_ok-push.ensures.items) (λ unbegun. tt)
