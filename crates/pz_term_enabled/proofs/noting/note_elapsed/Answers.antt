use Rattle.std.proofs.Common.{arith}
use Rattle.pz_term_enabled.proofs.OnePart.{adds_one, grows_elapsed}
use Rattle.pz_term_enabled.proofs.noting.note_elapsed.Goals as goal

pub returns : goal.returns
returns c = λ a f t is.
    adds_one a c.args.place.now f t _ c.args.found.now _ is
    (grows_elapsed c.args.place.now c.in_ok-place.place c.args.pos c.args.found.now c.push.new.self c.push-2.new.self c.in_ok-place.ensures c.in_ok-push.ensures.items c.in_ok-push-2.ensures.items)
    (λ unbegun. omega arith)
