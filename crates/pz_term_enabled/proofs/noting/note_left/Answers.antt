use Rattle.std.proofs.Common.{ap, ◌∙◌}
use Rattle.pz_term_enabled.specs.devices.Listings.{only_waits}
use Rattle.pz_term_enabled.proofs.OnePart.{adds_one, grows_left}
use Rattle.pz_term_enabled.proofs.noting.note_left.Goals as goal

pub returns-then-left-eq0 : goal.returns-then-left-eq0
returns-then-left-eq0 c = λ a f t is few. c.note_elapsed.ensures a f t (is ∙ ap (λ n. only_waits n c.args.pos) c.if-left-eq0.true)

pub returns : goal.returns
returns c = λ a f t is few. adds_one a c.args.place.now f t _ c.args.found.now _ is (grows_left c.args.place.now c.args.left c.args.pos c.args.found.now c.push.new.self c.if-left-eq0.false c.in_ok-push.ensures.items) few
