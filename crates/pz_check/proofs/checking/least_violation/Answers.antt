use Rattle.pz_classes.specs.pz_syntax.ClassView.{model_view}
use Rattle.pz_check.proofs.Joining.{all_joined}
use Rattle.pz_check.proofs.checking.least_violation.Goals as goal

-- src/checking.rt:26:1
pub returns : goal.returns
returns c = rw (c.sooner-3.ensures, c.sooner-2.ensures, c.sooner-connected.ensures, c.sooner.ensures, c.sooner-named.ensures)
    (all_joined (model_view c.args.model.now) c.in_ok-words.words c.in_ok-repeats.repeats c.in_ok-given.given c.in_ok-ends.ends c.in_ok-doubled.doubled c.in_ok-sized.sized
    c.in_ok-words.ensures c.in_ok-repeats.ensures c.in_ok-given.ensures c.in_ok-ends.ensures c.in_ok-doubled.ensures c.in_ok-sized.ensures)
