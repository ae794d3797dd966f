use Rattle.pz_classes.specs.pz_syntax.ClassView.{model_view}
use Rattle.pz_check.proofs.Joining.{size_joined}
use Rattle.pz_check.proofs.size.least_of_size.Goals as goal

-- src/size.rt:45:1
pub returns : goal.returns
returns c = rw (c.sooner-2.ensures, c.sooner.ensures)
    (size_joined (model_view c.args.model.now) c.in_ok-holding.holding c.in_ok-system.system c.in_ok-oversize.oversize
    c.in_ok-holding.ensures c.in_ok-system.ensures c.in_ok-oversize.ensures)
