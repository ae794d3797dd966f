use Rattle.std.proofs.Common.{subst, length, ℕ, arith, ◌≡◌}
use Rattle.pz_classes.specs.pz_check_violations.Least.{LeastOf}
use Rattle.pz_classes.specs.CheckedView.{checked_model}
use Rattle.pz_check_openings.specs.devices.InClass.{Among, LargeAt}
use Rattle.pz_check_openings.proofs.Gathering.{none_among, one_among}
use Rattle.pz_check_openings.proofs.each_class.large_at_any.Goals as goal

pub loop-number-init : goal.loop-number-init
loop-number-init c = none_among (LargeAt (checked_model c.args.checked.now) c.args.outlines.now c.args.class.0)

pub loop-number-preserved : goal.loop-number-preserved
loop-number-preserved c = one_among (LargeAt (checked_model c.args.checked.now) c.args.outlines.now c.args.class.0) c.loop-number.number _ c.loop-number.least c.large_at-found.result c.sooner-least.result (omega arith) c.loop-number.invariant c.large_at-found.ensures c.sooner-least.ensures

pub returns : goal.returns
returns c =
    let all : c.loop-number.number ≡ length c.args.outlines.now = omega arith in
    subst (λ (n : ℕ). LeastOf (Among (LargeAt (checked_model c.args.checked.now) c.args.outlines.now c.args.class.0) n) c.loop-number.least) all c.loop-number.invariant
