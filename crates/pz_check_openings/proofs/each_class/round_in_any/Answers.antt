use Rattle.std.proofs.Common.{subst, length, ◌+◌, sym, ◌∙◌, ap, ℕ, arith, ◌≡◌, ◌≤◌}
use Rattle.pz_classes.specs.pz_check_violations.Least.{LeastOf}
use Rattle.pz_classes.specs.CheckedView.{checked_model}
use Rattle.pz_classes.specs.pz_classes_rules.ClassNames.{class_id}
use Rattle.pz_check_openings.specs.devices.InClass.{Among, RoundIn}
use Rattle.pz_check_openings.specs.devices.Suspects.{Marked}
use Rattle.pz_check_openings.proofs.Gathering.{none_among, one_among}
use Rattle.pz_check_openings.proofs.each_class.round_in_any.Goals as goal

pub round_in-requires : goal.round_in-requires
round_in-requires c = c.count-class-end.ensures.belongs (class_id c.loop-class.class) c.loop-class-test.true

pub loop-class-init : goal.loop-class-init
loop-class-init c = none_among (Marked c.args.marks.now (RoundIn (checked_model c.args.checked.now) c.args.outlines.now))

pub loop-class-preserved : goal.loop-class-preserved
loop-class-preserved c = one_among (Marked c.args.marks.now (RoundIn (checked_model c.args.checked.now) c.args.outlines.now)) c.loop-class.class _ c.loop-class.least c.in_ok-found.found c.sooner-least.result (omega arith) c.loop-class.invariant c.in_ok-found.ensures c.sooner-least.ensures

pub returns : goal.returns
returns c =
    let all : c.loop-class.class ≡ length (checked_model c.args.checked.now).decls + 1 = omega (arith, c.count-class-end.ensures.count) in
    subst (λ (n : ℕ). LeastOf (Among (Marked c.args.marks.now (RoundIn (checked_model c.args.checked.now) c.args.outlines.now)) n) c.loop-class.least) all c.loop-class.invariant
