use Rattle.std.proofs.Common.{◌≡◌, ◌∙◌, ◌+◌, suc, ap, ℕ, [], ◌∷◌, ◌++◌, arith}
use Rattle.std.proofs.lemmas.List.{map-append}
use Rattle.pz_classes.specs.CheckedView.{checked_model}
use Rattle.pz_bind_levels.specs.Layouts.{Layout}
use Rattle.pz_bind_levels.specs.devices.Walking.{layout_of, layouts_of}
use Rattle.pz_bind_rules.specs.devices.Layouts.{class_layout, layouts}
use Rattle.pz_bind.proofs.PlanSteps.{plans_step, plans_done}
use Rattle.pz_bind.proofs.plans.plans_of.Goals as goal

pub loop-decl-preserved : goal.loop-decl-preserved
loop-decl-preserved c =
    let m = checked_model c.args.checked.now in
    let plan = c.in_ok-plan_of-2.field-0 in
    let number : c.loop-decl._decl-index + 1 ≡ suc c.loop-decl._decl-index = omega arith in
    let pushed : layouts_of c.push-in-loop-decl.new.self ≡ layouts_of c.loop-decl.plans ++ class_layout m (suc c.loop-decl._decl-index) ∷ [] =
    ap layouts_of c.in_ok-push-2.ensures.ok
    ∙ (map-append layout_of c.loop-decl.plans (plan ∷ [])
    ∙ ap (λ (l : Layout). layouts_of c.loop-decl.plans ++ l ∷ []) (c.in_ok-plan_of-2.ensures ∙ ap (λ (n : ℕ). class_layout m n) c.loop-decl.invariant.counted)) in
    record {
      counted = let now = c.loop-decl.invariant.counted in omega arith;
      listed = plans_step m c.as_slice-decls.result.now c._decl-item.result c.loop-decl._decl-index (c.loop-decl._decl-index + 1) (layouts_of c.loop-decl.plans) (layouts_of c.push-in-loop-decl.new.self) (layouts m)
          c.loop-decl-test.true c._decl-item.is number pushed c.loop-decl.invariant.listed;
    }

pub returns : goal.returns
returns c =
    let m = checked_model c.args.checked.now in
    let over = c.loop-decl-test.false in
    plans_done m c.as_slice-decls.result.now c.loop-decl._decl-index (layouts_of c.loop-decl.plans) (layouts m) (omega arith) c.loop-decl.invariant.listed
