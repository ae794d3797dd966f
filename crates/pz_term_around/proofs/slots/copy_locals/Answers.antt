use Rattle.std.proofs.Common.{◌≡◌, ◌<◌, ◌-◌, List, length, ap, sym, subst, ◌∙◌, arith}
use Rattle.pz_classes_code.specs.pz_value.declared.value.Value.{Value}
use Rattle.pz_rules.specs.pz_state.States.{locals}
use Rattle.pz_rules.specs.pz_state.References.{RefersWithin}
use Rattle.pz_term_around.proofs.SlotsSet.{one_copied, pushed_within}
use Rattle.pz_term_around.proofs.slots.copy_locals.Goals as goal

pub loop-count-preserved : goal.loop-count-preserved
loop-count-preserved c =
    let all = locals c.args.state.now.held c.args.frame.0 in
    let long : length c.locals.result.now ≡ length all = ap (λ (vs : List Value). length vs) c.locals.ensures.value in
    let inside : c.loop-count.count < length all - c.args.first = omega (arith, c.loop-count-test.true, c.min-count-end.ensures, c.saturating_sub-there.ensures, long) in
    record {
      so_far = one_copied all c.args.first c.loop-count.count c.loop-count.values.items c.push.new.self.items c.in_ok-copy.field-0 inside
          (c.in_ok-copy.ensures ∙ c.local.ensures.value) c.in_ok-push.ensures.items c.loop-count.invariant.so_far;
      within = pushed_within (length c.args.state.now.held.objects) c.loop-count.values.items c.push.new.self.items c.in_ok-copy.field-0 c.in_ok-push.ensures.items c.loop-count.invariant.within
          (subst (λ (v : Value). RefersWithin (length c.args.state.now.held.objects) v) (sym c.in_ok-copy.ensures) c.local.ensures.within);
    }
