use Rattle.std.proofs.Common.{◌≡◌, ◌<◌, List, length, None, refl, ap, sym, subst, ◌∙◌, arith}
use denote.Param.Weighed.{most}
use Rattle.pz_classes_code.specs.CodeView as code
use Rattle.pz_classes_code.specs.StepView as step
use Rattle.pz_nodes.specs.Arena.{find}
use Rattle.pz_rules.specs.declared.term.Term.{Term}
use Rattle.pz_rules.specs.Terms.{no_terms, and}
use Rattle.pz_rules.specs.Terms as terms
use Rattle.pz_rules.specs.View.{term_view, terms_view}
use Rattle.pz_rules.proofs.term.Term.TheLaws.{the_size}
use Rattle.pz_clock.specs.Shifts.{frozen}
use Rattle.pz_tree_standing.specs.Heads as heads
use Rattle.pz_tree_nodes.specs.declared.node.Head.TheVariants as kind
use Rattle.pz_tree_nodes.specs.Keeping.{IsKept, raised}
use Rattle.pz_tree_nodes.specs.devices.Parts.{Forms, PartRule, AllRule}
use Rattle.pz_tree_nodes.proofs.Forming.{sequence_forms, parallel_forms, select_forms, guarded_forms, frame_forms, abort_forms, idle_forms, handling_forms}
use Rattle.pz_tree_nodes.proofs.Keeping.{guarded_kept, sequence_kept, frame_kept, handling_kept, abort_kept, idle_kept, parallel_kept, select_kept}
use Rattle.pz_tree_nodes.proofs.Shown.{as_Done, as_Leaf, as_Wait, as_Seq, as_Par, as_Sel, as_Guard, as_Frame, as_Abort, as_Idle, as_Handling}
use Rattle.pz_tree_nodes.proofs.Rules.{one_under, two_under, all_under, done_planted, two_planted, plants_next, still_lower, later_still, this_one, all_planted}
use Rattle.pz_tree_nodes.proofs.planting.+planting.Goals as goal

pub plant_sequence-returns : goal.plant_sequence-returns
plant_sequence-returns g t c =
    let part = c.in_ok-part.part in
    let rest = step.sequence_view c.args.rest in
    let u = term_view c.args.part in
    one_under c.put_over.result (find c.args.nodes.now) (find c.plant_boxed.new.nodes) (find c.put_over.new.nodes) c.args.clock c.args.steps.now c.plant_boxed.new.steps c.put_over.new.steps
    (kind.Seq c.args.rest) c.one.result (raised part.kept) part.kept part.key u (terms.sequence u rest) (terms.sequence u rest)
    c.put_over.ensures c.in_ok-part.ensures c.one.ensures refl
    (λ w. w) (sequence_forms c.args.clock u rest) (λ h. sequence_kept c.args.clock u part.kept h rest)

pub plant_parallel-returns : goal.plant_parallel-returns
plant_parallel-returns g t c =
    let all = c.in_ok-all.all in
    let ts = terms_view c.args.parts in
    all_under c.put_over.result (find c.args.nodes.now) (find c.plant_all.new.nodes) (find c.put_over.new.nodes) c.args.clock c.args.steps.now c.plant_all.new.steps c.put_over.new.steps
    kind.Par all.kids (raised all.kept) all.kept ts (terms.parallel ts) (terms.parallel ts)
    c.put_over.ensures c.in_ok-all.ensures refl
    (λ w. w) (parallel_forms c.args.clock ts) (λ h. parallel_kept c.args.clock ts all.kept h)

pub plant_select-returns : goal.plant_select-returns
plant_select-returns g t c =
    let all = c.in_ok-all.all in
    let ts = terms_view c.args.parts in
    all_under c.put_over.result (find c.args.nodes.now) (find c.plant_all.new.nodes) (find c.put_over.new.nodes) c.args.clock c.args.steps.now c.plant_all.new.steps c.put_over.new.steps
    kind.Sel all.kids (raised all.kept) all.kept ts (terms.select ts) (terms.select ts)
    c.put_over.ensures c.in_ok-all.ensures refl
    (λ w. w) (select_forms c.args.clock ts) (λ h. select_kept c.args.clock ts all.kept h)

pub plant_guard-returns : goal.plant_guard-returns
plant_guard-returns g t c =
    let body = c.in_ok-body.body in
    let test = code.view c.args.test in
    let u = term_view c.args.body in
    one_under c.put_over.result (find c.args.nodes.now) (find c.plant_boxed.new.nodes) (find c.put_over.new.nodes) c.args.clock c.args.steps.now c.plant_boxed.new.steps c.put_over.new.steps
    (kind.Guard c.args.test c.args.pos c.new-shift.result) c.one.result (raised c.unasked-kept.result) body.kept body.key u (terms.guarded test c.args.pos u) (terms.guarded test c.args.pos u)
    c.put_over.ensures c.in_ok-body.ensures c.one.ensures refl
    (λ w. w)
    (subst (λ s. Forms c.args.clock (heads.guarded test c.args.pos s) (and u no_terms) (terms.guarded test c.args.pos u)) (sym c.new-shift.ensures) (guarded_forms c.args.clock test c.args.pos u))
    (λ h. subst (λ z. IsKept c.args.clock (terms.guarded test c.args.pos u) (raised z)) (sym c.unasked-kept.ensures) (guarded_kept c.args.clock u body.kept h test c.args.pos))

pub plant_frame-returns : goal.plant_frame-returns
plant_frame-returns g t c =
    let body = c.in_ok-body.body in
    let own = c.args.frame in
    let inputs = c.args.inputs in
    let results = c.args.results in
    let u = term_view c.args.body in
    one_under c.put_over.result (find c.args.nodes.now) (find c.plant_boxed.new.nodes) (find c.put_over.new.nodes) c.args.clock c.args.steps.now c.plant_boxed.new.steps c.put_over.new.steps
    (kind.Frame own inputs results) c.one.result (raised body.kept) body.kept body.key u (terms.frame own.0 inputs results u) (terms.frame own.0 inputs results u)
    c.put_over.ensures c.in_ok-body.ensures c.one.ensures refl
    (λ w. w) (frame_forms c.args.clock own.0 inputs results u) (λ h. frame_kept c.args.clock u body.kept h own.0 inputs results)

pub plant_abort-returns : goal.plant_abort-returns
plant_abort-returns g t c =
    let two = c.in_ok-two.two in
    let kept = c.in_ok-kept.kept in
    let u = term_view c.args.first in
    let v = term_view c.args.second in
    two_under c.put_over.result (find c.args.nodes.now) (find c.plant_two.new.nodes) (find c.put_over.new.nodes) c.args.clock c.args.steps.now c.plant_two.new.steps c.put_over.new.steps
    kind.Abort two.kids (raised kept) two.first two.second u v (terms.abort u v) (terms.abort u v)
    c.put_over.ensures c.in_ok-two.ensures refl
    (λ w. w) (abort_forms c.args.clock u v)
    (λ h j. subst (λ z. IsKept c.args.clock (terms.abort u v) (raised z)) (sym c.in_ok-kept.ensures) (abort_kept c.args.clock u two.first h v two.second j))

pub plant_idle-returns : goal.plant_idle-returns
plant_idle-returns g t c =
    let two = c.in_ok-two.two in
    let kept = c.in_ok-kept.kept in
    let again = step.view c.args.again in
    let u = term_view c.args.first in
    let v = term_view c.args.second in
    two_under c.put_over.result (find c.args.nodes.now) (find c.plant_two.new.nodes) (find c.put_over.new.nodes) c.args.clock c.args.steps.now c.plant_two.new.steps c.put_over.new.steps
    (kind.Idle c.args.again c.new.result) two.kids (raised kept) two.first two.second u v (terms.idle u v again) (terms.idle u v again)
    c.put_over.ensures c.in_ok-two.ensures refl
    (λ w. w)
    (subst (λ s. Forms c.args.clock (heads.idle again s) (and u (and v no_terms)) (terms.idle u v again)) (sym c.new.ensures) (idle_forms c.args.clock u v again))
    (λ h j. subst (λ z. IsKept c.args.clock (terms.idle u v again) (raised z)) (sym c.in_ok-kept.ensures) (idle_kept c.args.clock u two.first h v two.second j again))

pub plant_handling-returns : goal.plant_handling-returns
plant_handling-returns g t c =
    let two = c.in_ok-two.two in
    let again = step.view c.args.again in
    let u = term_view c.args.first in
    let v = term_view c.args.second in
    two_under c.put_over.result (find c.args.nodes.now) (find c.plant_two.new.nodes) (find c.put_over.new.nodes) c.args.clock c.args.steps.now c.plant_two.new.steps c.put_over.new.steps
    (kind.Handling c.args.again c.freeze-shift.result) two.kids (raised c.second_alone-kept.result) two.first two.second u v (terms.handling u v again) (terms.handling u v again)
    c.put_over.ensures c.in_ok-two.ensures refl
    (λ w. w)
    (subst (λ s. Forms c.args.clock (heads.handling again s) (and u (and v no_terms)) (terms.handling u v again)) (sym (c.freeze-shift.ensures.shift ∙ ap (λ s. frozen s c.args.clock) c.new.ensures)) (handling_forms c.args.clock u v again))
    (λ h j. subst (λ z. IsKept c.args.clock (terms.handling u v again) (raised z)) (sym c.second_alone-kept.ensures) (handling_kept c.args.clock u two.first h v two.second j again))

pub plant_part-returns-in-Done : goal.plant_part-returns-in-Done
plant_part-returns-in-Done g t c =
    let m = find c.args.nodes.now in
    subst (λ k. PartRule m m c.args.clock (term_view c.args.term) None k c.args.steps.now c.args.steps.now) (sym c.done.ensures)
    (done_planted m c.args.clock c.args.steps.now (term_view c.args.term) (as_Done c.args.term c.in-Done.is))

pub plant_part-returns-in-Leaf : goal.plant_part-returns-in-Leaf
plant_part-returns-in-Leaf g t c = rw (as_Leaf c.args.term c.in-Leaf.step c.in-Leaf.is) (c.plant_leaf.ensures c.args.clock)

pub plant_part-returns-in-Wait : goal.plant_part-returns-in-Wait
plant_part-returns-in-Wait g t c = rw (as_Wait c.args.term c.in-Wait.left c.in-Wait.pos c.in-Wait.is) c.plant_wait.ensures

pub plant_part-returns-in-Seq : goal.plant_part-returns-in-Seq
plant_part-returns-in-Seq g t c = rw (as_Seq c.args.term c.in-Seq.part c.in-Seq.rest c.in-Seq.is) c.plant_sequence.ensures

pub plant_part-returns-in-Par : goal.plant_part-returns-in-Par
plant_part-returns-in-Par g t c = rw (as_Par c.args.term c.in-Par.parts c.in-Par.is) c.plant_parallel.ensures

pub plant_part-returns-in-Sel : goal.plant_part-returns-in-Sel
plant_part-returns-in-Sel g t c = rw (as_Sel c.args.term c.in-Sel.parts c.in-Sel.is) c.plant_select.ensures

pub plant_part-returns-in-Guard : goal.plant_part-returns-in-Guard
plant_part-returns-in-Guard g t c = rw (as_Guard c.args.term c.in-Guard.test c.in-Guard.pos c.in-Guard.body c.in-Guard.is) c.plant_guard.ensures

pub plant_part-returns-in-Frame : goal.plant_part-returns-in-Frame
plant_part-returns-in-Frame g t c = rw (as_Frame c.args.term c.in-Frame.frame c.in-Frame.inputs c.in-Frame.results c.in-Frame.body c.in-Frame.is) c.plant_frame.ensures

pub plant_part-returns-in-Abort : goal.plant_part-returns-in-Abort
plant_part-returns-in-Abort g t c = rw (as_Abort c.args.term c.in-Abort.first c.in-Abort.second c.in-Abort.is) c.plant_abort.ensures

pub plant_part-returns-in-Idle : goal.plant_part-returns-in-Idle
plant_part-returns-in-Idle g t c = rw (as_Idle c.args.term c.in-Idle.first c.in-Idle.second c.in-Idle.again c.in-Idle.is) c.plant_idle.ensures

pub plant_part-returns-in-Handling : goal.plant_part-returns-in-Handling
plant_part-returns-in-Handling g t c = rw (as_Handling c.args.term c.in-Handling.first c.in-Handling.second c.in-Handling.again c.in-Handling.is) c.plant_handling.ensures

pub plant_boxed-returns : goal.plant_boxed-returns
plant_boxed-returns g t c = rw (sym c.into_inner.ensures) c.plant_part.ensures

pub plant_two-returns : goal.plant_two-returns
plant_two-returns g t c =
    let one = c.in_ok-one.one in
    let other = c.in_ok-other.other in
    two_planted (find c.args.nodes.now) (find c.plant_boxed.new.nodes) (find c.plant_boxed-2.new.nodes) c.args.clock c.args.steps.now c.plant_boxed.new.steps c.plant_boxed-2.new.steps
    (term_view c.args.first) (term_view c.args.second) one.key other.key c.two.result one.kept other.kept c.two.ensures c.in_ok-one.ensures c.in_ok-other.ensures

pub plant_all-plant_part-requires : goal.plant_all-plant_part-requires
plant_all-plant_part-requires g t c =
    let lower = still_lower c.into_vec-left.result.items c.loop-index.left.items c.loop-index.index c.loop-index.invariant.still the_size c.exchange-part.result
    (omega (arith, c.loop-index-test.true, c.len-index-end.ensures, c.into_vec-left.result.ok.0)) c.exchange-part.ensures.old in
    let same : most the_size c.into_vec-left.result.items ≡ most the_size c.args.parts = ap (λ (ts : List Term). most the_size ts) c.into_vec-left.ensures in
    λ κs h. (omega arith, h)

pub plant_all-loop-index-preserved : goal.plant_all-loop-index-preserved
plant_all-loop-index-preserved g t c =
    let all = c.into_vec-left.result.items in
    let now = c.loop-index.left.items in
    let i = c.loop-index.index in
    let within : i < length all = omega (arith, c.loop-index-test.true, c.len-index-end.ensures, c.into_vec-left.result.ok.0) in
    record {
      on = plants_next (find c.args.nodes.now) (find c.loop-index.nodes) (find c.plant_part.new.nodes) c.args.clock all i c.exchange-part.result c.loop-index.keys.items _ c.in_ok-planted.planted.key c.loop-index.kept c.in_ok-planted.planted.kept c.in_ok-kept.kept
          c.args.steps.now c.loop-index.steps c.plant_part.new.steps
          (this_one all now i c.loop-index.invariant.still c.exchange-part.result within c.exchange-part.ensures.old)
          c.in_ok-push.ensures.items c.in_ok-kept.ensures c.in_ok-planted.ensures c.loop-index.invariant.on;
      still = later_still all now i c.loop-index.invariant.still c.exchange-part.new.parts.items _ c.exchange-part.ensures.new;
    }

pub plant_all-returns : goal.plant_all-returns
plant_all-returns g t c =
    let all = c.into_vec-left.result.items in
    subst (λ (ts : List Term). AllRule (find c.args.nodes.now) (find c.loop-index.nodes) c.args.clock (terms_view ts) c.many.result c.loop-index.kept c.args.steps.now c.loop-index.steps) c.into_vec-left.ensures
    (all_planted (find c.args.nodes.now) (find c.loop-index.nodes) c.args.clock all c.loop-index.index c.loop-index.keys.items c.many.result c.loop-index.kept c.args.steps.now c.loop-index.steps
    (omega (arith, c.loop-index-test.false, c.len-index-end.ensures, c.into_vec-left.result.ok.0)) c.many.ensures c.loop-index.invariant.on)
