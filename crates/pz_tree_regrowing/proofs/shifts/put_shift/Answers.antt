use Rattle.std.proofs.Common.{sym, subst, arith}
use Rattle.pz_nodes.specs.Arena.{find}
use Rattle.pz_tree_regrowing.specs.devices.Levels.{IsShiftAt, IsPutOver, ShiftRule}
use Rattle.pz_tree_regrowing.proofs.ShiftNodes.{not_behind, bare_left, shift_left}
use Rattle.pz_tree_regrowing.proofs.shifts.put_shift.Goals as goal

pub returns-then-behind-eq0 : goal.returns-then-behind-eq0
returns-then-behind-eq0 g c =
    let m = find c.args.nodes.now in
    let n = find c.release-then-behind-eq0.new.nodes in
    let old = c.args.steps.now in
    let new = c.release-then-behind-eq0.new.steps in
    subst (λ out. ShiftRule m n c.args.key c.args.behind c.args.clock c.args.left out old new) c.in-Some.is
    (not_behind m n c.args.key c.args.behind c.args.clock c.args.left old new c.if-behind-eq0.true c.release-then-behind-eq0.ensures.free c.release-then-behind-eq0.ensures.ticks)

pub returns-in_default-shift_at : goal.returns-in_default-shift_at
returns-in_default-shift_at g c =
    let m = find c.args.nodes.now in
    let n = find c.put_over.new.nodes in
    let key = c.args.key in
    let behind = c.args.behind in
    let kid = c.in-Some.kid in
    let old = c.args.steps.now in
    let mid = c.shift_at.new.steps in
    let new = c.put_over.new.steps in
    let out = c.put_over.result in
    bare_left m n key kid behind c.args.clock c.args.left out old mid new c.in-Some.is c.in_default-shift_at.ensures.shift
    (subst (λ z. IsPutOver m n key behind z out) (sym c.in-Some.is) c.put_over.ensures.put) c.shift_at.ensures.ticks c.put_over.ensures.ticks

pub returns : goal.returns
returns g c =
    let m = find c.args.nodes.now in
    let m1 = find c.release-2.new.nodes in
    let n = find c.put_over-2.new.nodes in
    let key = c.args.key in
    let behind = c.args.behind in
    let clock = c.args.clock in
    let kid = c.in-Some.kid in
    let further = c.in-Some-shift_at.further in
    let both = c.saturating_add-both.result in
    let old = c.args.steps.now in
    let mid = c.shift_at.new.steps in
    let last = c.release-2.new.steps in
    let new = c.put_over-2.new.steps in
    shift_left m m1 n key kid behind clock further.by both c.args.left further.below c.put_over-2.result old mid last new c.in-Some.is
    (λ le. subst (λ z. IsShiftAt m kid z further.by further.below) c.saturating_sub-inner.ensures c.in-Some-shift_at.ensures.shift)
    c.release-2.ensures.free (λ le. omega (arith, le, c.saturating_add-both.ensures, c.ranges.clock.fits)) c.put_over-2.ensures.put c.shift_at.ensures.ticks c.release-2.ensures.ticks
    c.put_over-2.ensures.ticks
