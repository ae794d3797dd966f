use Rattle.std.proofs.Common.{◌<◌, ◌∷◌, length, refl, arith}
use Rattle.pz_classes_code.specs.StepView as step
use Rattle.pz_rules.specs.Terms as terms
use Rattle.pz_rules.specs.View.{term_view, terms_view}
use Rattle.pz_term_around.specs.pz_part_opening.Homes.{home_view}
use Rattle.pz_term_residual.proofs.Forms.{seq_is, sel_is, frame_is}
use Rattle.pz_term_residual.proofs.Residuals.{seen_may, among_within, among_may, select_within, select_may, seen_left, sequence_left, frame_left, select_left, among_left, abort_left_first, idle_left_first}
use Rattle.pz_term_residual.proofs.residual.+outlines.Goals as goal

pub outline_among-split_at-requires : goal.outline_among-split_at-requires
outline_among-split_at-requires t c =
    let within : c.args.child < length c.args.parts.now = among_within c.args.parts.now c.args.child c.args.inner.now c.requires in
    omega arith

pub outline_among-unreachable-requires : goal.outline_among-unreachable-requires
outline_among-unreachable-requires t c =
    let within : c.args.child < length c.args.parts.now = among_within c.args.parts.now c.args.child c.args.inner.now c.requires in
    omega (arith, within, c.split_at.ensures.back_len, c.in_default.ensures.cases)

pub outline_among-outline_after-requires : goal.outline_among-outline_after-requires
outline_among-outline_after-requires t c = (
  omega arith,
  among_may c.args.parts.now c.split_at.result.0.now c.split_at.result.1.now c.in-Some.behind.now c.args.child c.args.inner.now c.in-Some.acting.now
      c.split_at.ensures.front c.split_at.ensures.back c.in-Some.ensures.cases.0 c.split_at.ensures.front_len c.requires,
)

pub outline_among-returns : goal.outline_among-returns
outline_among-returns t c =
    among_left (home_view c.args.home.now) c.args.part c.outline_parallel.result c.outline_after.result c.args.parts.now c.split_at.result.0.now c.split_at.result.1.now c.in-Some.behind.now c.args.child c.args.inner.now c.in-Some.acting.now
    c.split_at.ensures.front c.split_at.ensures.back c.in-Some.ensures.cases.0 c.split_at.ensures.front_len c.outline_after.ensures (c.outline_parallel.ensures (home_view c.args.home.now))

pub outline_abort-returns-then-child-eq0 : goal.outline_abort-returns-then-child-eq0
outline_abort-returns-then-child-eq0 t c =
    abort_left_first (home_view c.args.home.now) c.args.part c.outline_first.result c.outline_after.result (term_view c.args.first.now) (term_view c.args.second.now) c.args.child c.args.inner.now
    c.if-child-eq0.true c.outline_after.ensures (λ v. c.outline_first.ensures.abort (home_view c.args.home.now) v (term_view c.args.second.now) c.height_of.ensures)

pub outline_idle-returns-then-child-eq0 : goal.outline_idle-returns-then-child-eq0
outline_idle-returns-then-child-eq0 t c =
    idle_left_first (home_view c.args.home.now) c.args.part c.outline_first.result c.outline_after.result (term_view c.args.first.now) (term_view c.args.second.now) (step.view c.args.again.now) c.args.child c.args.inner.now
    c.if-child-eq0.true c.outline_after.ensures (λ v s. c.outline_first.ensures.idle (home_view c.args.home.now) v (term_view c.args.second.now) s c.height_of.ensures)

pub outline_inside-offset_bounds-as_slice-child : goal.outline_inside-offset_bounds-as_slice-child
outline_inside-offset_bounds-as_slice-child t c =
    let within : c.args.child < length c.as_slice-in-Sel.result.now =
    select_within c.as_slice-in-Sel.result.now c.args.child c.args.inner.now
    (seen_may (term_view c.args.term.now) (terms.select (terms_view c.as_slice-in-Sel.result.now)) (c.args.child ∷ c.args.inner.now) (sel_is c.args.term.now c.in-Sel.parts c.as_slice-in-Sel.result.now c.in-Sel.is c.as_slice-in-Sel.ensures) c.requires) in
    omega (arith, within)

pub outline_inside-bounds-as_slice-child : goal.outline_inside-bounds-as_slice-child
outline_inside-bounds-as_slice-child t c =
    let at = c.args.child ∷ c.args.inner.now in
    select_within c.as_slice-in-Sel.result.now c.args.child c.args.inner.now
    (seen_may (term_view c.args.term.now) (terms.select (terms_view c.as_slice-in-Sel.result.now)) at (sel_is c.args.term.now c.in-Sel.parts c.as_slice-in-Sel.result.now c.in-Sel.is c.as_slice-in-Sel.ensures) c.requires)

pub outline_inside-outline_after-requires-in-Sel : goal.outline_inside-outline_after-requires-in-Sel
outline_inside-outline_after-requires-in-Sel t c =
    let at = c.args.child ∷ c.args.inner.now in (
      omega arith,
      select_may c.as_slice-in-Sel.result.now c.args.child c.args.inner.now c.index-as_slice-child.result c.index-as_slice-child.is
          (seen_may (term_view c.args.term.now) (terms.select (terms_view c.as_slice-in-Sel.result.now)) at (sel_is c.args.term.now c.in-Sel.parts c.as_slice-in-Sel.result.now c.in-Sel.is c.as_slice-in-Sel.ensures) c.requires),
    )

pub outline_inside-returns-in-Sel : goal.outline_inside-returns-in-Sel
outline_inside-returns-in-Sel t c =
    let at = c.args.child ∷ c.args.inner.now in
    let is = sel_is c.args.term.now c.in-Sel.parts c.as_slice-in-Sel.result.now c.in-Sel.is c.as_slice-in-Sel.ensures in
    seen_left (home_view c.args.home.now) c.args.part c.outline_after-in-Sel.result (term_view c.args.term.now) (terms.select (terms_view c.as_slice-in-Sel.result.now)) at is
    (select_left (home_view c.args.home.now) c.args.part c.outline_after-in-Sel.result c.as_slice-in-Sel.result.now c.args.child c.args.inner.now c.index-as_slice-child.result c.index-as_slice-child.is
    (seen_may (term_view c.args.term.now) (terms.select (terms_view c.as_slice-in-Sel.result.now)) at is c.requires) c.outline_after-in-Sel.ensures)

pub outline_inside-returns-in-Seq : goal.outline_inside-returns-in-Seq
outline_inside-returns-in-Seq t c =
    let at = c.args.child ∷ c.args.inner.now in
    let is = seq_is c.args.term.now c.in-Seq.first c.get.result.now c.in-Seq.rest c.in-Seq.is c.get.ensures in
    let u = terms.sequence (term_view c.get.result.now) (step.sequence_view c.in-Seq.rest) in
    seen_left (home_view c.args.home.now) c.args.part c.outline_sequence.result (term_view c.args.term.now) u at is
    (sequence_left (home_view c.args.home.now) c.args.part c.outline_sequence.result c.outline_after.result (term_view c.get.result.now) (step.sequence_view c.in-Seq.rest) c.args.child c.args.inner.now
    (seen_may (term_view c.args.term.now) u at is c.requires) c.outline_after.ensures c.outline_sequence.ensures)

pub outline_inside-returns-in-Frame : goal.outline_inside-returns-in-Frame
outline_inside-returns-in-Frame t c =
    let at = c.args.child ∷ c.args.inner.now in
    let slots = c.in-Frame.results in
    let is = frame_is c.args.term.now c.in-Frame.frame c.in-Frame.inputs c.in-Frame.results slots c.in-Frame.body c.get-in-Frame.result.now c.in-Frame.is refl c.get-in-Frame.ensures in
    let u = terms.frame c.in-Frame.frame.0 c.in-Frame.inputs slots (term_view c.get-in-Frame.result.now) in
    seen_left (home_view c.args.home.now) c.args.part c.outline_frame.result (term_view c.args.term.now) u at is
    (frame_left (home_view c.args.home.now) c.args.part c.outline_frame.result c.outline_after-in-Frame.result c.in-Frame.frame.0 c.in-Frame.inputs slots (term_view c.get-in-Frame.result.now) c.args.child c.args.inner.now
    (seen_may (term_view c.args.term.now) u at is c.requires) c.outline_after-in-Frame.ensures (c.outline_frame.ensures (home_view c.args.home.now)))
