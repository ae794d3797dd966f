use Rattle.std.proofs.Common.{get_or, arith}
use Rattle.std.proofs.lemmas.List.{drop_more}
use Rattle.pz_rules.specs.View.{term_view}
use Rattle.pz_part_queries.proofs.Inside.{goes_on, arrived}
use Rattle.pz_part_queries.proofs.parts.part_at.Goals as goal

pub loop-number-preserved : goal.loop-number-preserved
loop-number-preserved c =
    let place = c.args.place.now in
    let i = c.loop-number.number-index in
    goes_on c.args.frame.0 (term_view c.args.term.now) place c.loop-number.inner.0 (term_view c.loop-number.part.now) i (get_or place i 0) c.inner_frame-inner.result.0 (term_view c.child_of-part.result.now)
    (drop_more place i 0 c.loop-number-test.true) c.loop-number.invariant c.inner_frame-inner.ensures c.child_of-part.ensures

pub returns : goal.returns
returns c = arrived c.args.frame.0 (term_view c.args.term.now) c.args.place.now c.loop-number.inner.0 (term_view c.loop-number.part.now) c.loop-number.number-index (omega arith) c.loop-number.invariant
