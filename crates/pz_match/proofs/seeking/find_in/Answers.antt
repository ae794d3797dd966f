-- The receive that is come to.
use Rattle.std.proofs.Common.{◌≡◌, ◌∙◌, ap, sym, true, List, Some}
use Rattle.std.specs.List.{slice_get}
use Rattle.std.proofs.lemmas.Option.{slice_get-get_or}
use Rattle.pz_match.specs.declared.kept.Receiving.{Receiving}
use Rattle.pz_match.specs.devices.Seeking.{wants}
use Rattle.pz_match.proofs.Hits.{going_hit}
use Rattle.pz_match.proofs.seeking.find_in.Goals as goal

pub returns-then-rest-eq0 : goal.returns-then-rest-eq0
returns-then-rest-eq0 c =
    let s = c.args.send.now in
    let r = c.index-receives-place.result in
    let wanted : wants c.args.sort c.answer-verdict.result.0 ≡ true = cc (c.if-not-has.ensures, c.has.ensures, c.if-not-has.false) in
    let at = going_hit c.args.sort s.sender s.group c.as_slice-rows.result.now c.as_slice-receives.result.now c.args.offers.now.process c.args.number c.loop-place.place c.loop-place.from c.loop-place.rest c.loop-place.invariant
    r c.loop-place-test.true c.index-receives-place.is c.answer-verdict.result.1 c.answer-verdict.result.0 c.if-receive-send.false c.answer-verdict.ensures.within c.answer-verdict.ensures.answer wanted c.if-rest-eq0.true in
    record {
      receive = r;
      there = ap (λ (xs : List Receiving). slice_get xs c.loop-place.place) (sym c.as_slice-receives.ensures.value) ∙ (slice_get-get_or c.as_slice-receives.result.now c.loop-place.place r c.loop-place-test.true ∙ ap (λ (x : Receiving). Some x) (sym c.index-receives-place.is));
      at = rw (c.as_slice-rows.ensures, c.as_slice-receives.ensures.value) at at;
    }
