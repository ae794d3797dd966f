-- One send more.
use Rattle.std.proofs.Common.{◌≡◌, ◌<◌, ◌+◌, ap, subst, [], ◌∷◌, length, take, get_or, Option, Some, None, arith}
use Rattle.std.specs.Prelude.{map, sum_by}
use Rattle.std.specs.List.{slice_get}
use Rattle.std.specs.Option.{option_to_list}
use Rattle.std.proofs.lemmas.List.{get_or_default, length-append}
use Rattle.std.proofs.lemmas.Option.{slice_get-get_or, slice_get_within}
use Rattle.std.proofs.lemmas.List.Sums.{sum_by-append}
use Rattle.pz_match.specs.declared.kept.Sending.{Sending}
use Rattle.pz_match.specs.declared.kept.Stay.{Stay}
use Rattle.pz_match.specs.Judging.{Verdicts}
use Rattle.pz_match.specs.devices.Kept.{kept}
use Rattle.pz_match.specs.devices.Staying.{stay_part, stays_part}
use Rattle.pz_match.specs.devices.Tallies.{sends_part}
use Rattle.pz_match.specs.devices.Updating.{Offered}
use Rattle.pz_match.proofs.Asked.{stays_next as stays_then, says_same}
use Rattle.pz_match.proofs.Drained.{given_at, next_among}
use Rattle.pz_match.proofs.Offered.{offered_next}
use Rattle.pz_match.proofs.Planned.{asks_nothing, covers_still, may_send_still, stays_next}
use Rattle.pz_match.proofs.offering.offer.Goals as goal

pub offer_one-requires-clause-takes : goal.offer_one-requires-clause-takes
offer_one-requires-clause-takes g c s r sends receives fit conditional =
    c.loop-offer.invariant.stays.takes_too s.end s.parcel r.end
    (c.requires.takes s r
    (next_among _ c.args.offers.items c.into_iter-offer-iterator.result c.loop-offer.yielded c.loop-offer.offer-iterator c.next.new.self c.in-Some.offer c.into_iter-offer-iterator.ensures.into_iter_gives.0 c.loop-offer.yielded_by c.in-Some.ensures.steps.0 s sends)
    receives fit conditional)

pub offer_one-requires-clause-may : goal.offer_one-requires-clause-may
offer_one-requires-clause-may g c =
    let inv = c.loop-offer.invariant in
    let plan = c.args.plan.now in
    let at = c.loop-offer.at in
    let stay : Option Stay = get_or plan at None in
    let there : slice_get c.args.offers.items at ≡ Some c.in-Some.offer
    = given_at c.args.offers.items c.into_iter-offer-iterator.result c.loop-offer.yielded c.loop-offer.offer-iterator c.next.new.self c.in-Some.offer c.into_iter-offer-iterator.ensures.into_iter_gives.0 c.loop-offer.yielded_by c.in-Some.ensures.steps.0 at inv.place in
    let below : at < length plan = omega (arith, c.requires.may.long, slice_get_within c.args.offers.items at c.in-Some.offer there) in
    may_send_still c.args.groups.now c.loop-offer.groups inv.offered.follows stay c.in-Some.offer (c.requires.may.each at stay c.in-Some.offer (slice_get-get_or plan at None below) there)

pub offer_one-requires-clause-covers : goal.offer_one-requires-clause-covers
offer_one-requires-clause-covers g c =
    let inv = c.loop-offer.invariant in
    covers_still c.args.groups.now c.loop-offer.groups (map kept c.args.all.now) (stays_part (take c.loop-offer.at c.args.plan.now)) (sends_part c.args.receives.now c.loop-offer.sent.items) c.requires.covers inv.offered.moves
    (asks_nothing c.args.groups.now c.args.plan.now c.args.offers.items c.requires.may c.loop-offer.at)

pub loop-offer-preserved : goal.loop-offer-preserved
loop-offer-preserved g c =
    let says : Verdicts = g.J.Judge.verdict c.args.judge.now in
    let all = map kept c.args.all.now in
    let inv = c.loop-offer.invariant in
    let done = c.in_ok-send.ensures in
    let plan = c.args.plan.now in
    let at = c.loop-offer.at in
    let stay : Option Stay = get_or plan at None in
    let there : slice_get c.args.offers.items at ≡ Some c.in-Some.offer
    = given_at c.args.offers.items c.into_iter-offer-iterator.result c.loop-offer.yielded c.loop-offer.offer-iterator c.next.new.self c.in-Some.offer c.into_iter-offer-iterator.ensures.into_iter_gives.0 c.loop-offer.yielded_by c.in-Some.ensures.steps.0 at inv.place in
    let below : at < length plan = omega (arith, c.requires.may.long, slice_get_within c.args.offers.items at c.in-Some.offer there) in
    let same : g.J.Judge.verdict c.loop-offer.judge ≡ says = says_same inv.stays in
    let one : Offered says all c.args.receives.now c.loop-offer.groups c.offer_one.new.groups (stay_part stay) c.args.process (c.in-Some.offer ∷ []) (option_to_list c.in_ok-send.send)
    = subst (λ (v : Verdicts). Offered v all c.args.receives.now c.loop-offer.groups c.offer_one.new.groups (stay_part stay) c.args.process (c.in-Some.offer ∷ []) (option_to_list c.in_ok-send.send)) same done.offered in
    let more = offered_next says all c.args.receives.now {n = stays_part (take (at + 1) plan)} (stays_next plan at stay below (get_or_default plan at None stay below)) inv.offered one in
    let items = c.in_ok-keep.ensures in
    record {
      place = (let place = inv.place in omega (arith, place, length-append c.loop-offer.yielded (c.in-Some.offer ∷ [])));
      offered = rw items more;
      stays = stays_then inv.stays done.stays;
      count =
          let parts = sum_by-append (λ (x : Sending). length x.rows) c.loop-offer.sent.items (option_to_list c.in_ok-send.send) in
          let whole = ap (sum_by (λ (x : Sending). length x.rows)) items in
          let a = inv.count in let b = done.asked in omega (arith, a, b, parts, whole);
    }
