-- One receive more.
use Rattle.std.proofs.Common.{◌≡◌, ◌<◌, ◌+◌, [], ◌∷◌, length, take, get_or, Option, Some, None, arith}
use Rattle.std.specs.List.{slice_get}
use Rattle.std.proofs.lemmas.List.{get_or_default, length-append}
use Rattle.std.proofs.lemmas.Option.{slice_get-get_or, slice_get_within}
use Rattle.pz_match.specs.declared.kept.Stay.{Stay}
use Rattle.pz_match.specs.devices.Staying.{stays_part}
use Rattle.pz_match.proofs.Drained.{given_at}
use Rattle.pz_match.proofs.Offered.{heard_next}
use Rattle.pz_match.proofs.Planned.{may_receive_still, stays_next}
use Rattle.pz_match.proofs.hearing.hear.Goals as goal

pub hear_one-requires : goal.hear_one-requires
hear_one-requires c =
    let inv = c.loop-offer.invariant in
    let plan = c.args.plan.now in
    let at = c.loop-offer.at in
    let stay : Option Stay = get_or plan at None in
    let there : slice_get c.args.offers.items at ≡ Some c.in-Some.offer
    = given_at c.args.offers.items c.into_iter-offer-iterator.result c.loop-offer.yielded c.loop-offer.offer-iterator c.next.new.self c.in-Some.offer c.into_iter-offer-iterator.ensures.into_iter_gives.0 c.loop-offer.yielded_by c.in-Some.ensures.steps.0 at inv.place in
    let below : at < length plan = omega (arith, c.requires.may.long, slice_get_within c.args.offers.items at c.in-Some.offer there) in
    may_receive_still c.args.groups.now c.loop-offer.groups inv.heard.follows stay c.in-Some.offer (c.requires.may.each at stay c.in-Some.offer (slice_get-get_or plan at None below) there)

pub loop-offer-preserved : goal.loop-offer-preserved
loop-offer-preserved c =
    let inv = c.loop-offer.invariant in
    let plan = c.args.plan.now in
    let at = c.loop-offer.at in
    let stay : Option Stay = get_or plan at None in
    let there : slice_get c.args.offers.items at ≡ Some c.in-Some.offer
    = given_at c.args.offers.items c.into_iter-offer-iterator.result c.loop-offer.yielded c.loop-offer.offer-iterator c.next.new.self c.in-Some.offer c.into_iter-offer-iterator.ensures.into_iter_gives.0 c.loop-offer.yielded_by c.in-Some.ensures.steps.0 at inv.place in
    let below : at < length plan = omega (arith, c.requires.may.long, slice_get_within c.args.offers.items at c.in-Some.offer there) in
    let heard = heard_next {n = stays_part (take (at + 1) plan)} (stays_next plan at stay below (get_or_default plan at None stay below)) inv.heard c.in_ok-receive.ensures in
    record {
      place = (let place = inv.place in omega (arith, place, length-append c.loop-offer.yielded (c.in-Some.offer ∷ [])));
      heard = rw c.in_ok-keep.ensures heard;
    }
