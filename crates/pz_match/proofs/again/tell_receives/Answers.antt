-- One receive more is told.
use Rattle.std.proofs.Common.{◌≡◌, ◌<◌, ◌∙◌, ap, sym, [], ◌∷◌, length, get_or, set, arith}
use Rattle.std.proofs.lemmas.List.{get_or_default, length-append}
use Rattle.pz_match.specs.declared.kept.Receiving.{Receiving}
use Rattle.pz_match.specs.devices.Again.{receive_again, told_again}
use Rattle.pz_match.proofs.Drained.{given_below}
use Rattle.pz_match.proofs.Retold.{told_none, told_long, told_next}
use Rattle.pz_match.proofs.again.tell_receives.Goals as goal

pub loop-offer-init : goal.loop-offer-init
loop-offer-init c = record { place = omega arith; told = sym (told_none receive_again c.args.receives.now) }

pub bounds-receives-at : goal.bounds-receives-at
bounds-receives-at c =
    let lt = given_below c.args.offers.items c.into_iter-offer-iterator.result c.loop-offer.yielded c.loop-offer.offer-iterator c.next.new.self c.in-Some.offer c.into_iter-offer-iterator.ensures.into_iter_gives.0 c.loop-offer.yielded_by c.in-Some.ensures.steps.0 in
    omega (arith, lt, c.requires, c.loop-offer.invariant.place, c.loop-offer.auto.receives)

pub loop-offer-preserved : goal.loop-offer-preserved
loop-offer-preserved c =
    let inv = c.loop-offer.invariant in
    let first = c.args.receives.now in
    let done = c.loop-offer.yielded in
    let lt = given_below c.args.offers.items c.into_iter-offer-iterator.result done c.loop-offer.offer-iterator c.next.new.self c.in-Some.offer c.into_iter-offer-iterator.ensures.into_iter_gives.0 c.loop-offer.yielded_by c.in-Some.ensures.steps.0 in
    let below : length done < length first = omega (arith, lt, c.requires) in
    let x : Receiving = get_or (told_again receive_again first done) (length done) c.index-receives-at.result in
    let is : x ≡ get_or (told_again receive_again first done) (length done) x = get_or_default (told_again receive_again first done) (length done) c.index-receives-at.result x (omega (arith, below, told_long receive_again first done)) in
    let here : get_or c.loop-offer.receives c.loop-offer.at c.index-receives-at.result ≡ x = λ i. get_or (inv.told i) (inv.place i) c.index-receives-at.result in
    let now : c.tell_receive.new.receive ≡ receive_again x c.in-Some.offer = c.tell_receive.ensures ∙ ap (λ (y : Receiving). receive_again y c.in-Some.offer) here in
    record {
      place = (let at = inv.place in omega (arith, at, length-append done (c.in-Some.offer ∷ [])));
      told = (λ i. set (inv.told i) (inv.place i) (now i)) ∙ told_next receive_again first done x c.in-Some.offer below is;
    }
