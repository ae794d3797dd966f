-- The process offers the same again, or something else.
use Rattle.std.proofs.Common.{◌≡◌, ◌<◌, ◌∙◌, refl, ap, subst, List, length, get_or, set, Some, arith}
use Rattle.std.specs.List.{slice_get}
use Rattle.std.specs.Vec.{with_items}
use Rattle.std.specs.Prelude.{map}
use Rattle.std.proofs.lemmas.List.{length-map, with_items_is}
use Rattle.std.proofs.lemmas.Option.{slice_get-get_or}
use Rattle.pz_offer.specs.declared.ends.SendOffer.{SendOffer}
use Rattle.pz_offer.specs.declared.ends.ReceiveOffer.{ReceiveOffer}
use Rattle.pz_match.specs.declared.kept.Offers.{Offers}
use Rattle.pz_match.specs.devices.Kept.{Kept, kept}
use Rattle.pz_match.specs.devices.Tallies.{GroupsView}
use Rattle.pz_match.specs.devices.Updating.{silent}
use Rattle.pz_match.specs.devices.Again.{Again, all_again}
use Rattle.pz_match.proofs.Repeated.{replaced_again, whole_again, asked_again}
use Rattle.pz_match.proofs.altering.alter.Goals as goal

pub returns-then-again-clause-replaced : goal.returns-then-again-clause-replaced
returns-then-again-clause-replaced g c =
    let stored = c.args.all.now in
    let all = map kept stored.items in
    let p = c.args.process in
    let groups : GroupsView = c.args.groups.now in
    let below : p < length all = omega (arith, c.requires.within, length-map stored.items kept) in
    let old : Kept = get_or all p (silent p) in
    let there : slice_get all p ≡ Some old = slice_get-get_or all p (silent p) below in
    let again : Again groups old c.args.sends.items c.args.receives.items
    = subst (λ (ss : List SendOffer). Again groups old ss c.args.receives.items) c.as_slice-2.ensures.value
    (subst (λ (rs : List ReceiveOffer). Again groups old c.as_slice-2.result.now rs) c.as_slice-3.ensures.value
    (c.if-again.ensures refl old (ap (λ (xs : List Offers). slice_get (map kept xs) p) c.as_slice.ensures.value ∙ there))) in
    let same = c.as_mut_slice.ensures.value in
    let long = ap length same in
    let new_is : map kept (with_items stored c.tell_again.new.all).items ≡ set all p (all_again old c.args.sends.items c.args.receives.items)
    = ap (map kept) (with_items_is stored c.tell_again.new.all (omega (arith, c.tell_again.auto.all, long, stored.ok.0)))
    ∙ (c.tell_again.ensures old (ap (λ (xs : List Offers). slice_get (map kept xs) p) same ∙ there) ∙ ap (λ (xs : List Offers). set (map kept xs) p (all_again old c.args.sends.items c.args.receives.items)) same) in
    let says = g.J.Judge.verdict c.args.judge.now in
    replaced_again says p c.args.sends.items c.args.receives.items groups all old below there c.requires.whole.stands.holds again (map kept (with_items stored c.tell_again.new.all).items) new_is

pub returns-then-again-clause-whole : goal.returns-then-again-clause-whole
returns-then-again-clause-whole g c =
    let stored = c.args.all.now in
    let all = map kept stored.items in
    let p = c.args.process in
    let groups : GroupsView = c.args.groups.now in
    let below : p < length all = omega (arith, c.requires.within, length-map stored.items kept) in
    let old : Kept = get_or all p (silent p) in
    let there : slice_get all p ≡ Some old = slice_get-get_or all p (silent p) below in
    let again : Again groups old c.args.sends.items c.args.receives.items
    = subst (λ (ss : List SendOffer). Again groups old ss c.args.receives.items) c.as_slice-2.ensures.value
    (subst (λ (rs : List ReceiveOffer). Again groups old c.as_slice-2.result.now rs) c.as_slice-3.ensures.value
    (c.if-again.ensures refl old (ap (λ (xs : List Offers). slice_get (map kept xs) p) c.as_slice.ensures.value ∙ there))) in
    let same = c.as_mut_slice.ensures.value in
    let long = ap length same in
    let new_is : map kept (with_items stored c.tell_again.new.all).items ≡ set all p (all_again old c.args.sends.items c.args.receives.items)
    = ap (map kept) (with_items_is stored c.tell_again.new.all (omega (arith, c.tell_again.auto.all, long, stored.ok.0)))
    ∙ (c.tell_again.ensures old (ap (λ (xs : List Offers). slice_get (map kept xs) p) same ∙ there) ∙ ap (λ (xs : List Offers). set (map kept xs) p (all_again old c.args.sends.items c.args.receives.items)) same) in
    let says = g.J.Judge.verdict c.args.judge.now in
    whole_again says p c.args.sends.items c.args.receives.items groups all old below there c.requires.whole.stands.holds again c.args.users.now c.args.shares.now (map kept (with_items stored c.tell_again.new.all).items) c.requires.whole new_is c.requires.sends_ordered c.requires.receives_ordered

pub returns-then-again-clause-asked : goal.returns-then-again-clause-asked
returns-then-again-clause-asked g c =
    let stored = c.args.all.now in
    let all = map kept stored.items in
    let p = c.args.process in
    let groups : GroupsView = c.args.groups.now in
    let below : p < length all = omega (arith, c.requires.within, length-map stored.items kept) in
    let old : Kept = get_or all p (silent p) in
    let there : slice_get all p ≡ Some old = slice_get-get_or all p (silent p) below in
    let again : Again groups old c.args.sends.items c.args.receives.items
    = subst (λ (ss : List SendOffer). Again groups old ss c.args.receives.items) c.as_slice-2.ensures.value
    (subst (λ (rs : List ReceiveOffer). Again groups old c.as_slice-2.result.now rs) c.as_slice-3.ensures.value
    (c.if-again.ensures refl old (ap (λ (xs : List Offers). slice_get (map kept xs) p) c.as_slice.ensures.value ∙ there))) in
    let same = c.as_mut_slice.ensures.value in
    let long = ap length same in
    let new_is : map kept (with_items stored c.tell_again.new.all).items ≡ set all p (all_again old c.args.sends.items c.args.receives.items)
    = ap (map kept) (with_items_is stored c.tell_again.new.all (omega (arith, c.tell_again.auto.all, long, stored.ok.0)))
    ∙ (c.tell_again.ensures old (ap (λ (xs : List Offers). slice_get (map kept xs) p) same ∙ there) ∙ ap (λ (xs : List Offers). set (map kept xs) p (all_again old c.args.sends.items c.args.receives.items)) same) in
    let says = g.J.Judge.verdict c.args.judge.now in
    asked_again says p c.args.sends.items c.args.receives.items groups all old below there c.requires.whole.stands.holds again (map kept (with_items stored c.tell_again.new.all).items) new_is (g.J.Judge.asked c.args.judge.now)
