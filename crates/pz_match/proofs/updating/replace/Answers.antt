-- Step by step.
use Rattle.std.proofs.Common.{◌≡◌, ◌<◌, ◌+◌, ◌∙◌, ap, sym, subst, refl, ℕ, List, length, get_or, set, Option}
use Rattle.std.specs.Prelude.{map, All, Contains}
use Rattle.std.proofs.lemmas.List.{get_or_default}
use Rattle.std.proofs.lemmas.List.Elements.{All-weaker}
use Rattle.pz_match.specs.declared.kept.Offers.{Offers}
use Rattle.pz_match.specs.declared.kept.Sending.{Sending}
use Rattle.pz_match.specs.declared.kept.Receiving.{Receiving}
use Rattle.pz_match.specs.Offers.{receivers}
use Rattle.pz_match.specs.Judging.{Verdicts}
use Rattle.pz_match.specs.devices.Kept.{Kept, kept}
use Rattle.pz_match.specs.devices.Tallies.{Moves, total_of}
use Rattle.pz_match.specs.devices.Asking.{MayAsk, all_written}
use Rattle.pz_match.specs.devices.Holding.{ReceiveKeyed}
use Rattle.pz_match.specs.devices.Updating.{Heard, Offered, Replaced, Covers, TouchesOnly, silent, renewed_in, receivers_of}
use Rattle.pz_match.proofs.Grouped.{follows_next}
use Rattle.pz_match.proofs.Asked.{says_same}
use Rattle.pz_match.proofs.Couples.{item_kept}
use Rattle.pz_match.proofs.Fitting.{may_ask_sends}
use Rattle.pz_match.proofs.Askers.{rest_askers}
use Rattle.pz_match.specs.declared.kept.Stay.{Stay}
use Rattle.pz_match.specs.devices.Again.{Beside}
use Rattle.pz_match.specs.devices.Staying.{MaySend, stays_part}
use Rattle.pz_match.proofs.Planned.{may_send_still}
use Rattle.pz_match.proofs.Retold.{beside_weaker}
use Rattle.pz_match.specs.devices.Users.{Gathered, HaveAskers}
use Rattle.pz_match.proofs.Offered.{receive_keyed}
use Rattle.pz_match.proofs.Questions.{update_asks}
use Rattle.pz_match.proofs.Steps.{among_rest, sends_keyed, receives_keyed, rest_keyed, rest_own, rest_sends_keyed, rest_within, rest_foreign, rest_touched}
use Rattle.pz_match.proofs.Updated.{covers_heard, heard_own, sent_own, mid_is, stored_is, replaced_from}
use Rattle.pz_match.proofs.updating.replace.Goals as goal

pub withdraw-requires-clause-sends : goal.withdraw-requires-clause-sends
withdraw-requires-clause-sends g c =
    let old : Offers = get_or c.args.all.now c.args.process c.index-all-place.result in
    let item = item_kept c.args.all.now c.args.process old c.requires.within (get_or_default c.args.all.now c.args.process c.index-all-place.result old c.requires.within) in
    sends_keyed c.args.process c.args.groups.now (map kept c.args.all.now) c.requires.holds (kept old) item.2

pub withdraw-requires-clause-receives : goal.withdraw-requires-clause-receives
withdraw-requires-clause-receives g c =
    let old : Offers = get_or c.args.all.now c.args.process c.index-all-place.result in
    let item = item_kept c.args.all.now c.args.process old c.requires.within (get_or_default c.args.all.now c.args.process c.index-all-place.result old c.requires.within) in
    receives_keyed c.args.process c.args.groups.now (map kept c.args.all.now) c.requires.holds (kept old) item.2

pub offer-requires-clause-keyed : goal.offer-requires-clause-keyed
offer-requires-clause-keyed g c =
    let old : Offers = get_or c.args.all.now c.args.process c.index-all-place.result in
    let item = item_kept c.args.all.now c.args.process old c.requires.within (get_or_default c.args.all.now c.args.process c.index-all-place.result old c.requires.within) in
    let mid = mid_is c.args.process c.args.groups.now c.args.all.now old c.withdraw.new.offers c.requires.holds item.2 c.in_ok-room.ensures.silent in
    subst (All (λ (e : Kept). All (ReceiveKeyed c.listen.new.groups) e.receives)) (sym mid)
    (rest_keyed c.args.process c.args.groups.now (map kept c.args.all.now) c.requires.holds c.listen.new.groups (follows_next c.in_ok-room.ensures.follows c.in_ok-listen.ensures.heard.follows))

pub offer-requires-clause-own : goal.offer-requires-clause-own
offer-requires-clause-own g c =
    let old : Offers = get_or c.args.all.now c.args.process c.index-all-place.result in
    let item = item_kept c.args.all.now c.args.process old c.requires.within (get_or_default c.args.all.now c.args.process c.index-all-place.result old c.requires.within) in
    let mid = mid_is c.args.process c.args.groups.now c.args.all.now old c.withdraw.new.offers c.requires.holds item.2 c.in_ok-room.ensures.silent in
    subst (All (λ (e : Kept). All (λ (r : Receiving). r.receiver.end.process ≡ e.process) e.receives)) (sym mid)
    (rest_own c.args.process c.args.groups.now (map kept c.args.all.now) c.requires.holds)

pub offer-requires-clause-covers : goal.offer-requires-clause-covers
offer-requires-clause-covers g c =
    let old : Offers = get_or c.args.all.now c.args.process c.index-all-place.result in
    let item = item_kept c.args.all.now c.args.process old c.requires.within (get_or_default c.args.all.now c.args.process c.index-all-place.result old c.requires.within) in
    let mid = mid_is c.args.process c.args.groups.now c.args.all.now old c.withdraw.new.offers c.requires.holds item.2 c.in_ok-room.ensures.silent in
    let heard_now : Heard c.withdraw.new.groups c.listen.new.groups (stays_part c.withdraw.new.plan.receives.items) c.args.process c.args.receives.items c.listen.new.kept.items
    = subst (λ (stays : List (Option Stay)). Heard c.withdraw.new.groups c.listen.new.groups (stays_part stays) c.args.process c.args.receives.items c.listen.new.kept.items) c.as_slice-still_heard.ensures.value c.in_ok-listen.ensures.heard in
    subst (Covers c.listen.new.groups) (sym mid)
    (covers_heard c.args.process c.args.groups.now c.withdraw.new.groups (map kept c.args.all.now) (kept old) (stays_part c.withdraw.new.plan.sends.items) (stays_part c.withdraw.new.plan.receives.items) item.0 item.1 c.requires.holds c.in_ok-room.ensures.moves c.listen.new.groups c.listen.new.kept.items heard_now.moves)

pub offer-requires-clause-may : goal.offer-requires-clause-may
offer-requires-clause-may g c =
    let now = c.listen.new.groups in
    subst (λ (stays : List (Option Stay)). Beside (MaySend now) stays c.args.sends.items) (sym c.as_slice-still_sent.ensures.value)
    (beside_weaker (MaySend c.withdraw.new.groups) (MaySend now) c.withdraw.new.plan.sends.items c.args.sends.items (may_send_still c.withdraw.new.groups now c.in_ok-listen.ensures.heard.follows)
    (subst (Beside (MaySend c.withdraw.new.groups) c.withdraw.new.plan.sends.items) c.as_slice.ensures.value c.in_ok-room.ensures.may_send))

pub offer-requires-clause-askers : goal.offer-requires-clause-askers
offer-requires-clause-askers g c =
    let old : Offers = get_or c.args.all.now c.args.process c.index-all-place.result in
    let item = item_kept c.args.all.now c.args.process old c.requires.within (get_or_default c.args.all.now c.args.process c.index-all-place.result old c.requires.within) in
    let mid = mid_is c.args.process c.args.groups.now c.args.all.now old c.withdraw.new.offers c.requires.holds item.2 c.in_ok-room.ensures.silent in
    subst (HaveAskers c.args.users.now.askers) (sym mid) (rest_askers c.args.users.now.askers (map kept c.args.all.now) c.args.process item.0 c.requires.askers)

pub offer-requires-clause-takes : goal.offer-requires-clause-takes
offer-requires-clause-takes g c s r sends receives fit conditional =
    let old : Offers = get_or c.args.all.now c.args.process c.index-all-place.result in
    let item = item_kept c.args.all.now c.args.process old c.requires.within (get_or_default c.args.all.now c.args.process c.index-all-place.result old c.requires.within) in
    let mid = mid_is c.args.process c.args.groups.now c.args.all.now old c.withdraw.new.offers c.requires.holds item.2 c.in_ok-room.ensures.silent in
    c.requires.sends_asked s r sends
    (among_rest (λ (e : Kept). map (λ (q : Receiving). q.receiver) e.receives) (map kept c.args.all.now) c.args.process (silent c.args.process) r refl (subst (λ (xs : List Kept). Contains (receivers_of xs) r) mid receives)) fit conditional

pub renew_all-requires-clause-groups : goal.renew_all-requires-clause-groups
renew_all-requires-clause-groups g c =
    let old : Offers = get_or c.args.all.now c.args.process c.index-all-place.result in
    let item = item_kept c.args.all.now c.args.process old c.requires.within (get_or_default c.args.all.now c.args.process c.index-all-place.result old c.requires.within) in
    let mid = mid_is c.args.process c.args.groups.now c.args.all.now old c.withdraw.new.offers c.requires.holds item.2 c.in_ok-room.ensures.silent in
    subst (All (λ (e : Kept). All (λ (s : Sending). s.group < length c.offer.new.groups.groups) e.sends)) (sym mid)
    (rest_within c.args.process c.args.groups.now (map kept c.args.all.now) c.requires.holds c.offer.new.groups (follows_next c.in_ok-room.ensures.follows (follows_next c.in_ok-listen.ensures.heard.follows c.in_ok-offer.ensures.offered.follows)))

pub renew_all-requires-clause-takes : goal.renew_all-requires-clause-takes
renew_all-requires-clause-takes g c =
    let p = c.args.process in
    let old : Offers = get_or c.args.all.now p c.index-all-place.result in
    let item = item_kept c.args.all.now p old c.requires.within (get_or_default c.args.all.now p c.index-all-place.result old c.requires.within) in
    let mid = mid_is p c.args.groups.now c.args.all.now old c.withdraw.new.offers c.requires.holds item.2 c.in_ok-room.ensures.silent in
    let follows = follows_next c.in_ok-room.ensures.follows (follows_next c.in_ok-listen.ensures.heard.follows c.in_ok-offer.ensures.offered.follows) in
    let heard = c.listen.new.kept.items in
    subst (λ (rs : List Receiving). All (λ (e : Kept). All (λ (s : Sending). All (MayAsk g.J.Judge.takes c.offer.new.judge s.sender s.group) rs) e.sends) (map kept (set c.args.all.now p c.withdraw.new.offers))) (sym c.as_slice-4.ensures.value)
    (subst (All (λ (e : Kept). All (λ (s : Sending). All (MayAsk g.J.Judge.takes c.offer.new.judge s.sender s.group) heard) e.sends)) (sym mid)
    (may_ask_sends g.J.Judge.takes c.offer.new.judge c.offer.new.groups (set (map kept c.args.all.now) p (silent p)) p heard (receivers p c.args.receives.items)
    (rest_sends_keyed p c.args.groups.now (map kept c.args.all.now) c.requires.holds c.offer.new.groups follows)
    (All-weaker (ReceiveKeyed c.listen.new.groups) (ReceiveKeyed c.offer.new.groups) (receive_keyed c.in_ok-offer.ensures.offered.follows) heard c.in_ok-listen.ensures.heard.keyed)
    (rest_foreign p c.args.groups.now (map kept c.args.all.now) c.requires.holds item.0)
    (heard_own p c.args.receives.items heard c.in_ok-listen.ensures.heard.same) c.in_ok-listen.ensures.heard.same
    (λ s r sends receives fit conditional.
    c.in_ok-offer.ensures.stays.takes_too s.end s.parcel r.end
    (c.requires.receives_asked s r (among_rest (λ (e : Kept). map (λ (q : Sending). q.sender) e.sends) (map kept c.args.all.now) p (silent p) s refl sends) receives fit conditional))))

pub renew_all-requires-clause-only : goal.renew_all-requires-clause-only
renew_all-requires-clause-only g c =
    let p = c.args.process in
    let old : Offers = get_or c.args.all.now p c.index-all-place.result in
    let item = item_kept c.args.all.now p old c.requires.within (get_or_default c.args.all.now p c.index-all-place.result old c.requires.within) in
    let mid = mid_is p c.args.groups.now c.args.all.now old c.withdraw.new.offers c.requires.holds item.2 c.in_ok-room.ensures.silent in
    let heard = c.listen.new.kept.items in
    let before : Gathered c.args.users.now.senders c.listen.new.places old.receives.items
    = λ k d lt asks n on. c.listen.ensures.keeps n (c.in_ok-room.ensures.gathered k d lt asks n on) in
    let touched : TouchesOnly c.listen.new.places p heard (set (map kept c.args.all.now) p (silent p))
    = rest_touched p c.args.groups.now (map kept c.args.all.now) c.requires.holds item.0 c.args.users.now c.requires.users c.listen.new.places heard c.listen.new.groups (follows_next c.in_ok-room.ensures.follows c.in_ok-listen.ensures.heard.follows)
    c.in_ok-listen.ensures.heard.keyed (kept old) item.2 before c.in_ok-listen.ensures.gathered in
    subst (λ (xs : List Kept). TouchesOnly c.as_slice-changed.result.now p c.as_slice-4.result.now xs) (sym mid)
    (subst (λ (rs : List Receiving). TouchesOnly c.as_slice-changed.result.now p rs (set (map kept c.args.all.now) p (silent p))) (sym c.as_slice-4.ensures.value)
    (subst (λ (us : List ℕ). TouchesOnly us p heard (set (map kept c.args.all.now) p (silent p))) (sym c.as_slice-changed.ensures.list) touched))

pub returns-clause-replaced : goal.returns-clause-replaced
returns-clause-replaced g c =
    let p = c.args.process in
    let all = map kept c.args.all.now in
    let says : Verdicts = g.J.Judge.verdict c.args.judge.now in
    let old : Offers = get_or c.args.all.now p c.index-all-place.result in
    let item = item_kept c.args.all.now p old c.requires.within (get_or_default c.args.all.now p c.index-all-place.result old c.requires.within) in
    let mid = mid_is p c.args.groups.now c.args.all.now old c.withdraw.new.offers c.requires.holds item.2 c.in_ok-room.ensures.silent in
    let heard = c.listen.new.kept.items in
    let sent = c.offer.new.sent.items in
    let less = stays_part c.withdraw.new.plan.sends.items in
    let heard_now : Heard c.withdraw.new.groups c.listen.new.groups (stays_part c.withdraw.new.plan.receives.items) c.args.process c.args.receives.items c.listen.new.kept.items
    = subst (λ (stays : List (Option Stay)). Heard c.withdraw.new.groups c.listen.new.groups (stays_part stays) c.args.process c.args.receives.items c.listen.new.kept.items) c.as_slice-still_heard.ensures.value c.in_ok-listen.ensures.heard in
    let offered : Offered says (set all p (silent p)) heard c.listen.new.groups c.offer.new.groups less p c.args.sends.items sent
    = subst (λ (xs : List Kept). Offered says xs heard c.listen.new.groups c.offer.new.groups less p c.args.sends.items sent) mid
    (subst (λ (rs : List Receiving). Offered says (map kept (set c.args.all.now p c.withdraw.new.offers)) rs c.listen.new.groups c.offer.new.groups less p c.args.sends.items sent) c.as_slice-3.ensures.value
    (subst (λ (stays : List (Option Stay)). Offered says (map kept (set c.args.all.now p c.withdraw.new.offers)) c.as_slice-3.result.now c.listen.new.groups c.offer.new.groups (stays_part stays) p c.args.sends.items sent) c.as_slice-still_sent.ensures.value c.in_ok-offer.ensures.offered)) in
    let same : g.J.Judge.verdict c.offer.new.judge ≡ says = says_same c.in_ok-offer.ensures.stays in
    let now : map kept c.renew_all.new.all ≡ map (renewed_in says p heard) (set all p (silent p))
    = c.in_ok-renew_all.ensures.all ∙ (λ i. map (renewed_in (same i) p (c.as_slice-4.ensures.value i)) (mid i)) in
    let moves : Moves c.offer.new.groups c.renew_all.new.groups (total_of (set all p (silent p))) (total_of (map (renewed_in says p heard) (set all p (silent p))))
    = subst (λ (xs : List Kept). Moves c.offer.new.groups c.renew_all.new.groups (total_of (set all p (silent p))) (total_of xs)) now
    (subst (λ (xs : List Kept). Moves c.offer.new.groups c.renew_all.new.groups (total_of xs) (total_of (map kept c.renew_all.new.all))) mid c.in_ok-renew_all.ensures.moves) in
    subst (Replaced says p c.args.sends.items c.args.receives.items c.args.groups.now all c.renew_all.new.groups) (sym (stored_is says p all sent heard c.renew_all.new.all c.index-all-place-2.result _ item.0 now refl))
    (replaced_from says p c.args.sends.items c.args.receives.items c.args.groups.now c.withdraw.new.groups c.listen.new.groups c.offer.new.groups c.renew_all.new.groups all (kept old) sent heard less (stays_part c.withdraw.new.plan.receives.items) item.0 item.1 c.requires.holds
    c.in_ok-room.ensures.follows c.in_ok-room.ensures.moves heard_now offered c.in_ok-renew_all.ensures.follows moves)

pub returns-clause-asked : goal.returns-clause-asked
returns-clause-asked g c =
    let p = c.args.process in
    let all = map kept c.args.all.now in
    let says : Verdicts = g.J.Judge.verdict c.args.judge.now in
    let old : Offers = get_or c.args.all.now p c.index-all-place.result in
    let item = item_kept c.args.all.now p old c.requires.within (get_or_default c.args.all.now p c.index-all-place.result old c.requires.within) in
    let mid = mid_is p c.args.groups.now c.args.all.now old c.withdraw.new.offers c.requires.holds item.2 c.in_ok-room.ensures.silent in
    let heard = c.listen.new.kept.items in
    let sent = c.offer.new.sent.items in
    let offered : Offered says (map kept (set c.args.all.now p c.withdraw.new.offers)) c.as_slice-3.result.now c.listen.new.groups c.offer.new.groups (stays_part c.as_slice-still_sent.result.now) p c.args.sends.items sent = c.in_ok-offer.ensures.offered in
    let same : g.J.Judge.verdict c.offer.new.judge ≡ says = says_same c.in_ok-offer.ensures.stays in
    let now : map kept c.renew_all.new.all ≡ map (renewed_in says p heard) (set all p (silent p))
    = c.in_ok-renew_all.ensures.all ∙ (λ i. map (renewed_in (same i) p (c.as_slice-4.ensures.value i)) (mid i)) in
    let stored = stored_is says p all sent heard c.renew_all.new.all c.index-all-place-2.result _ item.0 now refl in
    let first = c.in_ok-offer.ensures.asked in
    let second = c.in_ok-renew_all.ensures.asked in
    let both = update_asks says p heard sent all (g.J.Judge.verdict c.offer.new.judge) c.as_slice-4.result.now (map kept (set c.args.all.now p c.withdraw.new.offers)) item.0 same c.as_slice-4.ensures.value mid (sent_own p c.args.sends.items sent offered.same) (rest_foreign p c.args.groups.now all c.requires.holds item.0) (g.J.Judge.asked c.args.judge.now) (g.J.Judge.asked c.offer.new.judge) (g.J.Judge.asked c.renew_all.new.judge) first second in
    both ∙ ap (λ (xs : List Kept). g.J.Judge.asked c.args.judge.now + all_written p xs) (sym stored)
