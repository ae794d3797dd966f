-- Process by process, of those that use the wire, and then that of the send.
use Rattle.std.proofs.Common.{◌≡◌, ◌<◌, refl, sym, ◌∙◌, ap, subst, List, Some, length, get_or, arith}
use Rattle.std.specs.List.{slice_get}
use Rattle.std.specs.Prelude.{map}
use Rattle.std.proofs.lemmas.List.{length-map}
use Rattle.std.proofs.lemmas.List.Elements.{All-get_or}
use Rattle.std.proofs.lemmas.Option.{slice_get-get_or, slice_get_within}
use Rattle.pz_match.specs.declared.kept.Sending.{Sending}
use Rattle.pz_match.specs.devices.Kept.{kept}
use Rattle.pz_match.specs.devices.Holding.{Answered, SendKeyed}
use Rattle.pz_match.specs.devices.Seeking.{from_process}
use Rattle.pz_match.specs.devices.Users.{AreBlocks}
use Rattle.pz_match.proofs.Sought.{sound_at, numbered_at}
use Rattle.pz_match.proofs.Couples.{item_kept, couple_found, none_found}
use Rattle.pz_match.proofs.Reaching.{from_below, no_user, user_passes, at_user, follows_past, all_passed, only_senders, only_receivers, on_the_wire, some_same}
use Rattle.pz_match.proofs.seeking.find_on.Goals as goal

pub loop-at-init : goal.loop-at-init
loop-at-init c =
    let all = map kept c.args.all.now in
    let us = c.args.senders.now in
    let only = only_senders c.args.groups.now all c.requires.holds (λ k. k) us c.args.receivers.now c.args.wire c.requires.users c.args.sort in
    record {
      within = c.below-at.ensures.within;
      adds =
          from_below us c.requires.senders all (from_process c.args.sort c.args.groups.now.groups c.args.wire) only c.below-at.result c.skip_senders-start.result.place c.skip_senders-start.result.rest c.args.number
          c.below-at.ensures.within c.below-at.ensures.before c.below-at.ensures.behind c.skip_senders-start.ensures;
    }

pub loop-at-preserved-then-process-all : goal.loop-at-preserved-then-process-all
loop-at-preserved-then-process-all c =
    let all = map kept c.args.all.now in
    let us = c.args.senders.now in
    let at = c.loop-at.at in
    let past_all = c.if-process-all.true in
    let only = only_senders c.args.groups.now all c.requires.holds (λ k. k) us c.args.receivers.now c.args.wire c.requires.users c.args.sort in
    record {
      within = omega (arith, c.loop-at-test.true);
      adds = no_user us c.requires.senders all (from_process c.args.sort c.args.groups.now.groups c.args.wire) only at (get_or us at 0) c.loop-at.rest c.args.number c.loop-at-test.true refl (omega (arith, past_all, length-map c.args.all.now kept)) c.loop-at.invariant.adds;
    }

pub bounds-sends-seat : goal.bounds-sends-seat
bounds-sends-seat c =
    subst (λ (xs : List Sending). c.in-Ok.seat.place < length xs) (sym c.as_slice-sends.ensures.value) (slice_get_within c.index-all-process.result.sends.items c.in-Ok.seat.place c.in-Ok.ensures.item c.in-Ok.ensures.there)

pub couple-requires-clause-blocks : goal.couple-requires-clause-blocks
couple-requires-clause-blocks c =
    let all = map kept c.args.all.now in
    let us = c.args.senders.now in
    let e = c.index-all-process.result in
    let is_send : c.index-sends-seat.result ≡ get_or e.sends.items c.in-Ok.seat.place c.index-sends-seat.result = c.index-sends-seat.is ∙ ap (λ (xs : List Sending). get_or xs c.in-Ok.seat.place c.index-sends-seat.result) c.as_slice-sends.ensures.value in
    let lt = slice_get_within e.sends.items c.in-Ok.seat.place c.in-Ok.ensures.item c.in-Ok.ensures.there in
    let at_place = slice_get-get_or e.sends.items c.in-Ok.seat.place c.index-sends-seat.result lt ∙ ap (λ (x : Sending). Some x) (sym is_send) in
    let same : c.in-Ok.ensures.item ≡ c.index-sends-seat.result = some_same c.in-Ok.ensures.item c.index-sends-seat.result (sym c.in-Ok.ensures.there ∙ at_place) in
    let wire = on_the_wire c.args.groups.now all c.requires.holds (λ k. k) us c.args.receivers.now c.args.wire c.requires.users c.args.sort (kept e).receives c.in-Ok.ensures.item c.in-Ok.seat.rest c.in-Ok.ensures.inside in
    subst (AreBlocks c.args.blocks.now all) (sym (ap (λ (s : Sending). s.sender.wire) (sym same) ∙ wire)) c.requires.blocks

pub couple-requires-clause-keyed : goal.couple-requires-clause-keyed
couple-requires-clause-keyed c =
    let all = map kept c.args.all.now in
    let us = c.args.senders.now in
    let at = c.loop-at.at in
    let e = c.index-all-process.result in
    let item = item_kept c.args.all.now (get_or us at 0) e (omega (arith, c.if-process-all.false)) c.index-all-process.is in
    let is_send : c.index-sends-seat.result ≡ get_or e.sends.items c.in-Ok.seat.place c.index-sends-seat.result = c.index-sends-seat.is ∙ ap (λ (xs : List Sending). get_or xs c.in-Ok.seat.place c.index-sends-seat.result) c.as_slice-sends.ensures.value in
    let lt = slice_get_within e.sends.items c.in-Ok.seat.place c.in-Ok.ensures.item c.in-Ok.ensures.there in
    subst (SendKeyed c.args.groups.now) (sym is_send) (All-get_or (SendKeyed c.args.groups.now) e.sends.items c.in-Ok.seat.place c.index-sends-seat.result lt (sound_at c.args.groups.now all c.requires.holds (get_or us at 0) (kept e) item.2).sends_keyed)

pub couple-requires-clause-answered : goal.couple-requires-clause-answered
couple-requires-clause-answered c =
    let all = map kept c.args.all.now in
    let us = c.args.senders.now in
    let at = c.loop-at.at in
    let e = c.index-all-process.result in
    let item = item_kept c.args.all.now (get_or us at 0) e (omega (arith, c.if-process-all.false)) c.index-all-process.is in
    let is_send : c.index-sends-seat.result ≡ get_or e.sends.items c.in-Ok.seat.place c.index-sends-seat.result = c.index-sends-seat.is ∙ ap (λ (xs : List Sending). get_or xs c.in-Ok.seat.place c.index-sends-seat.result) c.as_slice-sends.ensures.value in
    let lt = slice_get_within e.sends.items c.in-Ok.seat.place c.in-Ok.ensures.item c.in-Ok.ensures.there in
    subst (Answered all) (sym is_send) (All-get_or (Answered all) e.sends.items c.in-Ok.seat.place c.index-sends-seat.result lt (sound_at c.args.groups.now all c.requires.holds (get_or us at 0) (kept e) item.2).answered)

pub couple-requires-clause-own : goal.couple-requires-clause-own
couple-requires-clause-own c =
    let all = map kept c.args.all.now in
    let us = c.args.senders.now in
    let at = c.loop-at.at in
    let e = c.index-all-process.result in
    let item = item_kept c.args.all.now (get_or us at 0) e (omega (arith, c.if-process-all.false)) c.index-all-process.is in
    let is_send : c.index-sends-seat.result ≡ get_or e.sends.items c.in-Ok.seat.place c.index-sends-seat.result = c.index-sends-seat.is ∙ ap (λ (xs : List Sending). get_or xs c.in-Ok.seat.place c.index-sends-seat.result) c.as_slice-sends.ensures.value in
    let lt = slice_get_within e.sends.items c.in-Ok.seat.place c.in-Ok.ensures.item c.in-Ok.ensures.there in
    let ok = sound_at c.args.groups.now all c.requires.holds (get_or us at 0) (kept e) item.2 in
    let mine : c.index-sends-seat.result.sender.end.process ≡ (kept e).process
    = subst (λ (s : Sending). s.sender.end.process ≡ (kept e).process) (sym is_send) (All-get_or (λ (s : Sending). s.sender.end.process ≡ (kept e).process) e.sends.items c.in-Ok.seat.place c.index-sends-seat.result lt ok.sends_own) in
    let place : c.index-sends-seat.result.sender.end.process ≡ get_or us at 0 = mine ∙ numbered_at c.args.groups.now all c.requires.holds (get_or us at 0) (kept e) item.2 in
    record { own = kept e; there = ap (slice_get all) place ∙ item.2; same = sym c.as_slice-receives.ensures.value }

pub couple-requires-clause-only : goal.couple-requires-clause-only
couple-requires-clause-only c =
    let all = map kept c.args.all.now in
    let us = c.args.senders.now in
    let at = c.loop-at.at in
    let e = c.index-all-process.result in
    let there = c.if-process-all.false in
    let item = item_kept c.args.all.now (get_or us at 0) e (omega (arith, there)) c.index-all-process.is in
    let is_send : c.index-sends-seat.result ≡ get_or e.sends.items c.in-Ok.seat.place c.index-sends-seat.result = c.index-sends-seat.is ∙ ap (λ (xs : List Sending). get_or xs c.in-Ok.seat.place c.index-sends-seat.result) c.as_slice-sends.ensures.value in
    let lt = slice_get_within e.sends.items c.in-Ok.seat.place c.in-Ok.ensures.item c.in-Ok.ensures.there in
    let at_place = slice_get-get_or e.sends.items c.in-Ok.seat.place c.index-sends-seat.result lt ∙ ap (λ (x : Sending). Some x) (sym is_send) in
    let same : c.in-Ok.ensures.item ≡ c.index-sends-seat.result = some_same c.in-Ok.ensures.item c.index-sends-seat.result (sym c.in-Ok.ensures.there ∙ at_place) in
    let wire = on_the_wire c.args.groups.now all c.requires.holds (λ k. k) us c.args.receivers.now c.args.wire c.requires.users c.args.sort (kept e).receives c.in-Ok.ensures.item c.in-Ok.seat.rest c.in-Ok.ensures.inside in
    let key : SendKeyed c.args.groups.now c.index-sends-seat.result
    = subst (SendKeyed c.args.groups.now) (sym is_send) (All-get_or (SendKeyed c.args.groups.now) e.sends.items c.in-Ok.seat.place c.index-sends-seat.result lt (sound_at c.args.groups.now all c.requires.holds (get_or us at 0) (kept e) item.2).sends_keyed) in
    only_receivers c.args.groups.now all c.requires.holds (λ k. k) us c.args.receivers.now c.args.wire c.requires.users c.args.sort c.index-sends-seat.result key (ap (λ (s : Sending). s.sender.wire) (sym same) ∙ wire)

pub loop-at-preserved : goal.loop-at-preserved
loop-at-preserved c =
    let all = map kept c.args.all.now in
    let us = c.args.senders.now in
    let at = c.loop-at.at in
    let e = c.index-all-process.result in
    let there = c.if-process-all.false in
    let item = item_kept c.args.all.now (get_or us at 0) e (omega (arith, there)) c.index-all-process.is in
    let only = only_senders c.args.groups.now all c.requires.holds (λ k. k) us c.args.receivers.now c.args.wire c.requires.users c.args.sort in
    record {
      within = omega (arith, c.loop-at-test.true);
      adds = user_passes us c.requires.senders all (from_process c.args.sort c.args.groups.now.groups c.args.wire) only at c.loop-at.rest c.in-Err.left c.args.number (kept e) c.loop-at-test.true item.0 item.1 c.in-Err.ensures c.loop-at.invariant.adds;
    }

pub returns : goal.returns
returns c =
    let all = map kept c.args.all.now in
    let only = only_senders c.args.groups.now all c.requires.holds (λ k. k) c.args.senders.now c.args.receivers.now c.args.wire c.requires.users c.args.sort in
    none_found c.args.sort c.args.groups.now all c.requires.holds c.args.wire c.loop-at.rest c.args.number
    (all_passed c.args.senders.now c.requires.senders all (from_process c.args.sort c.args.groups.now.groups c.args.wire) only c.loop-at.at c.loop-at.rest c.args.number c.loop-at.invariant.within (omega (arith, c.loop-at-test.false)) c.loop-at.invariant.adds)

pub returns-in-Ok : goal.returns-in-Ok
returns-in-Ok c =
    let all = map kept c.args.all.now in
    let us = c.args.senders.now in
    let at = c.loop-at.at in
    let e = c.index-all-process.result in
    let there = c.if-process-all.false in
    let item = item_kept c.args.all.now (get_or us at 0) e (omega (arith, there)) c.index-all-process.is in
    let is_send : c.index-sends-seat.result ≡ get_or e.sends.items c.in-Ok.seat.place c.index-sends-seat.result = c.index-sends-seat.is ∙ ap (λ (xs : List Sending). get_or xs c.in-Ok.seat.place c.index-sends-seat.result) c.as_slice-sends.ensures.value in
    let only = only_senders c.args.groups.now all c.requires.holds (λ k. k) us c.args.receivers.now c.args.wire c.requires.users c.args.sort in
    let here = at_user us c.requires.senders all (from_process c.args.sort c.args.groups.now.groups c.args.wire) only at (get_or us at 0) c.loop-at.rest c.args.number c.loop-at-test.true refl (follows_past us c.requires.senders all (from_process c.args.sort c.args.groups.now.groups c.args.wire) only at c.loop-at-test.true) c.loop-at.invariant.adds in
    couple_found c.args.sort c.args.groups.now all c.requires.holds c.args.wire c.couple.result (get_or us at 0) c.args.number c.loop-at.rest (kept e) c.in-Ok.seat c.index-sends-seat.result item.2 here c.in-Ok.ensures
    (slice_get-get_or e.sends.items c.in-Ok.seat.place c.index-sends-seat.result (slice_get_within e.sends.items c.in-Ok.seat.place c.in-Ok.ensures.item c.in-Ok.ensures.there) ∙ ap (λ (x : Sending). Some x) (sym is_send))
    c.couple.ensures
