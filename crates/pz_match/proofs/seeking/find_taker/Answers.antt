-- Process by process, of those that use the wire.
use Rattle.std.proofs.Common.{refl, length, get_or, arith}
use Rattle.std.specs.Prelude.{map}
use Rattle.std.proofs.lemmas.List.{length-map}
use Rattle.pz_match.specs.devices.Kept.{kept, heard}
use Rattle.pz_match.specs.devices.Seeking.{sought}
use Rattle.pz_match.proofs.Hits.{heard_own, heard_other, taker_found, taker_none}
use Rattle.pz_match.proofs.Couples.{item_kept}
use Rattle.pz_match.proofs.Reaching.{from_below, no_user, user_passes, at_user, follows_past, all_passed}
use Rattle.pz_match.proofs.seeking.find_taker.Goals as goal

pub loop-at-init : goal.loop-at-init
loop-at-init c =
    record {
      within = c.below-at.ensures.within;
      adds =
          from_below c.args.users.now c.requires.increasing (map kept c.args.all.now) (λ e. length (sought c.args.sort (heard c.args.send.now e))) c.requires.only c.below-at.result c.args.start.place c.args.start.rest c.args.number
          c.below-at.ensures.within c.below-at.ensures.before c.below-at.ensures.behind c.requires.start;
    }

pub loop-at-preserved-then-process-all : goal.loop-at-preserved-then-process-all
loop-at-preserved-then-process-all c =
    let all = map kept c.args.all.now in
    let us = c.args.users.now in
    let at = c.loop-at.at in
    let past_all = c.if-process-all.true in
    record {
      within = omega (arith, c.loop-at-test.true);
      adds = no_user us c.requires.increasing all (λ e. length (sought c.args.sort (heard c.args.send.now e))) c.requires.only at (get_or us at 0) c.loop-at.rest c.args.number c.loop-at-test.true refl (omega (arith, past_all, length-map c.args.all.now kept)) c.loop-at.invariant.adds;
    }

pub loop-at-preserved-then-offers-send : goal.loop-at-preserved-then-offers-send
loop-at-preserved-then-offers-send c =
    let all = map kept c.args.all.now in
    let us = c.args.users.now in
    let at = c.loop-at.at in
    let e = c.index-all-process.result in
    let there = c.if-process-all.false in
    let item = item_kept c.args.all.now (get_or us at 0) e (omega (arith, there)) c.index-all-process.is in
    let none = heard_own c.args.sort all c.args.send.now (kept e) c.if-offers-send.true in
    record {
      within = omega (arith, c.loop-at-test.true);
      adds = user_passes us c.requires.increasing all (λ e. length (sought c.args.sort (heard c.args.send.now e))) c.requires.only at c.loop-at.rest c.loop-at.rest c.args.number (kept e) c.loop-at-test.true item.0 item.1 (omega (arith, none)) c.loop-at.invariant.adds;
    }

pub returns-in-Ok : goal.returns-in-Ok
returns-in-Ok c =
    let all = map kept c.args.all.now in
    let us = c.args.users.now in
    let at = c.loop-at.at in
    let e = c.index-all-process.result in
    let there = c.if-process-all.false in
    let item = item_kept c.args.all.now (get_or us at 0) e (omega (arith, there)) c.index-all-process.is in
    let only = c.requires.only in
    let here = at_user us c.requires.increasing all (λ e. length (sought c.args.sort (heard c.args.send.now e))) only at (get_or us at 0) c.loop-at.rest c.args.number c.loop-at-test.true refl (follows_past us c.requires.increasing all (λ e. length (sought c.args.sort (heard c.args.send.now e))) only at c.loop-at-test.true) c.loop-at.invariant.adds in
    taker_found c.args.sort all c.args.send.now (get_or us at 0) c.loop-at.rest c.args.number (kept e) c.in-Ok.ensures.receive c.in-Ok.hit item.2 c.if-offers-send.false here c.in-Ok.ensures

pub loop-at-preserved : goal.loop-at-preserved
loop-at-preserved c =
    let all = map kept c.args.all.now in
    let us = c.args.users.now in
    let at = c.loop-at.at in
    let e = c.index-all-process.result in
    let there = c.if-process-all.false in
    let item = item_kept c.args.all.now (get_or us at 0) e (omega (arith, there)) c.index-all-process.is in
    record {
      within = omega (arith, c.loop-at-test.true);
      adds =
          user_passes us c.requires.increasing all (λ e. length (sought c.args.sort (heard c.args.send.now e))) c.requires.only at c.loop-at.rest c.in-Err.left c.args.number (kept e) c.loop-at-test.true item.0 item.1
          (rw (heard_other c.args.sort all c.args.send.now (kept e) c.if-offers-send.false) c.in-Err.ensures) c.loop-at.invariant.adds;
    }

pub returns : goal.returns
returns c =
    let all = map kept c.args.all.now in
    taker_none c.args.sort all c.args.send.now c.loop-at.rest c.args.number
    (all_passed c.args.users.now c.requires.increasing all (λ e. length (sought c.args.sort (heard c.args.send.now e))) c.requires.only c.loop-at.at c.loop-at.rest c.args.number c.loop-at.invariant.within (omega (arith, c.loop-at-test.false)) c.loop-at.invariant.adds)
