-- Process by process, of those that ask on the wire.
use Rattle.std.proofs.Common.{◌≡◌, ◌+◌, ◌++◌, ◌∙◌, ap, sym, subst, List, length, get_or, arith}
use Rattle.std.specs.Prelude.{All, map}
use Rattle.std.specs.List.{flat_map}
use Rattle.std.proofs.lemmas.List.{length-append}
use Rattle.pz_match.specs.declared.rows.Row.{Row}
use Rattle.pz_match.specs.declared.kept.Receiving.{Receiving}
use Rattle.pz_match.specs.Judging.{Verdicts}
use Rattle.pz_match.specs.devices.Kept.{Kept, kept}
use Rattle.pz_match.specs.devices.Asking.{asked, asked_in, MayAsk}
use Rattle.pz_match.proofs.Asked.{stays_next, says_same, may_ask, may_ask_in, asked_own, asked_other}
use Rattle.pz_match.proofs.Askers.{none_there, user_asked, user_quiet, all_asked_for, only_these}
use Rattle.pz_match.proofs.asking.ask_all.Goals as goal

pub ask-requires : goal.ask-requires
ask-requires g c =
    let there = c.if-process-all.false in
    subst (λ (rs : List Receiving). All (MayAsk g.J.Judge.takes c.loop-at.judge c.args.sender.now c.args.group) rs) (sym c.as_slice-receives.ensures.value)
    (may_ask g.J.Judge.takes g.J.Judge.verdict g.J.Judge.lent c.args.judge.now c.loop-at.judge c.loop-at.invariant.stays c.args.sender.now c.args.group c.index-all-process.result.receives.items
    (may_ask_in g.J.Judge.takes c.args.judge.now c.args.sender.now c.args.group c.args.all.now (get_or c.args.askers.now c.loop-at.at 0) c.index-all-process.result (omega (arith, there)) c.index-all-process.is c.if-offers-sender.false c.requires.takes))

pub loop-at-preserved-then-process-all : goal.loop-at-preserved-then-process-all
loop-at-preserved-then-process-all g c =
    let says = g.J.Judge.verdict c.args.judge.now in
    let past_all = c.if-process-all.true in
    record {
      within = omega (arith, c.loop-at-test.true);
      rows =
          none_there (asked_in says c.args.sender.now c.args.group) c.args.askers.now c.requires.increasing c.args.all.now (only_these says c.args.sender.now c.args.group c.args.askers.now c.args.all.now c.requires.only)
          c.loop-at.at c.loop-at.rows _ c.loop-at-test.true (omega (arith, past_all)) c.loop-at.invariant.rows;
      stays = c.loop-at.invariant.stays;
      count = c.loop-at.invariant.count;
    }

pub loop-at-preserved-then-offers-sender : goal.loop-at-preserved-then-offers-sender
loop-at-preserved-then-offers-sender g c =
    let says = g.J.Judge.verdict c.args.judge.now in
    let there = c.if-process-all.false in
    let e = c.index-all-process.result in
    record {
      within = omega (arith, c.loop-at-test.true);
      rows =
          user_quiet (asked_in says c.args.sender.now c.args.group) c.args.askers.now c.requires.increasing c.args.all.now (only_these says c.args.sender.now c.args.group c.args.askers.now c.args.all.now c.requires.only)
          c.loop-at.at e c.loop-at.rows _ c.loop-at-test.true (omega (arith, there)) c.index-all-process.is (asked_own says c.args.sender.now c.args.group (kept e) c.if-offers-sender.true) c.loop-at.invariant.rows;
      stays = c.loop-at.invariant.stays;
      count = c.loop-at.invariant.count;
    }

pub loop-at-preserved : goal.loop-at-preserved
loop-at-preserved g c =
    let s = c.args.sender.now in
    let e = c.index-all-process.result in
    let says = g.J.Judge.verdict c.args.judge.now in
    let there = c.if-process-all.false in
    let f : Kept → List Row = asked_in says s c.args.group in
    let same = says_same c.loop-at.invariant.stays in
    let more : asked (g.J.Judge.verdict c.loop-at.judge) s c.args.group e.process c.as_slice-receives.result.now ≡ f (kept e)
    = ap (λ (v : Verdicts). asked v s c.args.group e.process c.as_slice-receives.result.now) same
    ∙ (ap (asked says s c.args.group e.process) c.as_slice-receives.ensures.value ∙ sym (asked_other says s c.args.group (kept e) c.if-offers-sender.false)) in
    let longer : length c.ask.new.rows ≡ length c.loop-at.rows + length (asked (g.J.Judge.verdict c.loop-at.judge) s c.args.group e.process c.as_slice-receives.result.now)
    = ap length c.in_ok-ask.ensures.rows ∙ length-append c.loop-at.rows (asked (g.J.Judge.verdict c.loop-at.judge) s c.args.group e.process c.as_slice-receives.result.now) in
    record {
      within = omega (arith, c.loop-at-test.true);
      rows =
          user_asked f c.args.askers.now c.requires.increasing c.args.all.now (only_these says s c.args.group c.args.askers.now c.args.all.now c.requires.only)
          c.loop-at.at e c.loop-at.rows c.ask.new.rows _ c.loop-at-test.true (omega (arith, there)) c.index-all-process.is (c.in_ok-ask.ensures.rows ∙ ap (λ (xs : List Row). c.loop-at.rows ++ xs) more) c.loop-at.invariant.rows;
      stays = stays_next c.loop-at.invariant.stays c.in_ok-ask.ensures.stays;
      count = let a = c.in_ok-ask.ensures.asked in let b = c.loop-at.invariant.count in omega (arith, a, b, longer);
    }

pub returns-clause-rows : goal.returns-clause-rows
returns-clause-rows g c =
    let says = g.J.Judge.verdict c.args.judge.now in
    all_asked_for (asked_in says c.args.sender.now c.args.group) c.args.askers.now c.requires.increasing c.args.all.now (only_these says c.args.sender.now c.args.group c.args.askers.now c.args.all.now c.requires.only)
    c.loop-at.at c.loop-at.rows _ c.loop-at.invariant.within (omega (arith, c.loop-at-test.false)) c.loop-at.invariant.rows

pub returns-clause-asked : goal.returns-clause-asked
returns-clause-asked g c =
    let says = g.J.Judge.verdict c.args.judge.now in
    let rows : c.loop-at.rows ≡ c.args.rows.now ++ flat_map (asked_in says c.args.sender.now c.args.group) (map kept c.args.all.now)
    = all_asked_for (asked_in says c.args.sender.now c.args.group) c.args.askers.now c.requires.increasing c.args.all.now (only_these says c.args.sender.now c.args.group c.args.askers.now c.args.all.now c.requires.only)
    c.loop-at.at c.loop-at.rows _ c.loop-at.invariant.within (omega (arith, c.loop-at-test.false)) c.loop-at.invariant.rows in
    let long : length c.loop-at.rows ≡ length c.args.rows.now + length (flat_map (asked_in says c.args.sender.now c.args.group) (map kept c.args.all.now))
    = ap length rows ∙ length-append c.args.rows.now (flat_map (asked_in says c.args.sender.now c.args.group) (map kept c.args.all.now)) in
    let count = c.loop-at.invariant.count in
    omega (arith, count, long)
