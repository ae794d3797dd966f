-- One process more is asked for.
use Rattle.std.proofs.Common.{◌≡◌, ◌≤◌, ◌+◌, ◌++◌, ◌<◌, ◌∙◌, ap, sym, subst, refl, ℕ, List, Some, length, get_or, set, take, drop, arith}
use Rattle.std.specs.Prelude.{map, sum_by, All, Contains}
use Rattle.std.specs.List.{slice_get}
use Rattle.std.proofs.lemmas.List.{length-map, map-set, get_or_default}
use Rattle.std.proofs.lemmas.List.Elements.{All-weaker}
use Rattle.std.proofs.lemmas.List.Sums.{sum_by_more}
use Rattle.pz_match.specs.declared.kept.Sending.{Sending}
use Rattle.pz_match.specs.declared.kept.Receiving.{Receiving}
use Rattle.pz_match.specs.declared.kept.Offers.{Offers}
use Rattle.pz_match.specs.Judging.{Verdicts}
use Rattle.pz_match.specs.devices.Kept.{Kept, kept}
use Rattle.pz_match.specs.devices.Tallies.{part_of, total_of}
use Rattle.pz_match.specs.devices.Asking.{asked, MayAsk}
use Rattle.pz_match.specs.devices.Seeking.{past, OnlyAt}
use Rattle.pz_match.specs.devices.Updating.{TouchesOnly, renewed_in}
use Rattle.pz_match.proofs.Grouped.{follows_next}
use Rattle.pz_match.proofs.Asked.{stays_next, says_same, may_ask}
use Rattle.pz_match.proofs.Changing.{to_place, nowhere, all_changed}
use Rattle.pz_match.proofs.Couples.{item_kept}
use Rattle.pz_match.proofs.Reaching.{at_user, follows_past, no_user, past_next, all_passed}
use Rattle.pz_match.proofs.Replacing.{total_set}
use Rattle.pz_match.proofs.Renewals.{moves_set, next_mapped, item_first, untouched_same, untouched_asks}
use Rattle.pz_match.proofs.renewing.renew_all.Goals as goal

module _ (us : List ℕ) (first : List Kept) (p : ℕ) (rs : List Receiving) (says : Verdicts) (only : TouchesOnly us p rs first) where
  untouched : (k : ℕ) (e : Kept) → slice_get first k ≡ Some e → (Contains us k → ⊥) → renewed_in says p rs e ≡ e
  untouched k e is none = untouched_same says p rs e (only k e is none)

  unasked : OnlyAt us first (λ e. sum_by (λ s. length (asked says s.sender s.group p rs)) e.sends)
  unasked k e is none = untouched_asks says p rs e.sends (only k e is none)

pub renew_offers-requires-clause-groups : goal.renew_offers-requires-clause-groups
renew_offers-requires-clause-groups g c =
    let p = c.args.process in
    let rs = c.args.receives.now in
    let us = c.args.places.now in
    let first = map kept c.args.all.now in
    let now = c.loop-at.all in
    let i = get_or us c.loop-at.at 0 in
    let inv = c.loop-at.invariant in
    let says : Verdicts = g.J.Judge.verdict c.args.judge.now in
    let there = c.if-place-all.false in
    let here : i < length now = omega (arith, there) in
    let lt : i < length first = omega (arith, there, c.loop-at.auto.all, length-map c.args.all.now kept) in
    let e : Offers = get_or now i c.index-all-place.result in
    let is_now : e ≡ get_or now i e = get_or_default now i c.index-all-place.result e here in
    let before = inv.all ∙ to_place us c.requires.increasing (renewed_in says p rs) first (untouched us first p rs says c.requires.only) c.loop-at.at c.loop-at-test.true in
    let item = item_first (renewed_in says p rs) now first i e is_now before here lt in
    All-weaker (λ (s : Sending). s.group < length c.args.groups.now.groups) (λ (s : Sending). s.group < length c.loop-at.groups.groups) (λ s lt. omega (arith, lt, inv.groups)) e.sends.items
    (subst (λ (e : Kept). All (λ (s : Sending). s.group < length c.args.groups.now.groups) e.sends) (sym item.1) (c.requires.groups i (kept e) item.0))

pub renew_offers-requires-clause-takes : goal.renew_offers-requires-clause-takes
renew_offers-requires-clause-takes g c =
    let p = c.args.process in
    let rs = c.args.receives.now in
    let us = c.args.places.now in
    let first = map kept c.args.all.now in
    let now = c.loop-at.all in
    let i = get_or us c.loop-at.at 0 in
    let inv = c.loop-at.invariant in
    let says : Verdicts = g.J.Judge.verdict c.args.judge.now in
    let there = c.if-place-all.false in
    let here : i < length now = omega (arith, there) in
    let lt : i < length first = omega (arith, there, c.loop-at.auto.all, length-map c.args.all.now kept) in
    let e : Offers = get_or now i c.index-all-place.result in
    let is_now : e ≡ get_or now i e = get_or_default now i c.index-all-place.result e here in
    let before = inv.all ∙ to_place us c.requires.increasing (renewed_in says p rs) first (untouched us first p rs says c.requires.only) c.loop-at.at c.loop-at-test.true in
    let item = item_first (renewed_in says p rs) now first i e is_now before here lt in
    All-weaker (λ (s : Sending). All (MayAsk g.J.Judge.takes c.args.judge.now s.sender s.group) rs) (λ (s : Sending). All (MayAsk g.J.Judge.takes c.loop-at.judge s.sender s.group) rs)
    (λ s may. may_ask g.J.Judge.takes g.J.Judge.verdict g.J.Judge.lent c.args.judge.now c.loop-at.judge inv.stays s.sender s.group rs may) e.sends.items
    (subst (λ (e : Kept). All (λ (s : Sending). All (MayAsk g.J.Judge.takes c.args.judge.now s.sender s.group) rs) e.sends) (sym item.1) (c.requires.takes i (kept e) item.0))

pub loop-at-preserved-then-place-all : goal.loop-at-preserved-then-place-all
loop-at-preserved-then-place-all g c =
    let p = c.args.process in
    let rs = c.args.receives.now in
    let us = c.args.places.now in
    let first = map kept c.args.all.now in
    let inv = c.loop-at.invariant in
    let says : Verdicts = g.J.Judge.verdict c.args.judge.now in
    let over = c.if-place-all.true in
    let behind : length first ≤ get_or us c.loop-at.at 0 = omega (arith, over, c.loop-at.auto.all, length-map c.args.all.now kept) in
    let f = λ (e : Kept). sum_by (λ (s : Sending). length (asked says s.sender s.group p rs)) e.sends in
    let more = no_user us c.requires.increasing first f (unasked us first p rs says c.requires.only) c.loop-at.at (get_or us c.loop-at.at 0) 0 (sum_by f (take (past us c.loop-at.at) first)) c.loop-at-test.true refl behind (omega arith) in
    record {
      within = omega (arith, c.loop-at-test.true);
      all = inv.all ∙ nowhere us c.requires.increasing (renewed_in says p rs) first (untouched us first p rs says c.requires.only) c.loop-at.at c.loop-at-test.true behind;
      follows = inv.follows;
      moves = inv.moves;
      groups = inv.groups;
      stays = inv.stays;
      count = let b = inv.count in omega (arith, b, more);
    }

pub loop-at-preserved : goal.loop-at-preserved
loop-at-preserved g c =
    let p = c.args.process in
    let rs = c.args.receives.now in
    let us = c.args.places.now in
    let first = map kept c.args.all.now in
    let now = c.loop-at.all in
    let i = get_or us c.loop-at.at 0 in
    let inv = c.loop-at.invariant in
    let says : Verdicts = g.J.Judge.verdict c.args.judge.now in
    let there = c.if-place-all.false in
    let here : i < length now = omega (arith, there) in
    let lt : i < length first = omega (arith, there, c.loop-at.auto.all, length-map c.args.all.now kept) in
    let e : Offers = get_or now i c.index-all-place.result in
    let is_now : e ≡ get_or now i e = get_or_default now i c.index-all-place.result e here in
    let before = inv.all ∙ to_place us c.requires.increasing (renewed_in says p rs) first (untouched us first p rs says c.requires.only) c.loop-at.at c.loop-at-test.true in
    let item = item_first (renewed_in says p rs) now first i e is_now before here lt in
    let done = c.in_ok-renew_offers.ensures in
    let same : g.J.Judge.verdict c.loop-at.judge ≡ says = says_same inv.stays in
    let kept_item = item_kept now i e here is_now in
    let is_new : kept c.renew_offers.new.offers ≡ renewed_in says p rs (kept e) = done.offers ∙ ap (λ (v : Verdicts). renewed_in v p rs (kept e)) same in
    let written : map kept (set now i c.renew_offers.new.offers) ≡ set (map kept now) i (kept c.renew_offers.new.offers) = map-set kept now i c.renew_offers.new.offers in
    let questions_of = λ (v : Verdicts) (k : Kept). sum_by (λ (s : Sending). length (asked v s.sender s.group p rs)) k.sends in
    let up_to = at_user us c.requires.increasing first (questions_of says) (unasked us first p rs says c.requires.only) c.loop-at.at i 0 (sum_by (questions_of says) (take (past us c.loop-at.at) first)) c.loop-at-test.true refl
    (follows_past us c.requires.increasing first (questions_of says) (unasked us first p rs says c.requires.only) c.loop-at.at c.loop-at-test.true) (omega arith) in
    let more : sum_by (questions_of says) (take (i + 1) first) ≡ sum_by (questions_of says) (take i first) + questions_of says (kept e)
    = sum_by_more (questions_of says) first i (kept e) lt ∙ ap (λ (k : Kept). sum_by (questions_of says) (take i first) + questions_of says k) (sym item.1) in
    let next : sum_by (questions_of says) (take (past us (c.loop-at.at + 1)) first) ≡ sum_by (questions_of says) (take (i + 1) first) = ap (λ k. sum_by (questions_of says) (take k first)) (past_next us c.requires.increasing c.loop-at.at) in
    let questions : questions_of (g.J.Judge.verdict c.loop-at.judge) (kept e) ≡ questions_of says (kept e) = ap (λ (v : Verdicts). questions_of v (kept e)) same in
    record {
      within = omega (arith, c.loop-at-test.true);
      all =
          written
          ∙ ((λ k. set (before k) i (is_new k))
          ∙ (next_mapped (renewed_in says p rs) first i lt (kept e) item.1 ∙ ap (λ k. map (renewed_in says p rs) (take k first) ++ drop k first) (sym (past_next us c.requires.increasing c.loop-at.at))));
      follows = follows_next inv.follows done.follows;
      moves =
          moves_set c.args.groups.now c.loop-at.groups c.renew_offers.new.groups (total_of first) (total_of (map kept now)) (total_of (map kept (set now i c.renew_offers.new.offers))) (part_of (kept e)) (part_of (kept c.renew_offers.new.offers)) inv.moves done.moves
          (λ n. rw written (total_set n (map kept now) i (kept e) (kept c.renew_offers.new.offers) kept_item.0 kept_item.1));
      groups = done.count ∙ inv.groups;
      stays = stays_next inv.stays done.stays;
      count = let a = done.asked in let b = inv.count in omega (arith, a, b, questions, more, next, up_to);
    }

pub returns-clause-all : goal.returns-clause-all
returns-clause-all g c =
    let says : Verdicts = g.J.Judge.verdict c.args.judge.now in
    let first = map kept c.args.all.now in
    c.loop-at.invariant.all
    ∙ all_changed c.args.places.now c.requires.increasing (renewed_in says c.args.process c.args.receives.now) first (untouched c.args.places.now first c.args.process c.args.receives.now says c.requires.only) c.loop-at.at c.loop-at.invariant.within (omega (arith, c.loop-at-test.false))

pub returns-clause-asked : goal.returns-clause-asked
returns-clause-asked g c =
    let says : Verdicts = g.J.Judge.verdict c.args.judge.now in
    let first = map kept c.args.all.now in
    let f = λ (e : Kept). sum_by (λ (s : Sending). length (asked says s.sender s.group c.args.process c.args.receives.now)) e.sends in
    let whole = all_passed c.args.places.now c.requires.increasing first f (unasked c.args.places.now first c.args.process c.args.receives.now says c.requires.only) c.loop-at.at 0 (sum_by f (take (past c.args.places.now c.loop-at.at) first)) c.loop-at.invariant.within (omega (arith, c.loop-at-test.false)) (omega arith) in
    let count = c.loop-at.invariant.count in
    omega (arith, count, whole)
