-- One send more is asked for.
use Rattle.std.proofs.Common.{◌≡◌, ◌<◌, ◌+◌, ◌∙◌, ap, sym, List, length, get_or, set, take, arith}
use Rattle.std.specs.Prelude.{sum_by}
use Rattle.std.proofs.lemmas.List.{get_or_default}
use Rattle.std.proofs.lemmas.List.Sums.{sum_by_more}
use Rattle.pz_match.specs.declared.kept.Sending.{Sending}
use Rattle.pz_match.specs.declared.kept.Receiving.{Receiving}
use Rattle.pz_match.specs.Judging.{Verdicts}
use Rattle.pz_match.specs.devices.Tallies.{send_part, sends_part}
use Rattle.pz_match.specs.devices.Asking.{asked, renewed}
use Rattle.pz_match.proofs.Grouped.{follows_next}
use Rattle.pz_match.proofs.Asked.{stays_next, says_same}
use Rattle.pz_match.proofs.Renewals.{part_set, moves_set, next_there, next_mapped}
use Rattle.pz_match.proofs.renewing.renew_sends.Goals as goal

pub loop-place-preserved : goal.loop-place-preserved
loop-place-preserved g c =
    let p = c.args.process in
    let rs = c.args.receives.now in
    let i = c.loop-place.place in
    let first = c.args.sends.now in
    let now = c.loop-place.sends in
    let s : Sending = get_or now i c.index-sends-place.result in
    let inv = c.loop-place.invariant in
    let done = c.in_ok-renew.ensures in
    let says : Verdicts = g.J.Judge.verdict c.args.judge.now in
    let same : g.J.Judge.verdict c.loop-place.judge ≡ says = says_same inv.stays in
    let lt : i < length first = omega (arith, c.loop-place-test.true, c.loop-place.auto.sends) in
    let here : i < length now = omega (arith, lt, c.loop-place.auto.sends) in
    let is_now : s ≡ get_or now i s = get_or_default now i c.index-sends-place.result s here in
    let is_first : s ≡ get_or first i s = is_now ∙ (ap (λ (xs : List Sending). get_or xs i s) inv.sends ∙ next_there (renewed says p rs) first i lt s) in
    let is_new : c.renew.new.send ≡ renewed says p rs s = done.send ∙ ap (λ (v : Verdicts). renewed v p rs s) same in
    let more : sum_by (λ (x : Sending). length (asked says x.sender x.group p rs)) (take (i + 1) first) ≡ sum_by (λ (x : Sending). length (asked says x.sender x.group p rs)) (take i first) + length (asked says s.sender s.group p rs)
    = sum_by_more (λ (x : Sending). length (asked says x.sender x.group p rs)) first i s lt ∙ ap (λ (x : Sending). sum_by (λ (x : Sending). length (asked says x.sender x.group p rs)) (take i first) + length (asked says x.sender x.group p rs)) (sym is_first) in
    let questions : length (asked (g.J.Judge.verdict c.loop-place.judge) s.sender s.group p rs) ≡ length (asked says s.sender s.group p rs) = ap (λ (v : Verdicts). length (asked v s.sender s.group p rs)) same in
    record {
      sends = (λ k. set (inv.sends k) i (is_new k)) ∙ next_mapped (renewed says p rs) first i lt s is_first;
      follows = follows_next inv.follows done.follows;
      moves = λ (qs : List Receiving).
          moves_set c.args.groups.now c.loop-place.groups c.renew.new.groups (sends_part qs first) (sends_part qs now) (sends_part qs (set now i c.renew.new.send)) (send_part qs s) (send_part qs c.renew.new.send) (inv.moves qs) (done.moves qs)
          (λ n. part_set qs now i s c.renew.new.send n here is_now);
      groups = done.count ∙ inv.groups;
      stays = stays_next inv.stays done.stays;
      count = let a = done.asked in let b = inv.count in omega (arith, a, b, questions, more);
    }
