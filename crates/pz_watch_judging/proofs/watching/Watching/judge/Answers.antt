use Rattle.std.proofs.Common.{◌≡◌, List, [], ◌∷◌, ◌++◌, length, drop, sym, subst, ◌∙◌, arith}
use Rattle.std.proofs.lemmas.List.{take_at}
use Rattle.pz_watch.specs.declared.watch.Watch.{Watch}
use Rattle.pz_watch.specs.devices.Standing.{StandForEach}
use Rattle.pz_watch.specs.SpotView.{point_of}
use Rattle.pz_watch_judging.proofs.Judged.{broken_now, broken_before}
use Rattle.pz_watch_judging.proofs.watching.Watching.judge.Goals as goal

pub returns-then-branch-clause-judged : goal.returns-then-branch-clause-judged
returns-then-branch-clause-judged g c = λ ws ps h order.
    let stand = subst (λ (watches : List Watch). StandForEach watches ws ps) (sym c.as_mut_slice.ensures.value) h.stand in
    let now = c.judge_each.new.watches in
    let long : length now ≡ c.args.self.now.watches.len = omega (arith, c.judge_each.auto.watches, c.as_mut_slice.ensures.len) in
    let kept = take_at now (drop (length now) c.args.self.now.watches.items) c.args.self.now.watches.len long in record {
      stand = subst (λ (watches : List Watch). StandForEach watches ws (ps ++ point_of c.args.spot.now ∷ [])) (sym kept) (c.in_ok-judge_each.ensures.stand ws ps stand order);
      broken = broken_now c.meaning_stays.ensures ws ps (point_of c.args.spot.now) (sym (c.in_ok-judge_each.ensures.broken ws ps stand order) ∙ c.if-branch.true);
    }

pub returns-else-branch-clause-judged : goal.returns-else-branch-clause-judged
returns-else-branch-clause-judged g c = λ ws ps h order.
    let stand = subst (λ (watches : List Watch). StandForEach watches ws ps) (sym c.as_mut_slice.ensures.value) h.stand in
    let now = c.judge_each.new.watches in
    let long : length now ≡ c.args.self.now.watches.len = omega (arith, c.judge_each.auto.watches, c.as_mut_slice.ensures.len) in
    let kept = take_at now (drop (length now) c.args.self.now.watches.items) c.args.self.now.watches.len long in record {
      stand = subst (λ (watches : List Watch). StandForEach watches ws (ps ++ point_of c.args.spot.now ∷ [])) (sym kept) (c.in_ok-judge_each.ensures.stand ws ps stand order);
      broken = broken_before c.meaning_stays.ensures ws ps (point_of c.args.spot.now) c.args.self.now.broken (sym (c.in_ok-judge_each.ensures.broken ws ps stand order) ∙ c.if-branch.false) h.broken;
    }
