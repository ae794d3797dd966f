-- One watch after the other judges the point.
use Rattle.std.proofs.Common.{ℕ, [], ◌∷◌, ◌++◌, get_or, set, inl, inr, sym, subst, arith, add-one}
use Rattle.std.proofs.lemmas.Result.{err_from_is_err_and}
use Rattle.pz_watch.specs.SpotView.{point_of}
use Rattle.pz_watch_judging.proofs.Halves.{half_turn}
use Rattle.pz_watch_judging.proofs.Judged.{Halfway, halfway_none, halfway_more, halfway_cut, halfway_end}
use Rattle.pz_watch_judging.proofs.judging.judge_each.Goals as goal
use Rattle.pz_watch_judging.proofs.judging.judge_each.Goals.{then-branch, else-branch}

pub loop-watch-init : goal.loop-watch-init
loop-watch-init g c = λ ws ps stand order. halfway_none ws ps (point_of c.args.spot.now) c.pieces_join.ensures.nothing c.args.watches.now (g.W.Sink.state c.args.out.now) stand

pub loop-watch-preserved : goal.loop-watch-preserved
loop-watch-preserved g c = λ ws ps stand order.
    let x = point_of c.args.spot.now in
    let all = ps ++ x ∷ [] in
    let k = c.loop-watch.watch-index in
    let item = c.watch-item.result in
    let h = c.loop-watch.invariant ws ps stand order in
    let turn = half_turn k c.loop-watch.watches ws ps all item (omega (arith, c.loop-watch-test.true)) h.half in
    let done = c.in_ok-judge_one.ensures in
    subst (λ (n : ℕ). Halfway n (set c.loop-watch.watches k c.judge_one.new.watch) ws ps x (g.W.Sink.state c.args.out.now) (g.W.Sink.state c.judge_one.new.out) c.if-branch.broken) (sym (add-one k))
    (halfway_more ws ps x k c.loop-watch.watches (g.W.Sink.state c.args.out.now) (g.W.Sink.state c.loop-watch.out) c.loop-watch.broken h (get_or c.loop-watch.watches k item) turn c.pieces_join.ensures.joins
    c.judge_one.new.watch c.in_ok-judge_one.field-0 c.if-branch.broken (g.W.Sink.state c.judge_one.new.out)
    (done.wrote turn.named ps turn.stands order) (done.stands turn.named ps turn.stands order) (done.broken turn.named ps turn.stands order)
    (elim c.if-branch.branch [ then-branch w ↦ inl (w.if-branch.true, w.broken-is) | else-branch w ↦ inr (w.if-branch.false, w.broken-is) ]))

pub returns-in_err-judge_one-clause-wrote : goal.returns-in_err-judge_one-clause-wrote
returns-in_err-judge_one-clause-wrote g c = λ ws ps stand order.
    let x = point_of c.args.spot.now in
    let all = ps ++ x ∷ [] in
    let k = c.loop-watch.watch-index in
    let item = c.watch-item.result in
    let h = c.loop-watch.invariant ws ps stand order in
    let turn = half_turn k c.loop-watch.watches ws ps all item (omega (arith, c.loop-watch-test.true)) h.half in
    let error = err_from_is_err_and c.from_residual.result c.from_residual.ensures.1 in
    rw (error.1, error.2)
    (halfway_cut ws ps x k c.loop-watch.watches (g.W.Sink.state c.args.out.now) (g.W.Sink.state c.loop-watch.out) c.loop-watch.broken h (get_or c.loop-watch.watches k item) turn c.pieces_join.ensures.joins c.pieces_join.ensures.halts
    (g.W.Sink.state c.judge_one.new.out) c.in_err-judge_one.field-0.0 (c.in_err-judge_one.ensures.wrote turn.named ps turn.stands order))

pub returns-clause-wrote : goal.returns-clause-wrote
returns-clause-wrote g c = λ ws ps stand order.
    (halfway_end ws ps (point_of c.args.spot.now) c.loop-watch.watch-index c.loop-watch.watches (g.W.Sink.state c.args.out.now) (g.W.Sink.state c.loop-watch.out) c.loop-watch.broken
    (omega (arith, c.loop-watch-test.false)) (c.loop-watch.invariant ws ps stand order)).wrote

pub returns-clause-stand : goal.returns-clause-stand
returns-clause-stand g c = λ ws ps stand order.
    (halfway_end ws ps (point_of c.args.spot.now) c.loop-watch.watch-index c.loop-watch.watches (g.W.Sink.state c.args.out.now) (g.W.Sink.state c.loop-watch.out) c.loop-watch.broken
    (omega (arith, c.loop-watch-test.false)) (c.loop-watch.invariant ws ps stand order)).stand

pub returns-clause-broken : goal.returns-clause-broken
returns-clause-broken g c = λ ws ps stand order.
    (halfway_end ws ps (point_of c.args.spot.now) c.loop-watch.watch-index c.loop-watch.watches (g.W.Sink.state c.args.out.now) (g.W.Sink.state c.loop-watch.out) c.loop-watch.broken
    (omega (arith, c.loop-watch-test.false)) (c.loop-watch.invariant ws ps stand order)).flagged
