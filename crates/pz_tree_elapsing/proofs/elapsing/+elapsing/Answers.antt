use Rattle.std.proofs.Common.{◌≡◌, ◌+◌, ◌∙◌, ℕ, List, Option, Some, None, refl, ap, sym, subst, arith, get_or}
use Rattle.std.proofs.lemmas.Result.{IfOk-weaker}
use Rattle.std.proofs.lemmas.List.{drop_more}
use Rattle.pz_nodes.specs.Arena.{find}
use Rattle.pz_tree_refreshing.specs.pz_part_queries.Standpoints.{seen_from}
use Rattle.pz_tree_refreshing.specs.pz_state.Marks.{Seen}
use Rattle.pz_tree_refreshing.specs.pz_tree_standing.Heads.{inner_frame}
use Rattle.pz_tree_refreshing.specs.pz_tree_standing.Reached.{reaches}
use Rattle.pz_tree_refreshing.specs.pz_tree_nodes.declared.node.Head as lying
use Rattle.pz_tree_refreshing.specs.pz_tree_nodes.View.{head_view}
use Rattle.pz_tree_elapsing.specs.declared.turning.Turn.{Turn}
use Rattle.pz_tree_elapsing.specs.devices.Wakes.{turn_of, WakeRule}
use Rattle.pz_tree_elapsing.specs.devices.Levels.{KidRule, KidsRule, TurnRule, written}
use Rattle.pz_tree_elapsing.proofs.Kids.{on_at_first, on_next, on_last, kid_brought}
use Rattle.pz_tree_elapsing.proofs.Levels.{node_elapsed, sleeps_at, woken_at}
use Rattle.pz_tree_elapsing.proofs.elapsing.+elapsing.Goals as goal

pub elapse_kids-loop-number-init : goal.elapse_kids-loop-number-init
elapse_kids-loop-number-init g t c = record {
  on = λ m class known. on_at_first (seen_from m c.args.here.now class c.args.state.now.held) (find c.args.nodes.now)
      (inner_frame (head_view c.args.head.now) c.args.outer.frame.0) (head_view c.args.head.now) c.args.outer.clock c.args.fuel c.args.kids.now c.none-all.result c.args.steps.now c.none-all.ensures;
  state = refl;
}

pub elapse_kids-loop-number-preserved : goal.elapse_kids-loop-number-preserved
elapse_kids-loop-number-preserved g t c =
    let kids = c.args.kids.now in
    let i = c.loop-number.number in
    let h = head_view c.args.head.now in
    let f = inner_frame h c.args.outer.frame.0 in
    let s0 : c.loop-number.state ≡ c.args.state.now = c.loop-number.invariant.state in
    record {
      on = λ m class known.
          on_next (seen_from m c.args.here.now class c.args.state.now.held) (find c.args.nodes.now) (find c.loop-number.nodes) (find c.elapse_kid.new.nodes)
          f h c.args.outer.clock c.args.fuel kids i (get_or kids i None) c.loop-number.all c.in_ok-kept.kept c.in_ok-all.all c.args.steps.now c.loop-number.steps c.elapse_kid.new.steps
          (drop_more kids i None (omega arith)) c.in_ok-all.ensures
          (subst (λ (s : Seen). KidRule (seen_from m c.args.here.now class s.held) (find c.loop-number.nodes) (find c.elapse_kid.new.nodes) f h c.args.outer.clock i c.args.fuel (get_or kids i None) c.in_ok-kept.kept c.loop-number.steps c.elapse_kid.new.steps) s0
          (c.in_ok-kept.ensures.rule m class known))
          (c.loop-number.invariant.on m class known);
      state = c.elapse_kid.ensures.state ∙ s0;
    }

pub elapse_kids-returns-clause-rule : goal.elapse_kids-returns-clause-rule
elapse_kids-returns-clause-rule g t c m class known =
    on_last (seen_from m c.args.here.now class c.args.state.now.held) (find c.args.nodes.now) (find c.loop-number.nodes)
    (inner_frame (head_view c.args.head.now) c.args.outer.frame.0) (head_view c.args.head.now) c.args.outer.clock c.args.fuel c.args.kids.now c.loop-number.number c.loop-number.all c.args.steps.now c.loop-number.steps
    (omega (arith, c.loop-number-test.false)) (c.loop-number.invariant.on m class known)

pub elapse_at-returns-then-not-wakes-clause-rule : goal.elapse_at-returns-then-not-wakes-clause-rule
elapse_at-returns-then-not-wakes-clause-rule g t c m class known =
    let was = c.in-Some.node.now in
    sleeps_at c.steady_terms_keep_summaries.ensures.tests c.still_right.ensures.computed c.still_right.ensures.computed_sound c.unwoken_nodes_stay.ensures.calm c.unwoken_nodes_stay.ensures.steady
    (seen_from m c.args.here.now class c.args.state.now.held) (find c.args.nodes.now) c.args.spot.frame.0 c.args.spot.clock c.args.fuel c.args.spot.key was.what.kept c.args.steps.now c.get.new.steps was
    (sym c.in-Some.ensures.value) refl (sym c.wakes.ensures ∙ c.if-not-wakes.true) c.in-Some.ensures.ticks

pub elapse_at-returns-clause-rule : goal.elapse_at-returns-clause-rule
elapse_at-returns-clause-rule g t c =
    let was = c.in-Some.node.now in
    IfOk-weaker c.elapse_node.result _ _ (λ k rule m class known.
    woken_at (seen_from m c.args.here.now class c.args.state.now.held) (find c.args.nodes.now) (find c.elapse_node.new.nodes) c.args.spot.frame.0 c.args.spot.clock c.args.fuel c.args.spot.key k was.what.kept
    c.args.steps.now c.get.new.steps c.elapse_node.new.steps was (sym c.in-Some.ensures.value) refl (sym c.wakes.ensures ∙ c.if-not-wakes.false) c.in-Some.ensures.ticks (rule m class known)) c.elapse_node.ensures.rule

pub elapse_node-returns-clause-rule : goal.elapse_node-returns-clause-rule
elapse_node-returns-clause-rule g t c m class known =
    let b = seen_from m c.args.here.now class c.args.state.now.held in
    let f = c.args.spot.frame.0 in
    let clock = c.args.spot.clock in
    let key = c.args.spot.key in
    let was = c.in-Some-set.node in
    let h = head_view was.what.head in
    let woken = c.in_ok-woken.woken in
    let now = head_view woken.head in
    let first = c.in_ok-stayed.stayed in
    let after = c.in_ok-all.all in
    let m1 = find c.set.new.self in
    let n1 = find c.elapse_kids.new.nodes in
    let n2 = find c.turned.new.nodes in
    let n = find c.put_back.new.nodes in
    let mid = c.elapse_kids.new.steps in
    let late = c.turned.new.steps in
    let kept = c.written-kept.result in
    let head_is : c.into_head-head.result ≡ was.what.head = c.into_head-head.ensures in
    let s0 : c.elapse_kids.new.state ≡ c.args.state.now = c.elapse_kids.ensures.state in
    let s1 : c.wake.new.state ≡ c.args.state.now = c.wake.ensures.state ∙ s0 in
    node_elapsed b (find c.args.nodes.now) m1 n1 n2 n f clock c.args.fuel c.in-Some.less key was woken.head woken.kept first after kept c.hollow.result c.args.steps.now mid late c.put_back.new.steps
    (omega (arith, c.in-Some.ensures)) (sym c.in-Some-set.ensures.value) c.in-Some-set.ensures.updates.changed c.in-Some-set.ensures.updates.others
    (subst (λ (z : lying.Head). KidsRule b m1 n1 (inner_frame (head_view z) f) (head_view z) clock 0 c.in-Some.less was.kids first (c.args.steps.now + 1) mid) head_is
    (subst (λ (z : ℕ). KidsRule b m1 n1 (inner_frame (head_view c.into_head-head.result) f) (head_view c.into_head-head.result) clock 0 c.in-Some.less was.kids first z mid) c.in-Some-set.ensures.ticks
    (subst (λ (z : List (Option ℕ)). KidsRule b m1 n1 (inner_frame (head_view c.into_head-head.result) f) (head_view c.into_head-head.result) clock 0 c.in-Some.less z first c.set.new.steps mid) c.as_slice-keys.ensures
    (c.in_ok-stayed.ensures.rule m class known))))
    (λ a d time seen clocks. subst (λ (z : lying.Head). WakeRule a d f time (head_view z) was.what.kept now woken.kept) head_is
    (c.in_ok-woken.ensures.wakes m class known a d time (seen ∙ ap (λ (s : Seen). seen_from m c.args.here.now class s.held) (sym s0)) clocks))
    (subst (λ (z : Turn). TurnRule z b n1 n2 (inner_frame now f) now clock was.kids first after mid late)
    (c.turn_of-turn.ensures ∙ ap (λ z. turn_of z now) (c.reaches-was_open.ensures ∙ ap (λ (z : lying.Head). reaches (head_view z) 0) head_is))
    (subst (λ (z : List (Option ℕ)). TurnRule c.turn_of-turn.result b n1 n2 (inner_frame now f) now clock z first after mid late) c.as_slice-keys.ensures
    (subst (λ (s : Seen). TurnRule c.turn_of-turn.result (seen_from m c.args.here.now class s.held) n1 n2 (inner_frame now f) now clock c.as_slice-keys.result.now first after mid late) s1
    (c.in_ok-all.ensures.rule m class known))))
    (c.written-kept.ensures ∙ (λ i. written was.what.kept (c.asks-asks.ensures i) (c.in_ok-join.ensures i)))
    (λ e. let u = c.put_back.ensures.put e in
    (subst (λ (z : lying.Head). n key ≡ Some (record { what = record { head = z; kept = kept }; kids = was.kids })) c.into_head-head-2.ensures u.changed, u.others))
    c.put_back.ensures.ticks

pub elapse_kid-returns-clause-rule : goal.elapse_kid-returns-clause-rule
elapse_kid-returns-clause-rule g t c m class known =
    let h = head_view c.args.head.now in
    kid_brought (seen_from m c.args.here.now class c.args.state.now.held) (find c.args.nodes.now) (inner_frame h c.args.outer.frame.0) h c.args.outer.clock c.args.number c.args.fuel c.args.kid c.later.result c.args.steps.now
    (find c.elapse_at.new.nodes) c.in-Some.key c.frame_inside.result.0 c.clock_inside.result c.behind_inside.result c.in_ok-kept.kept c.elapse_at.new.steps
    c.in-Some.is (sym c.reaches.ensures ∙ c.if-not-reaches.false) c.frame_inside.ensures c.clock_inside.ensures c.behind_inside.ensures (c.in_ok-kept.ensures.rule m class known) c.later.ensures
