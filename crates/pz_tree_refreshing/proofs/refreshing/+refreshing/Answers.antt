use Rattle.std.proofs.Common.{◌≡◌, ◌∙◌, ℕ, List, Option, Some, None, refl, ap, sym, subst, arith, get_or}
use Rattle.std.proofs.lemmas.Result.{IfOk-weaker}
use Rattle.std.proofs.lemmas.List.{drop_more}
use Rattle.pz_nodes.specs.Arena.{find}
use Rattle.pz_part_queries.specs.Standpoints.{seen_from}
use Rattle.pz_tree_nodes.specs.pz_state.Marks.{Seen}
use Rattle.pz_tree_nodes.specs.pz_tree_standing.Heads.{inner_frame}
use Rattle.pz_tree_nodes.specs.declared.node.Head as lying
use Rattle.pz_tree_nodes.specs.View.{head_view}
use Rattle.pz_tree_refreshing.specs.devices.Asked.{AskRule}
use Rattle.pz_tree_refreshing.specs.devices.Levels.{KidRule, KidsRule, written}
use Rattle.pz_tree_refreshing.proofs.Kids.{on_at_first, on_next, on_last}
use Rattle.pz_tree_refreshing.proofs.Reaching.{is_not, is_so}
use Rattle.pz_tree_refreshing.proofs.Levels.{node_refreshed, still_at, asked_at}
use Rattle.pz_tree_refreshing.proofs.refreshing.+refreshing.Goals as goal

pub refresh_kids-loop-number-init : goal.refresh_kids-loop-number-init
refresh_kids-loop-number-init g t c = record {
  on = λ m class known. on_at_first (seen_from m c.args.here.now class c.args.state.now.held) (find c.args.nodes.now)
      (inner_frame (head_view c.args.head.now) c.args.outer.frame.0) (head_view c.args.head.now) c.args.outer.clock c.args.fuel c.args.kids.now c.none-all.result c.args.steps.now c.none-all.ensures;
  state = refl;
}

pub refresh_kids-loop-number-preserved : goal.refresh_kids-loop-number-preserved
refresh_kids-loop-number-preserved g t c =
    let kids = c.args.kids.now in
    let i = c.loop-number.number in
    let h = head_view c.args.head.now in
    let f = inner_frame h c.args.outer.frame.0 in
    let s0 : c.loop-number.state ≡ c.args.state.now = c.loop-number.invariant.state in
    record {
      on = λ m class known.
          on_next (seen_from m c.args.here.now class c.args.state.now.held) (find c.args.nodes.now) (find c.loop-number.nodes) (find c.refresh_kid.new.nodes)
          f h c.args.outer.clock c.args.fuel kids i (get_or kids i None) c.loop-number.all c.in_ok-kept.kept c.in_ok-all.all c.args.steps.now c.loop-number.steps c.refresh_kid.new.steps
          (drop_more kids i None (omega arith)) c.in_ok-all.ensures
          (subst (λ (s : Seen). KidRule (seen_from m c.args.here.now class s.held) (find c.loop-number.nodes) (find c.refresh_kid.new.nodes) f h c.args.outer.clock i c.args.fuel (get_or kids i None) c.in_ok-kept.kept c.loop-number.steps c.refresh_kid.new.steps) s0
          (c.in_ok-kept.ensures.rule m class known))
          (c.loop-number.invariant.on m class known);
      state = c.refresh_kid.ensures.state ∙ s0;
    }

pub refresh_kids-returns-clause-rule : goal.refresh_kids-returns-clause-rule
refresh_kids-returns-clause-rule g t c m class known =
    on_last (seen_from m c.args.here.now class c.args.state.now.held) (find c.args.nodes.now) (find c.loop-number.nodes)
    (inner_frame (head_view c.args.head.now) c.args.outer.frame.0) (head_view c.args.head.now) c.args.outer.clock c.args.fuel c.args.kids.now c.loop-number.number c.loop-number.all c.args.steps.now c.loop-number.steps
    (omega (arith, c.loop-number-test.false)) (c.loop-number.invariant.on m class known)

pub refresh_at-returns-then-not-kept-clause-rule : goal.refresh_at-returns-then-not-kept-clause-rule
refresh_at-returns-then-not-kept-clause-rule g t c m class known =
    let was = c.in-Some.node.now in
    still_at (seen_from m c.args.here.now class c.args.state.now.held) (find c.args.nodes.now) c.args.spot.frame.0 c.args.spot.clock c.args.fuel c.args.spot.key was.what.kept c.args.steps.now c.get.new.steps was
    (sym c.in-Some.ensures.value) refl (is_not was.what.kept.asks c.if-not-kept.true) c.in-Some.ensures.ticks

pub refresh_at-returns-clause-rule : goal.refresh_at-returns-clause-rule
refresh_at-returns-clause-rule g t c =
    let was = c.in-Some.node.now in
    IfOk-weaker c.refresh_node.result _ _ (λ k rule m class known.
    asked_at (seen_from m c.args.here.now class c.args.state.now.held) (find c.args.nodes.now) (find c.refresh_node.new.nodes) c.args.spot.frame.0 c.args.spot.clock c.args.fuel c.args.spot.key k was.what.kept
    c.args.steps.now c.get.new.steps c.refresh_node.new.steps was (sym c.in-Some.ensures.value) refl (is_so was.what.kept.asks c.if-not-kept.false) c.in-Some.ensures.ticks (rule m class known)) c.refresh_node.ensures.rule

pub refresh_node-returns-clause-rule : goal.refresh_node-returns-clause-rule
refresh_node-returns-clause-rule g t c m class known =
    let a = seen_from m c.args.here.now class c.args.state.now.held in
    let f = c.args.spot.frame.0 in
    let clock = c.args.spot.clock in
    let key = c.args.spot.key in
    let was = c.in-Some-set.node in
    let asked = c.in_ok-asked.asked in
    let h = head_view asked.head in
    let all = c.in_ok-all.all in
    let m1 = find c.set.new.self in
    let n1 = find c.refresh_kids.new.nodes in
    let n = find c.put_back.new.nodes in
    let mid = c.refresh_kids.new.steps in
    let kept = c.written-kept.result in
    node_refreshed a (find c.args.nodes.now) m1 n1 n f clock c.args.fuel c.in-Some.less key was asked.head asked.kept all kept c.hollow.result c.args.steps.now mid c.put_back.new.steps
    (omega (arith, c.in-Some.ensures)) (sym c.in-Some-set.ensures.value) c.in-Some-set.ensures.updates.changed c.in-Some-set.ensures.updates.others
    (subst (λ (z : lying.Head). AskRule a f clock (head_view z) h asked.kept) c.into_head.ensures (c.in_ok-asked.ensures.asked m class known))
    (subst (λ (z : ℕ). KidsRule a m1 n1 (inner_frame h f) h clock 0 c.in-Some.less was.kids all z mid) c.in-Some-set.ensures.ticks
    (subst (λ (z : List (Option ℕ)). KidsRule a m1 n1 (inner_frame h f) h clock 0 c.in-Some.less z all c.set.new.steps mid) c.as_slice-keys.ensures
    (subst (λ (s : Seen). KidsRule (seen_from m c.args.here.now class s.held) m1 n1 (inner_frame h f) h clock 0 c.in-Some.less c.as_slice-keys.result.now all c.set.new.steps mid) c.ask.ensures.state
    (c.in_ok-all.ensures.rule m class known))))
    (c.written-kept.ensures ∙ ap (written was.what.kept) c.in_ok-join.ensures)
    (λ e. let u = c.put_back.ensures.put e in
    (subst (λ (z : lying.Head). n key ≡ Some (record { what = record { head = z; kept = kept }; kids = was.kids })) c.into_head-head.ensures u.changed, u.others))
    c.put_back.ensures.ticks
