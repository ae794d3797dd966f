use Rattle.std.proofs.Common.{◌≡◌, ◌<◌, ◌≤◌, ◌+◌, [], ◌∙◌, sym, subst, ap, List, length, arith}
use Rattle.std.proofs.lemmas.List.{nil_from_length, length_push}
use Rattle.pz_classes_lineage.specs.declared.visit.Visit.{Visit}
use Rattle.pz_classes_lineage.specs.devices.Rows.{times, row}
use Rattle.pz_classes_lineage.proofs.RowCounts.{read_row}
use Rattle.pz_classes_lineage.proofs.Going.{Walked, begun, next_within, depth_of_next, goes_on, few, ended}
use Rattle.pz_classes_lineage.proofs.walk.preorder.Goals as goal

pub loop-visit-init : goal.loop-visit-init
loop-visit-init c = record {
  walked = subst (λ (vs : List Visit). Walked c.args.parents.now vs c.in_ok-stack.stack.items) (sym c.new-visits.ensures.items) (begun c.args.parents.now c.in_ok-stack.stack.items c.in_ok-stack.ensures.exact c.in_ok-stack.ensures.outermost);
  counted = c.in_ok-rows.ensures.counted;
  children = c.in_ok-rows.ensures.exact;
}

pub index-requires : goal.index-requires
index-requires c =
    let walked = subst (Walked c.args.parents.now c.loop-visit.visits.items) c.in-Some.ensures.items c.loop-visit.invariant.walked in
    let below : c.in-Some.visit.class < length c.args.parents.now = next_within c.args.parents.now _ _ _ walked in
    omega arith

pub overflow_add-visit : goal.overflow_add-visit
overflow_add-visit c =
    let walked = subst (Walked c.args.parents.now c.loop-visit.visits.items) c.in-Some.ensures.items c.loop-visit.invariant.walked in
    let deep : c.in-Some.visit.depth ≤ length c.loop-visit.visits.items = depth_of_next c.args.parents.now _ _ _ walked in
    let most : length c.loop-visit.visits.items ≤ length c.args.parents.now = few c.args.parents.now _ _ c.loop-visit.invariant.walked in
    omega arith

pub loop-visit-preserved : goal.loop-visit-preserved
loop-visit-preserved c =
    let walked = subst (Walked c.args.parents.now c.loop-visit.visits.items) c.in-Some.ensures.items c.loop-visit.invariant.walked in
    let below : c.in-Some.visit.class < length c.args.parents.now = next_within c.args.parents.now _ _ _ walked in
    let here : row c.in_ok-rows.rows.items c.in-Some.visit.class ≡ c.deref.result.now = read_row c.in_ok-rows.rows.items c.in-Some.visit.class c.index.result.now (omega arith) c.index.ensures ∙ sym c.deref.ensures.value in
    record {
      walked = goes_on c.args.parents.now _ _ _ walked c.push.new.self.items c.push_visits.new.stack.items c.deref.result.now c.in_ok-push.ensures.items c.in_ok-push_visits.ensures (λ k. sym (ap (times k) here) ∙ c.loop-visit.invariant.children c.in-Some.visit.class k);
      counted = c.loop-visit.invariant.counted;
      children = c.loop-visit.invariant.children;
    }

pub loop-visit-smaller : goal.loop-visit-smaller
loop-visit-smaller c =
    let walked = (loop-visit-preserved c).walked in
    let most : length c.push.new.self.items ≤ length c.args.parents.now = few c.args.parents.now _ _ walked in
    let one : length c.push.new.self.items ≡ length c.loop-visit.visits.items + 1 = ap (λ (vs : List Visit). length vs) c.in_ok-push.ensures.items ∙ length_push c.loop-visit.visits.items c.in-Some.visit in
    omega arith

pub returns : goal.returns
returns c =
    let empty : c.loop-visit.stack.items ≡ [] = nil_from_length c.loop-visit.stack.items (omega (arith, c.in_default.ensures.cases)) in
    ended c.args.parents.now c.loop-visit.visits.items c.requires.within c.requires.acyclic (subst (Walked c.args.parents.now c.loop-visit.visits.items) empty c.loop-visit.invariant.walked)
