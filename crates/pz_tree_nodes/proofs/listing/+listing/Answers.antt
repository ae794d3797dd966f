use Rattle.std.proofs.Common.{◌+◌, [], ◌∷◌, ◌++◌, Vec, ap, sym, ◌∙◌, subst}
use Rattle.std.specs.declared.alloc.Global.{Global}
use Rattle.std.proofs.lemmas.Result.{on_ok_weaker}
use Rattle.pz_nodes.specs.Arena.{find}
use Rattle.pz_tree_nodes.specs.declared.found.Part.{Part}
use Rattle.pz_tree_nodes.proofs.Listed.{KidsRule, kids_skip, kids_enter, kids_end, past_added, spot_empty, spot_leaf}
use Rattle.pz_tree_nodes.proofs.listing.+listing.Goals as goal
use Rattle.pz_tree_nodes.proofs.listing.+listing.Goals.{list_kids-then-reaches+in_ok-enter+in_ok-list_part, list_kids-else-reaches}

pub list_kids-loop-number-preserved : goal.list_kids-loop-number-preserved
list_kids-loop-number-preserved g t c =
    let m = find c.args.nodes.now in
    let n = c.args.node.now in
    let spot = c.args.spot in
    let kids = c.as_slice-number-end.result.now in
    let i = c.loop-number.number in
    let old = c.args.found.now.items in
    elim c.if-reaches.branch [
      | list_kids-then-reaches+in_ok-enter+in_ok-list_part w ↦
          record {
            adds = subst (λ (z : Vec Part Global). KidsRule m n spot.frame.0 spot.clock c.args.offering c.args.levels c.args.place.now (i + 1) old z.items) (sym w.found-is)
                (kids_enter m n spot.frame.0 spot.clock kids c.as_slice-number-end.ensures c.args.levels c.args.place.now i c.args.offering w.enter.new.self old c.loop-number.found.items w.list_part.new.found.items
                w.child_in-kid.result c.loop-number-test.true (sym c.reaches.ensures ∙ w.if-reaches.true) (w.in_ok-enter.ensures.ok ∙ ap (λ p. p ++ i ∷ []) c.loop-number.invariant.place)
                w.child_in-kid.ensures.key w.child_in-kid.ensures.frame w.child_in-kid.ensures.clock w.in_ok-list_part.ensures.adds c.loop-number.invariant.adds);
            place = w.place-is ∙ w.leave.ensures c.loop-number.place i (w.in_ok-list_part.ensures.place ∙ w.in_ok-enter.ensures.ok) ∙ c.loop-number.invariant.place;
          }
      | list_kids-else-reaches w ↦
          record {
            adds = subst (λ (z : Vec Part Global). KidsRule m n spot.frame.0 spot.clock c.args.offering c.args.levels c.args.place.now (i + 1) old z.items) (sym w.found-is)
                (kids_skip m n spot.frame.0 spot.clock kids c.as_slice-number-end.ensures c.args.levels c.args.place.now i c.args.offering old c.loop-number.found.items
                c.loop-number-test.true (sym c.reaches.ensures ∙ w.if-reaches.false) c.loop-number.invariant.adds);
            place = w.place-is ∙ c.loop-number.invariant.place;
          }
    ]

pub list_kids-returns-clause-adds : goal.list_kids-returns-clause-adds
list_kids-returns-clause-adds g t c =
    kids_end (find c.args.nodes.now) c.args.node.now c.args.spot.frame.0 c.args.spot.clock c.as_slice-number-end.result.now c.as_slice-number-end.ensures c.args.levels c.args.place.now
    c.loop-number.number c.args.offering c.args.found.now.items c.loop-number.found.items c.loop-number-test.false c.loop-number.invariant.adds

pub list_part-returns-then-count-eq0-clause-adds : goal.list_part-returns-then-count-eq0-clause-adds
list_part-returns-then-count-eq0-clause-adds g t c =
    let m = find c.args.nodes.now in
    let spot = c.past_shift-spot.result in
    past_added c.args.offering m c.args.start spot c.args.levels c.args.place.now c.args.found.now.items c.args.found.now.items c.past_shift-spot.ensures.right c.past_shift-spot.ensures.frame
    (spot_empty c.args.offering m spot c.args.levels c.args.place.now c.args.found.now.items c.in-Some.key c.in-Some-get.node.now c.in-Some.is (sym c.in-Some-get.ensures.value) (sym c.count.ensures ∙ c.if-count-eq0.true))

pub list_part-returns-in-Leaf-clause-adds : goal.list_part-returns-in-Leaf-clause-adds
list_part-returns-in-Leaf-clause-adds g t c =
    let m = find c.args.nodes.now in
    let spot = c.past_shift-spot.result in
    on_ok_weaker c.push_part.result
    (λ grown. past_added c.args.offering m c.args.start spot c.args.levels c.args.place.now c.args.found.now.items c.push_part.new.found.items c.past_shift-spot.ensures.right c.past_shift-spot.ensures.frame
    (spot_leaf c.args.offering m spot c.args.levels c.args.place.now c.args.found.now.items c.in-Some.key c.in-Some-get.node.now c.in-Some.is (sym c.in-Some-get.ensures.value)
    c.in-Leaf.field-0 c.push_part.new.found.items c.in-Leaf.is (λ z. c.if-count-eq0.false (c.count.ensures ∙ z)) grown))
    c.push_part.ensures
