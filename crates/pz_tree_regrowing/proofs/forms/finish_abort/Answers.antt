use Rattle.std.proofs.Common.{◌≡◌, ◌+◌, ℕ, Some, None, ap, sym, ◌∙◌, subst}
use Rattle.std.specs.Prelude.{slice_index_or}
use Rattle.std.proofs.lemmas.Result.{IfOk-weaker}
use Rattle.pz_nodes.specs.Arena.{find}
use Rattle.pz_tree_nodes.specs.pz_tree_standing.Heads as heads
use Rattle.pz_tree_nodes.specs.Dropping.{numbers}
use Rattle.pz_tree_regrowing.specs.devices.Keeping.{kept_in}
use Rattle.pz_tree_regrowing.specs.devices.Levels.{there, AloneRule, LosingRule}
use Rattle.pz_tree_regrowing.proofs.ByForm.{abort_second, abort_ends, abort_goes_on}
use Rattle.pz_tree_regrowing.proofs.Writes.{is_gone, is_there}
use Rattle.pz_tree_regrowing.proofs.forms.finish_abort.Goals as goal

pub returns-then-number-ne0 : goal.returns-then-number-ne0
returns-then-number-ne0 g c =
    let m = find c.args.nodes.now in
    let n = find c.leave_alone.new.nodes in
    let lost = numbers c.args.lost.now.items in
    let found = numbers c.leave_alone.new.lost.items in
    IfOk-weaker c.leave_alone.result (λ out. AloneRule m n c.args.key c.args.kids c.args.number out lost found c.args.steps.now c.leave_alone.new.steps)
    (λ out. (clock : ℕ) → LosingRule clock c.args.key heads.abort c.args.kids c.args.number out m n lost found c.args.steps.now c.leave_alone.new.steps)
    (λ out r clock. abort_second clock c.args.key c.args.number c.args.kids out m n lost found c.args.steps.now c.leave_alone.new.steps c.if-number-ne0.true r) c.leave_alone.ensures

pub returns-then-is_none : goal.returns-then-is_none
returns-then-is_none g c =
    let m = find c.args.nodes.now in
    let n = find c.leave_alone-then-is_none.new.nodes in
    let lost = numbers c.args.lost.now.items in
    let found = numbers c.leave_alone-then-is_none.new.lost.items in
    let none_left : slice_index_or c.args.kids 0 None ≡ None = sym c.kid_in-left.ensures ∙ is_gone c.kid_in-left.result c.is_none.result c.is_none.ensures c.if-is_none.true in
    IfOk-weaker c.leave_alone-then-is_none.result (λ out. AloneRule m n c.args.key c.args.kids 0 out lost found c.args.steps.now c.leave_alone-then-is_none.new.steps)
    (λ out. (clock : ℕ) → LosingRule clock c.args.key heads.abort c.args.kids c.args.number out m n lost found c.args.steps.now c.leave_alone-then-is_none.new.steps)
    (λ out r clock. subst (λ i. LosingRule clock c.args.key heads.abort c.args.kids i out m n lost found c.args.steps.now c.leave_alone-then-is_none.new.steps) (sym c.if-number-ne0.false)
    (abort_ends clock c.args.key c.args.kids out m n lost found c.args.steps.now c.leave_alone-then-is_none.new.steps none_left r)) c.leave_alone-then-is_none.ensures

pub returns : goal.returns
returns g c =
    let m = find c.args.nodes.now in
    let keys = c.args.kids in
    let lost = numbers c.args.lost.now.items in
    λ clock. subst (λ i. LosingRule clock c.args.key heads.abort keys i (Some c.args.key) m (find c.write.new.nodes) lost lost c.args.steps.now c.write.new.steps) (sym c.if-number-ne0.false)
    (abort_goes_on clock c.args.key keys m (find c.write.new.nodes) c.kept_of-first.result c.kept_of-second.result c.in_ok-kept.kept lost c.args.steps.now c.kept_of-first.new.steps c.kept_of-second.new.steps c.write.new.steps
    (λ e. is_there c.kid_in-left.result c.is_none.result c.is_none.ensures c.if-is_none.false (c.kid_in-left.ensures ∙ e))
    (c.kept_of-first.ensures.kept ∙ ap (kept_in m) c.kid_in-left.ensures) (c.kept_of-second.ensures.kept ∙ ap (kept_in m) c.kid_in.ensures) c.in_ok-kept.ensures c.write.ensures.written
    (c.kept_of-first.ensures.ticks ∙ ap (λ z. c.args.steps.now + there z) c.kid_in-left.ensures) (c.kept_of-second.ensures.ticks ∙ ap (λ z. c.kept_of-first.new.steps + there z) c.kid_in.ensures) c.write.ensures.ticks)
