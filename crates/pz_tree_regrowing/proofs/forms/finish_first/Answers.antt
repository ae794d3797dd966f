use Rattle.std.proofs.Common.{◌≡◌, ◌+◌, ℕ, None, ap, sym, ◌∙◌}
use Rattle.std.specs.Prelude.{slice_index_or}
use Rattle.std.proofs.lemmas.Result.{IfOk-weaker}
use Rattle.pz_nodes.specs.Arena.{find}
use Rattle.pz_classes_code.specs.StepView.{view}
use Rattle.pz_tree_nodes.specs.pz_tree_standing.Heads as heads
use Rattle.pz_tree_nodes.specs.Keeping.{joined, raised}
use Rattle.pz_tree_nodes.specs.Dropping.{numbers}
use Rattle.pz_tree_regrowing.specs.devices.Keeping.{kept_in, kept_behind}
use Rattle.pz_tree_regrowing.specs.devices.Levels.{there, AloneRule, LosingRule}
use Rattle.pz_tree_regrowing.proofs.ByForm.{idle_ends, idle_goes_on}
use Rattle.pz_tree_regrowing.proofs.Writes.{is_gone, is_there}
use Rattle.pz_tree_regrowing.proofs.forms.finish_first.Goals as goal

pub returns-then-is_none : goal.returns-then-is_none
returns-then-is_none g c =
    let m = find c.args.nodes.now in
    let n = find c.leave_alone.new.nodes in
    let lost = numbers c.args.lost.now.items in
    let found = numbers c.leave_alone.new.lost.items in
    let none_left : slice_index_or c.args.kids 0 None ≡ None = sym c.kid_in-left.ensures ∙ is_gone c.kid_in-left.result c.is_none.result c.is_none.ensures c.if-is_none.true in
    IfOk-weaker c.leave_alone.result (λ out. AloneRule m n c.args.key c.args.kids 0 out lost found c.args.steps.now c.leave_alone.new.steps)
    (λ out. (clock : ℕ) → LosingRule clock c.args.key (heads.idle (view c.args.again) c.args.shift) c.args.kids 0 out m n lost found c.args.steps.now c.leave_alone.new.steps)
    (λ out r clock. idle_ends clock c.args.key (view c.args.again) c.args.shift c.args.kids out m n lost found c.args.steps.now c.leave_alone.new.steps none_left r) c.leave_alone.ensures

pub returns : goal.returns
returns g c =
    let m = find c.args.nodes.now in
    λ clock. idle_goes_on clock c.args.key c.args.again c.args.shift c.args.kids m (find c.write.new.nodes) c.kept_of-first.result c.kept_of-second.result c.in_ok-kept.kept (numbers c.args.lost.now.items)
    c.args.steps.now c.kept_of-first.new.steps c.kept_of-second.new.steps c.write.new.steps
    (λ e. is_there c.kid_in-left.result c.is_none.result c.is_none.ensures c.if-is_none.false (c.kid_in-left.ensures ∙ e))
    (c.kept_of-first.ensures.kept ∙ ap (kept_in m) c.kid_in-left.ensures) (c.kept_of-second.ensures.kept ∙ ap (kept_in m) c.kid_in.ensures)
    (c.in_ok-kept.ensures ∙ ap (λ by. raised (joined (kept_behind by c.kept_of-first.result) c.kept_of-second.result)) c.behind.ensures) c.write.ensures.written
    (c.kept_of-first.ensures.ticks ∙ ap (λ z. c.args.steps.now + there z) c.kid_in-left.ensures) (c.kept_of-second.ensures.ticks ∙ ap (λ z. c.kept_of-first.new.steps + there z) c.kid_in.ensures) c.write.ensures.ticks
