use Rattle.std.proofs.Common.{◌+◌, ap, ◌∙◌}
use Rattle.pz_nodes.specs.Arena.{find}
use Rattle.pz_tree_regrowing.specs.devices.Keeping.{kept_in}
use Rattle.pz_tree_regrowing.specs.devices.Levels.{there}
use Rattle.pz_tree_regrowing.proofs.Interrupts.{suspended}
use Rattle.pz_tree_regrowing.proofs.forms.suspend.Goals as goal

pub returns : goal.returns
returns g c =
    let m = find c.args.nodes.now in
    suspended c.args.clock c.args.key c.args.again c.args.shift c.freeze.result c.args.kids m (find c.write.new.nodes) c.kept_of-first.result c.kept_of-second.result c.in_ok-kept.kept
    c.args.steps.now c.kept_of-first.new.steps c.kept_of-second.new.steps c.write.new.steps
    c.freeze.ensures (c.kept_of-first.ensures.kept ∙ ap (kept_in m) c.kid_in.ensures) (c.kept_of-second.ensures.kept ∙ ap (kept_in m) c.kid_in-2.ensures) c.in_ok-kept.ensures c.write.ensures.written
    (c.kept_of-first.ensures.ticks ∙ ap (λ z. c.args.steps.now + there z) c.kid_in.ensures) (c.kept_of-second.ensures.ticks ∙ ap (λ z. c.kept_of-first.new.steps + there z) c.kid_in-2.ensures) c.write.ensures.ticks
