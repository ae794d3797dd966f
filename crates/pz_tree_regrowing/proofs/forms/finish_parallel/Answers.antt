use Rattle.std.proofs.Common.{◌+◌, sym, ◌∙◌, ap}
use Rattle.pz_nodes.specs.Arena.{find}
use Rattle.pz_tree_nodes.specs.Keeping.{raised}
use Rattle.pz_tree_regrowing.specs.devices.Keeping.{kept_in_all}
use Rattle.pz_tree_regrowing.specs.devices.Levels.{all_there, are_gone}
use Rattle.pz_tree_regrowing.proofs.ByForm.{parallel_goes_on, parallel_ends}
use Rattle.pz_tree_regrowing.proofs.forms.finish_parallel.Goals as goal

pub returns-then-all_gone : goal.returns-then-all_gone
returns-then-all_gone g c = λ clock i. parallel_ends clock c.args.key i c.args.kids (find c.args.nodes.now) (find c.release.new.nodes) c.args.steps.now c.release.new.steps
    (ap are_gone (sym c.as_slice.ensures) ∙ sym c.all_gone.ensures ∙ c.if-all_gone.true) c.release.ensures.free c.release.ensures.ticks

pub returns : goal.returns
returns g c =
    let m = find c.args.nodes.now in
    λ clock i. parallel_goes_on clock c.args.key i c.args.kids m (find c.write.new.nodes) c.in_ok-kept.kept c.args.steps.now c.kept_of_all.new.steps c.write.new.steps
    (ap are_gone (sym c.as_slice.ensures) ∙ sym c.all_gone.ensures ∙ c.if-all_gone.false)
    (c.in_ok-kept.ensures ∙ ap raised (c.in_ok-parts.ensures.kept ∙ ap (kept_in_all m) c.as_slice-2.ensures)) c.write.ensures.written
    (c.in_ok-parts.ensures.ticks ∙ ap (λ z. c.args.steps.now + all_there z) c.as_slice-2.ensures) c.write.ensures.ticks
