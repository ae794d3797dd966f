use Rattle.std.proofs.Common.{◌≡◌, ap, ◌∙◌}
use Rattle.std.proofs.lemmas.Result.{IfOk-weaker}
use Rattle.pz_tree_regrowing.specs.pz_tree_nodes.Dropping.{numbers}
use Rattle.pz_tree_acting.specs.devices.Closing.{HasListed}
use Rattle.pz_tree_acting.proofs.Frames.{one_has, two_has}
use Rattle.pz_tree_acting.proofs.closing.open_frames.Goals as goal

pub returns-in-One : goal.returns-in-One
returns-in-One c = one_has c.args.edition c.args.state.now.held c.new.result.items c.in-One.is

pub returns-in_ok-frames-in-Two : goal.returns-in_ok-frames-in-Two
returns-in_ok-frames-in-Two c = IfOk-weaker c.numbers_of.result (λ listed. listed.items ≡ numbers c.deref.result.now) (λ listed. HasListed c.args.edition c.args.state.now.held listed.items)
    (λ listed is. two_has c.args.edition c.args.state.now.held listed.items c.in-Two.is (is ∙ ap numbers c.deref.ensures.value ∙ c.in_ok-frames-in-Two.ensures.frames)) c.numbers_of.ensures
