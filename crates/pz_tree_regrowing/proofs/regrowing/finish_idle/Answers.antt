use Rattle.std.proofs.Common.{ℕ}
use Rattle.std.proofs.lemmas.Result.{IfOk-weaker}
use Rattle.pz_nodes.specs.Arena.{find}
use Rattle.pz_classes_code.specs.StepView.{view}
use Rattle.pz_term_around.specs.pz_part_opening.Homes.{home_view}
use Rattle.pz_tree_nodes.specs.pz_tree_standing.Heads as heads
use Rattle.pz_tree_nodes.specs.Dropping.{numbers}
use Rattle.pz_tree_regrowing.specs.Regrowing.{at_work}
use Rattle.pz_tree_regrowing.specs.devices.Levels.{SecondRule, FinishRule}
use Rattle.pz_tree_regrowing.proofs.Interrupts.{idle_second}
use Rattle.pz_tree_regrowing.proofs.regrowing.finish_idle.Goals as goal

pub returns : goal.returns
returns g c =
    let home = home_view c.args.home.now in
    let again = view c.args.again in
    let m = find c.args.nodes.now in
    let n = find c.finish_second.new.nodes in
    let s = c.args.state.now in
    let t = c.finish_second.new.state in
    let lost = numbers c.args.lost.now.items in
    let fresh = c.args.gained.now.items in
    let grown = c.finish_second.new.gained.items in
    IfOk-weaker c.finish_second.result (λ out. SecondRule home c.args.clock c.args.key again c.args.shift c.args.kids out m n s t fresh grown c.args.steps.now c.finish_second.new.steps)
    (λ out. (f : ℕ) → FinishRule home f c.args.clock c.args.key (heads.idle again c.args.shift) c.args.kids c.args.number out (at_work m s lost fresh c.args.steps.now) (at_work n t lost grown c.finish_second.new.steps))
    (λ out r f. idle_second home c.args.clock c.args.key c.args.number again c.args.shift c.args.kids out m n s t fresh grown c.args.steps.now c.finish_second.new.steps c.if-number-eq0.false r f lost) c.finish_second.ensures
