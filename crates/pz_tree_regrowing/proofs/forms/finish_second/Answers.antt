use Rattle.std.proofs.Common.{sym, ◌∙◌}
use Rattle.std.proofs.lemmas.Result.{IfOk-weaker}
use Rattle.pz_nodes.specs.Arena.{find}
use Rattle.pz_classes_code.specs.StepView.{view}
use Rattle.pz_term_around.specs.pz_part_opening.Homes.{home_view}
use Rattle.pz_tree_regrowing.specs.devices.Levels.{ResumeRule, SuspendRule, SecondRule}
use Rattle.pz_tree_regrowing.proofs.Interrupts.{second_done}
use Rattle.pz_tree_regrowing.proofs.Writes.{is_gone, is_there}
use Rattle.pz_tree_regrowing.proofs.forms.finish_second.Goals as goal

pub returns-then-is_none : goal.returns-then-is_none
returns-then-is_none g c =
    let home = home_view c.args.home.now in
    let again = view c.args.again in
    let m = find c.args.nodes.now in
    let n = find c.resume.new.nodes in
    let s = c.args.state.now in
    let t = c.resume.new.state in
    let fresh = c.args.gained.now.items in
    let grown = c.resume.new.gained.items in
    IfOk-weaker c.resume.result (λ out. ResumeRule home c.args.clock c.args.key again c.args.shift c.kid_in-first.result out m n s t fresh grown c.args.steps.now c.resume.new.steps)
    (λ out. SecondRule home c.args.clock c.args.key again c.args.shift c.args.kids out m n s t fresh grown c.args.steps.now c.resume.new.steps)
    (λ out r. second_done home c.args.clock c.args.key again c.args.shift c.args.kids c.kid_in-first.result out m n s t fresh grown c.args.steps.now c.resume.new.steps c.kid_in-first.ensures
    (sym c.kid_in.ensures ∙ is_gone c.kid_in.result c.is_none.result c.is_none.ensures c.if-is_none.true) r) c.resume.ensures

pub returns : goal.returns
returns g c =
    let home = home_view c.args.home.now in
    let again = view c.args.again in
    let m = find c.args.nodes.now in
    let n = find c.suspend.new.nodes in
    let s = c.args.state.now in
    let fresh = c.args.gained.now.items in
    IfOk-weaker c.suspend.result (λ out. SuspendRule c.args.clock c.args.key again c.args.shift c.args.kids out m n c.args.steps.now c.suspend.new.steps)
    (λ out. SecondRule home c.args.clock c.args.key again c.args.shift c.args.kids out m n s s fresh fresh c.args.steps.now c.suspend.new.steps)
    (λ out r runs f gathered. r (λ e. is_there c.kid_in.result c.is_none.result c.is_none.ensures c.if-is_none.false (c.kid_in.ensures ∙ e)) runs home f s gathered fresh) c.suspend.ensures
