use Rattle.std.proofs.Common.{ℕ, List, ◌∷◌, [], ap}
use Rattle.std.proofs.lemmas.Result.{IfOk-weaker}
use Rattle.pz_nodes.specs.Arena.{find}
use Rattle.pz_classes_code.specs.CodeView as code
use Rattle.pz_classes_code.specs.StepView.{view, sequence_view}
use Rattle.pz_term_around.specs.pz_part_opening.Homes.{home_view}
use Rattle.pz_rules.specs.Settings.{Home}
use Rattle.pz_tree_nodes.specs.pz_tree_standing.Heads as heads
use Rattle.pz_tree_nodes.specs.Dropping.{numbers}
use Rattle.pz_tree_nodes.specs.View.{head_view}
use Rattle.pz_tree_regrowing.specs.Regrowing.{at_work}
use Rattle.pz_tree_regrowing.specs.devices.Levels.{FinishRule, ChangingRule, AloneRule, SecondRule}
use Rattle.pz_tree_regrowing.proofs.ByForm.{select_ends}
use Rattle.pz_tree_regrowing.proofs.ShiftNodes.{guard_acts}
use Rattle.pz_tree_regrowing.proofs.Rounds.{of_form, one_rule, handling_second}
use Rattle.pz_tree_regrowing.proofs.regrowing.finish.Goals as goal

pub returns-in-Seq : goal.returns-in-Seq
returns-in-Seq g c =
    let home = home_view c.args.home.now in
    let f = c.args.spot.frame.0 in
    let clock = c.args.spot.clock in
    let key = c.args.key in
    let keys = c.args.taken.kids in
    let lost = numbers c.args.lost.now.items in
    let first = c.kid_in-first.result in
    let h = heads.sequence (sequence_view c.in-Seq.rest) in
    let m = find c.args.nodes.now in
    let n = find c.finish_sequence.new.nodes in
    let s = c.args.state.now in
    let t = c.finish_sequence.new.state in
    let fresh = c.args.gained.now.items in
    let grown = c.finish_sequence.new.gained.items in
    let a = at_work m s lost fresh c.args.steps.now in
    let b = at_work n t lost grown c.finish_sequence.new.steps in
    IfOk-weaker c.finish_sequence.result (λ out. (i : ℕ) → ChangingRule home clock key h (first ∷ []) i out m n s t fresh grown c.args.steps.now c.finish_sequence.new.steps)
    (λ out. FinishRule home f clock key (head_view c.args.taken.head) keys c.args.number out a b)
    (λ out r. of_form home f clock key h (head_view c.args.taken.head) keys c.args.number out a b (ap head_view c.in-Seq.is)
    (one_rule home f clock key h keys c.args.number first out a b (λ ps p. p) c.kid_in-first.ensures (r c.args.number f lost))) c.finish_sequence.ensures

pub returns-in-Sel : goal.returns-in-Sel
returns-in-Sel g c =
    let home = home_view c.args.home.now in
    let f = c.args.spot.frame.0 in
    let clock = c.args.spot.clock in
    let key = c.args.key in
    let keys = c.args.taken.kids in
    let i = c.args.number in
    let m = find c.args.nodes.now in
    let n = find c.leave_alone.new.nodes in
    let s = c.args.state.now in
    let lost = numbers c.args.lost.now.items in
    let found = numbers c.leave_alone.new.lost.items in
    let old = c.args.steps.now in
    let new = c.leave_alone.new.steps in
    let fresh = c.args.gained.now.items in
    let a = at_work m s lost fresh old in
    let b = at_work n s found fresh new in
    IfOk-weaker c.leave_alone.result (λ out. AloneRule m n key keys i out lost found old new)
    (λ out. FinishRule home f clock key (head_view c.args.taken.head) keys i out a b)
    (λ out r. of_form home f clock key heads.select (head_view c.args.taken.head) keys i out a b (ap head_view c.in-Sel.is)
    (select_ends clock key i keys out m n lost found old new r home f s fresh)) c.leave_alone.ensures

pub returns-in-Guard : goal.returns-in-Guard
returns-in-Guard g c =
    let home = home_view c.args.home.now in
    let f = c.args.spot.frame.0 in
    let clock = c.args.spot.clock in
    let key = c.args.key in
    let keys = c.args.taken.kids in
    let i = c.args.number in
    let m = find c.args.nodes.now in
    let n = find c.put_shift.new.nodes in
    let s = c.args.state.now in
    let lost = numbers c.args.lost.now.items in
    let old = c.args.steps.now in
    let new = c.put_shift.new.steps in
    let first = c.kid_in-first.result in
    let behind = c.behind_now-behind.result in
    let test = code.view c.in-Guard.test in
    let out = c.put_shift.result in
    let fresh = c.args.gained.now.items in
    let a = at_work m s lost fresh old in
    let b = at_work n s lost fresh new in
    of_form home f clock key (heads.guarded test c.in-Guard.pos c.in-Guard.shift) (head_view c.args.taken.head) keys i out a b (ap head_view c.in-Guard.is)
    (guard_acts clock key i test c.in-Guard.pos c.in-Guard.shift keys first out m n behind old new c.behind_now-behind.ensures c.kid_in-first.ensures c.put_shift.ensures home f s lost fresh)

pub returns-in-Frame : goal.returns-in-Frame
returns-in-Frame g c =
    let home = home_view c.args.home.now in
    let f = c.args.spot.frame.0 in
    let clock = c.args.spot.clock in
    let key = c.args.key in
    let keys = c.args.taken.kids in
    let i = c.args.number in
    let lost = numbers c.args.lost.now.items in
    let found = numbers c.finish_frame.new.lost.items in
    let first = c.kid_in-first.result in
    let h = heads.frame c.in-Frame.frame.0 c.in-Frame.inputs c.in-Frame.results in
    let fresh = c.args.gained.now.items in
    let m = find c.args.nodes.now in
    let n = find c.finish_frame.new.nodes in
    let s = c.args.state.now in
    let t = c.finish_frame.new.state in
    let old = c.args.steps.now in
    let new = c.finish_frame.new.steps in
    let a = at_work m s lost fresh old in
    let b = at_work n t found fresh new in
    IfOk-weaker c.finish_frame.result (λ out. (home : Home) (clock i : ℕ) (gained : List ℕ) → FinishRule home f clock key h (first ∷ []) i out (at_work m s lost gained old) (at_work n t found gained new))
    (λ out. FinishRule home f clock key (head_view c.args.taken.head) keys i out a b)
    (λ out r. of_form home f clock key h (head_view c.args.taken.head) keys i out a b (ap head_view c.in-Frame.is)
    (one_rule home f clock key h keys i first out a b (λ ps p. p) c.kid_in-first.ensures (r home clock i fresh))) c.finish_frame.ensures

pub returns : goal.returns
returns g c =
    let home = home_view c.args.home.now in
    let f = c.args.spot.frame.0 in
    let clock = c.args.spot.clock in
    let key = c.args.key in
    let keys = c.args.taken.kids in
    let i = c.args.number in
    let again = view c.in-Handling.again in
    let shift = c.in-Handling.shift in
    let m = find c.args.nodes.now in
    let n = find c.finish_second.new.nodes in
    let s = c.args.state.now in
    let t = c.finish_second.new.state in
    let lost = numbers c.args.lost.now.items in
    let fresh = c.args.gained.now.items in
    let grown = c.finish_second.new.gained.items in
    let old = c.args.steps.now in
    let new = c.finish_second.new.steps in
    IfOk-weaker c.finish_second.result (λ out. SecondRule home clock key again shift keys out m n s t fresh grown old new)
    (λ out. FinishRule home f clock key (head_view c.args.taken.head) keys i out (at_work m s lost fresh old) (at_work n t lost grown new))
    (λ out r. of_form home f clock key (heads.handling again shift) (head_view c.args.taken.head) keys i out (at_work m s lost fresh old) (at_work n t lost grown new) (ap head_view c.in-Handling.is)
    (handling_second home clock key i again shift keys out m n s t fresh grown old new r f lost)) c.finish_second.ensures
