use Rattle.std.proofs.Common.{◌≡◌, ◌+◌, ℕ, [], ◌∷◌, ◌++◌, sym, subst}
use Rattle.pz_nodes.specs.Arena.{find}
use Rattle.pz_classes_code.specs.StepView.{sequence_view}
use Rattle.pz_term_around.specs.pz_part_opening.Homes.{home_view}
use Rattle.pz_rules.specs.Terms.{frames_in}
use Rattle.pz_rules.specs.View.{term_view}
use Rattle.pz_tree_nodes.specs.Planting.{EndsInTime, Planted, nodes_of}
use Rattle.pz_tree_nodes.specs.pz_tree_standing.Heads as heads
use Rattle.pz_tree_regrowing.specs.devices.Levels.{ChangingRule}
use Rattle.pz_tree_regrowing.proofs.ByForm.{sequence_goes_on, sequence_ends}
use Rattle.pz_tree_regrowing.proofs.Openings.{opened_all_calm}
use Rattle.pz_tree_regrowing.proofs.Writes.{three_ok, is_gone, is_there}
use Rattle.pz_tree_regrowing.proofs.forms.finish_sequence.Goals as goal

pub plant_opened-requires : goal.plant_opened-requires
plant_opened-requires g c = subst (EndsInTime c.args.clock) (sym c.in_ok-term.ensures.opened.term) (opened_all_calm c.args.clock (home_view c.args.home.now) (sequence_view c.args.rest) c.args.state.now.held)

pub returns-then-is_none : goal.returns-then-is_none
returns-then-is_none g c =
    let home = home_view c.args.home.now in
    let m = find c.args.nodes.now in
    let n = find c.plant_opened.new.nodes in
    let fresh = c.args.gained.now.items in
    let grown = c.plant_opened.new.gained.items in
    let term = term_view c.in_ok-term.term in
    three_ok c.plant_opened.result (λ out. Planted (find c.release.new.nodes) n c.args.clock term out)
    (λ out. (i : ℕ) → ChangingRule home c.args.clock c.args.key (heads.sequence (sequence_view c.args.rest)) (c.args.left ∷ []) i out m n c.args.state.now c.open_rest.new.state fresh grown c.args.steps.now c.plant_opened.new.steps)
    (grown ≡ fresh ++ frames_in term) (c.plant_opened.new.steps ≡ c.release.new.steps + nodes_of term)
    (λ out p e t i. sequence_ends home c.args.clock c.args.key i c.args.rest c.args.left out m (find c.release.new.nodes) n term c.args.state.now c.open_rest.new.state fresh grown c.args.steps.now c.release.new.steps c.plant_opened.new.steps
    (is_gone c.args.left c.is_none.result c.is_none.ensures c.if-is_none.true) c.release.ensures.free c.release.ensures.ticks c.in_ok-term.ensures.opened p e t)
    c.plant_opened.ensures.planted c.plant_opened.ensures.gained c.plant_opened.ensures.ticks

pub returns : goal.returns
returns g c = λ i. sequence_goes_on (home_view c.args.home.now) c.args.clock c.args.key i c.args.rest c.args.left c.one.result (find c.args.nodes.now) (find c.write.new.nodes) c.in_ok-kept.kept c.kept_of-part.result c.args.state.now c.args.gained.now.items
    c.args.steps.now c.kept_of-part.new.steps c.write.new.steps (is_there c.args.left c.is_none.result c.is_none.ensures c.if-is_none.false) c.one.ensures c.kept_of-part.ensures.kept c.in_ok-kept.ensures
    c.write.ensures.written c.kept_of-part.ensures.ticks c.write.ensures.ticks
