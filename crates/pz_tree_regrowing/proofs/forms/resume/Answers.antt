use Rattle.std.proofs.Common.{ap, sym, ◌∙◌, subst}
use Rattle.pz_nodes.specs.Arena.{find}
use Rattle.pz_classes_code.specs.StepView.{view}
use Rattle.pz_term_around.specs.pz_part_opening.Homes.{home_view}
use Rattle.pz_rules.specs.View.{term_view}
use Rattle.pz_rules.specs.Opening.{opened}
use Rattle.pz_rules.specs.Becoming.{Became}
use Rattle.pz_tree_nodes.specs.Keeping.{joined, raised}
use Rattle.pz_tree_nodes.specs.Planting.{EndsInTime}
use Rattle.pz_tree_regrowing.specs.devices.Keeping.{kept_behind}
use Rattle.pz_tree_regrowing.proofs.Interrupts.{resumed}
use Rattle.pz_tree_regrowing.proofs.Openings.{opened_calm}
use Rattle.pz_tree_regrowing.proofs.forms.resume.Goals as goal

pub plant_opened-requires : goal.plant_opened-requires
plant_opened-requires g c = subst (EndsInTime c.args.clock) (sym c.in_ok-term.ensures.opened.term) (opened_calm c.args.clock (home_view c.args.home.now) (view c.get.result.now) c.args.state.now.held)

pub returns : goal.returns
returns g c =
    let home = home_view c.args.home.now in
    let s = c.args.state.now in
    let t = c.open_step.new.state in
    let term = term_view c.in_ok-term.term in
    let became = subst (λ step. Became (opened home (view step) s.held) term s t) c.get.ensures c.in_ok-term.ensures.opened in
    resumed home c.args.clock c.args.key c.args.again c.args.shift c.thaw-shift.result c.args.first c.in_ok-second.second c.two-kids.result (find c.args.nodes.now) (find c.plant_opened.new.nodes) (find c.write.new.nodes) term s t c.args.gained.now.items c.plant_opened.new.gained.items
    c.kept_of-first_kept.result c.kept_of-second_kept.result c.in_ok-kept.kept c.args.steps.now c.plant_opened.new.steps c.kept_of-first_kept.new.steps c.kept_of-second_kept.new.steps c.write.new.steps
    c.thaw-shift.ensures became c.in_ok-second.ensures.planted c.in_ok-second.ensures.gained c.in_ok-second.ensures.ticks c.two-kids.ensures c.kept_of-first_kept.ensures.kept c.kept_of-second_kept.ensures.kept
    (c.in_ok-kept.ensures ∙ ap (λ by. raised (joined (kept_behind by c.kept_of-first_kept.result) c.kept_of-second_kept.result)) c.behind.ensures) c.write.ensures.written
    c.kept_of-first_kept.ensures.ticks c.kept_of-second_kept.ensures.ticks c.write.ensures.ticks
