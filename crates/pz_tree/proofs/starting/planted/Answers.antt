use Rattle.std.proofs.Common.{◌≤◌, ◌∙◌, sym, ap, subst, arith}
use Rattle.pz_bind.specs.pz_classes.CheckedView.{checked_model}
use Rattle.pz_nodes.specs.Arena.{find}
use Rattle.pz_rules.specs.Settings.{left_by}
use Rattle.pz_rules.specs.Terms.{height}
use Rattle.pz_rules.specs.View.{term_view}
use Rattle.pz_rules.specs.declared.term.Term.{Term}
use Rattle.pz_term_processes.specs.Standing.{setting_of, process_view}
use Rattle.pz_rules.specs.Short.{IsShort}
use Rattle.pz_tree.specs.declared.tree.Tree.{Tree}
use Rattle.pz_tree.specs.Trees.{IsOf}
use Rattle.pz_tree_acting.proofs.pz_tree_regrowing_proofs.Shorts.{ends_in_time}
use Rattle.pz_rules.proofs.Opened.{start_short}
use Rattle.pz_tree.proofs.Started.{place_of, class_is, IsBegun, has_begun}
use Rattle.pz_tree.proofs.starting.planted.Goals as goal

pub plant-requires : goal.plant-requires
plant-requires g c =
    let m = checked_model c.args.checked.now in
    let place = place_of m c.args.net.now c.args.process c.requires.of_model c.requires.there in
    let short : IsShort (term_view c.args.begun.term) = start_short (setting_of m c.args.limits) place.0 (process_view c.args.begun) (c.requires.begins place.0 place.1) in
    ends_in_time 0 (term_view c.replace-term.result) (omega arith) (subst (λ (x : Term). IsShort (term_view x)) (sym c.replace-term.ensures.value) short)

begun : (g : _) (c : goal.After-drop-begun-2 g) → IsBegun (checked_model c.args.checked.now) (record { alloc = c.args.alloc; nodes = c.plant.new.nodes; root = c.in_ok-root.root; state = c.replace-state.result; clock = 0; process = c.args.process; class = c.class-class.result; limits = c.args.limits }) (term_view c.replace-term.result)
begun g c =
    let m = checked_model c.args.checked.now in
    let t : Tree = record { alloc = c.args.alloc; nodes = c.plant.new.nodes; root = c.in_ok-root.root; state = c.replace-state.result; clock = 0; process = c.args.process; class = c.class-class.result; limits = c.args.limits } in
    let place = place_of m c.args.net.now c.args.process c.requires.of_model c.requires.there in
    let short : IsShort (term_view c.args.begun.term) = start_short (setting_of m c.args.limits) place.0 (process_view c.args.begun) (c.requires.begins place.0 place.1) in
    let back = sym c.replace-term.ensures.value in
    let of_model : IsOf m t = record { place = place.0; is_process = place.1; class = class_is m c.args.net.now c.args.process place.0 c.class-class.result c.requires.of_model place.1 c.class-class.ensures.is } in
    has_begun m t (find c.new-nodes.result) (term_view c.replace-term.result) of_model (omega arith) c.in_ok-root.ensures.planted
    (subst (λ (x : Term). IsShort (term_view x)) back short)
    (subst (λ (x : Term). height (term_view x) ≤ c.args.limits.height) back c.requires.low)

pub returns-clause-process : goal.returns-clause-process
returns-clause-process g c =
    let term = (begun g c).is ∙ ap term_view c.replace-term.ensures.value in
    let state = c.replace-state.ensures.value in
    λ i. left_by (state i).held (term i)

pub returns-clause-seen : goal.returns-clause-seen
returns-clause-seen g c = λ place at.
    let m = checked_model c.args.checked.now in
    let class = class_is m c.args.net.now c.args.process place c.class-class.result c.requires.of_model at c.class-class.ensures.is in
    let state = c.replace-state.ensures.value in
    λ i. record { setting = setting_of m c.args.limits; process = c.args.process; class = class i; clock = 0; state = (state i).held }

pub returns-clause-there : goal.returns-clause-there
returns-clause-there g c = (begun g c).there
