use Rattle.std.proofs.Common.{List, ℕ, Bool, Result, sym, subst}
use Rattle.pz_bind.specs.pz_classes.CheckedView.{checked_model}
use Rattle.pz_nodes.specs.Arena.{find}
use Rattle.pz_rules.specs.pz_offer.declared.trouble.Trouble.{Trouble}
use Rattle.pz_rules.specs.Messages.{Judges}
use Rattle.pz_rules.specs.Settings.{Context}
use Rattle.pz_rules.specs.View.{term_view}
use Rattle.pz_tree.specs.Trees.{at_in}
use Rattle.pz_tree.specs.devices.Receiving.{ReceiveRule}
use Rattle.pz_tree.proofs.Judged.{receives_so, judges_so}
use Rattle.pz_tree.proofs.tree.Tree.verdict.Goals as goal

pub judge-requires-clause-receives : goal.judge-requires-clause-receives
judge-requires-clause-receives c =
    let m = checked_model c.args.checked.now in
    let t = c.args.self.now in
    let root = c.spot-root in
    let found = c.in_ok-found.found in
    receives_so m t c.args.place.now c.active_parts_are_at_their_places.ensures.law c.tended_nodes_stand.ensures.law found.0 found.1 root.result.key root.result.clock root.result.frame.0 root.ensures.key root.ensures.frame root.ensures.clock
    (subst (λ (p : List ℕ). ReceiveRule (find t.nodes) root.result.key root.result.frame.0 root.result.clock p found.0 found.1) c.as_slice.ensures c.in_ok-found.ensures)
    c.requires.fresh c.requires.receives

pub returns-clause-judges : goal.returns-clause-judges
returns-clause-judges c = λ fresh.
    let m = checked_model c.args.checked.now in
    let t = c.args.self.now in
    let root = c.spot-root in
    let here = c.standpoint-here in
    let found = c.in_ok-found.found in
    let rule = subst (λ (p : List ℕ). ReceiveRule (find t.nodes) root.result.key root.result.frame.0 root.result.clock p found.0 found.1) c.as_slice.ensures c.in_ok-found.ensures in
    judges_so m t c.args.place.now c.active_parts_are_at_their_places.ensures.law c.tended_nodes_stand.ensures.law found.0 found.1 root.result.key root.result.clock root.result.frame.0 root.ensures.key root.ensures.frame root.ensures.clock rule
    fresh c.args.parcel.now c.verdict_of.result
    (subst (λ (r : Result Bool Trouble). Judges (at_in m t) found.0.0 c.args.parcel.now (term_view found.1) r) (sym c.verdict_of.ensures)
    (subst (λ (a : Context). Judges a found.0.0 c.args.parcel.now (term_view found.1) c.in_ok-said.said) (here.ensures.seen m) (c.in_ok-said.ensures.judges m t.class.0 here.ensures.knows)))
    (receives_so m t c.args.place.now c.active_parts_are_at_their_places.ensures.law c.tended_nodes_stand.ensures.law found.0 found.1 root.result.key root.result.clock root.result.frame.0 root.ensures.key root.ensures.frame root.ensures.clock rule c.requires.fresh c.requires.receives)
    c.requires.receives
