use Rattle.std.proofs.Common.{subst}
use Rattle.std.proofs.Math.Logic.{∥∥₁_map, ∥∥₁_elim}
use Rattle.std.proofs.Math.Bridge.{le_prop}
use Rattle.pz_bind.specs.pz_classes.CheckedView.{checked_model}
use Rattle.pz_nodes.specs.Arena.{find}
use Rattle.pz_rules.specs.Settings.{Context}
use Rattle.pz_tree_elapsing.specs.pz_tree_refreshing.Refreshing.{RefreshRule}
use Rattle.pz_tree.specs.Trees.{IsThere}
use Rattle.pz_tree.proofs.Changed.{on_ok, refreshed, nothing_asked}
use Rattle.pz_tree.proofs.tree.Tree.refresh.Goals as goal

pub returns-in_default-clause-fresh : goal.returns-in_default-clause-fresh
returns-in_default-clause-fresh g c =
    let m = checked_model c.args.checked.now in
    ∥∥₁_map c.requires.there (λ (there : IsThere m c.args.self.now). (nothing_asked m c.args.self.now c.args.steps.now there c.in_default.is).fresh)

pub returns-clause-fresh : goal.returns-clause-fresh
returns-clause-fresh g c =
    let m = checked_model c.args.checked.now in
    let t = c.args.self.now in
    let old = c.args.steps.now in
    let new = c.refresh.new.steps in
    let n = c.refresh.new.nodes in
    on_ok c.refresh.result (λ rule.
    ∥∥₁_map c.requires.there (λ (there : IsThere m t).
    (refreshed m t there old new n c.refresh.new.state c.refresh.ensures.state c.in-Some.key c.in-Some.is
    (subst (λ (a : Context). RefreshRule a (find t.nodes) (find n) c.in-Some.key 0 t.clock old new) (c.standpoint-here.ensures.seen m) (rule m t.class.0 c.standpoint-here.ensures.knows))).fresh)) c.refresh.ensures.refreshed

pub returns-clause-process : goal.returns-clause-process
returns-clause-process g c = λ there.
    let m = checked_model c.args.checked.now in
    let t = c.args.self.now in
    let old = c.args.steps.now in
    let new = c.refresh.new.steps in
    let n = c.refresh.new.nodes in
    on_ok c.refresh.result (λ rule.
    (refreshed m t there old new n c.refresh.new.state c.refresh.ensures.state c.in-Some.key c.in-Some.is
    (subst (λ (a : Context). RefreshRule a (find t.nodes) (find n) c.in-Some.key 0 t.clock old new) (c.standpoint-here.ensures.seen m) (rule m t.class.0 c.standpoint-here.ensures.knows))).process) c.refresh.ensures.refreshed

pub returns-clause-ticks : goal.returns-clause-ticks
returns-clause-ticks g c =
    let m = checked_model c.args.checked.now in
    let t = c.args.self.now in
    let old = c.args.steps.now in
    let new = c.refresh.new.steps in
    let n = c.refresh.new.nodes in
    on_ok c.refresh.result (λ rule.
    ∥∥₁_elim c.requires.there le_prop (λ (there : IsThere m t).
    (refreshed m t there old new n c.refresh.new.state c.refresh.ensures.state c.in-Some.key c.in-Some.is
    (subst (λ (a : Context). RefreshRule a (find t.nodes) (find n) c.in-Some.key 0 t.clock old new) (c.standpoint-here.ensures.seen m) (rule m t.class.0 c.standpoint-here.ensures.knows))).ticks)) c.refresh.ensures.refreshed
