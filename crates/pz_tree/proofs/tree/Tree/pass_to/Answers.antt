use Rattle.std.proofs.Common.{◌≡◌, ◌+◌, ◌-◌, subst, refl, arith}
use Rattle.std.proofs.Math.Logic.{∥∥₁_map, ∥∥₁_elim}
use Rattle.std.proofs.Math.Bridge.{le_prop}
use Rattle.pz_bind.specs.pz_classes.CheckedView.{checked_model}
use Rattle.pz_rules.specs.pz_classes_rules.Soundness.{IsSound}
use Rattle.pz_nodes.specs.Arena.{find}
use Rattle.pz_rules.specs.Settings.{Context}
use Rattle.pz_tree_elapsing.specs.Elapsing.{ElapseRule}
use Rattle.pz_tree.specs.Trees.{IsFresh}
use Rattle.pz_tree.proofs.Changed.{on_ok}
use Rattle.pz_tree.proofs.Elapsed.{elapsed_at, nothing_elapsed_at, seen_later}
use Rattle.pz_tree.proofs.tree.Tree.pass_to.Goals as goal

pub returns-in_default-clause-passes : goal.returns-in_default-clause-passes
returns-in_default-clause-passes g c = λ fresh.
    let m = checked_model c.args.checked.now in
    let t = c.args.self.now in
    let is : t.clock + (c.args.clock - t.clock) ≡ c.args.clock = let ahead = c.requires.later in omega (arith, ahead) in
    (nothing_elapsed_at m t fresh (c.args.clock - t.clock) c.args.clock is c.requires.room c.args.steps.now c.in_default.is).passes

pub returns-in_default-clause-seen : goal.returns-in_default-clause-seen
returns-in_default-clause-seen g c =
    let t = c.args.self.now in
    let is : t.clock + (c.args.clock - t.clock) ≡ c.args.clock = let ahead = c.requires.later in omega (arith, ahead) in
    seen_later (checked_model c.args.checked.now) t (c.args.clock - t.clock) c.args.clock is t.nodes t.state refl

pub returns-in_default-clause-fresh : goal.returns-in_default-clause-fresh
returns-in_default-clause-fresh g c =
    let m = checked_model c.args.checked.now in
    let t = c.args.self.now in
    let is : t.clock + (c.args.clock - t.clock) ≡ c.args.clock = let ahead = c.requires.later in omega (arith, ahead) in
    ∥∥₁_map c.requires.fresh (λ (fresh : IsFresh m t). (nothing_elapsed_at m t fresh (c.args.clock - t.clock) c.args.clock is c.requires.room c.args.steps.now c.in_default.is).fresh)

pub returns-clause-passes : goal.returns-clause-passes
returns-clause-passes g c = λ fresh.
    let m = checked_model c.args.checked.now in
    let t = c.args.self.now in
    let is : t.clock + (c.args.clock - t.clock) ≡ c.args.clock = let ahead = c.requires.later in omega (arith, ahead) in
    let sound : IsSound m = subst IsSound c.model-model.ensures.is c.model-model.ensures.sound in
    let here = c.standpoint-here in
    on_ok c.elapse.result (λ rule.
    (elapsed_at m t fresh (c.args.clock - t.clock) c.args.clock is c.requires.room c.walks_list_what_is_active.ensures.troubles sound c.requires.no_trouble c.requires.due
    c.elapse.new.nodes c.elapse.new.state c.elapse.ensures.state c.in-Some.key c.args.steps.now c.elapse.new.steps c.in-Some.is
    (subst (λ (a : Context). ElapseRule a (find t.nodes) (find c.elapse.new.nodes) c.in-Some.key 0 c.args.clock c.args.steps.now c.elapse.new.steps) (here.ensures.seen m) (rule m t.class.0 here.ensures.knows))).passes) c.elapse.ensures.elapsed

pub returns-clause-seen : goal.returns-clause-seen
returns-clause-seen g c =
    let t = c.args.self.now in
    let is : t.clock + (c.args.clock - t.clock) ≡ c.args.clock = let ahead = c.requires.later in omega (arith, ahead) in
    on_ok c.elapse.result (λ rule. seen_later (checked_model c.args.checked.now) t (c.args.clock - t.clock) c.args.clock is c.elapse.new.nodes c.elapse.new.state c.elapse.ensures.state) c.elapse.ensures.elapsed

pub returns-clause-fresh : goal.returns-clause-fresh
returns-clause-fresh g c =
    let m = checked_model c.args.checked.now in
    let t = c.args.self.now in
    let is : t.clock + (c.args.clock - t.clock) ≡ c.args.clock = let ahead = c.requires.later in omega (arith, ahead) in
    let sound : IsSound m = subst IsSound c.model-model.ensures.is c.model-model.ensures.sound in
    let here = c.standpoint-here in
    on_ok c.elapse.result (λ rule.
    ∥∥₁_map c.requires.fresh (λ (fresh : IsFresh m t).
    (elapsed_at m t fresh (c.args.clock - t.clock) c.args.clock is c.requires.room c.walks_list_what_is_active.ensures.troubles sound c.requires.no_trouble c.requires.due
    c.elapse.new.nodes c.elapse.new.state c.elapse.ensures.state c.in-Some.key c.args.steps.now c.elapse.new.steps c.in-Some.is
    (subst (λ (a : Context). ElapseRule a (find t.nodes) (find c.elapse.new.nodes) c.in-Some.key 0 c.args.clock c.args.steps.now c.elapse.new.steps) (here.ensures.seen m) (rule m t.class.0 here.ensures.knows))).fresh)) c.elapse.ensures.elapsed

pub returns-clause-ticks : goal.returns-clause-ticks
returns-clause-ticks g c =
    let m = checked_model c.args.checked.now in
    let t = c.args.self.now in
    let is : t.clock + (c.args.clock - t.clock) ≡ c.args.clock = let ahead = c.requires.later in omega (arith, ahead) in
    let sound : IsSound m = subst IsSound c.model-model.ensures.is c.model-model.ensures.sound in
    let here = c.standpoint-here in
    on_ok c.elapse.result (λ rule.
    ∥∥₁_elim c.requires.fresh le_prop (λ (fresh : IsFresh m t).
    (elapsed_at m t fresh (c.args.clock - t.clock) c.args.clock is c.requires.room c.walks_list_what_is_active.ensures.troubles sound c.requires.no_trouble c.requires.due
    c.elapse.new.nodes c.elapse.new.state c.elapse.ensures.state c.in-Some.key c.args.steps.now c.elapse.new.steps c.in-Some.is
    (subst (λ (a : Context). ElapseRule a (find t.nodes) (find c.elapse.new.nodes) c.in-Some.key 0 c.args.clock c.args.steps.now c.elapse.new.steps) (here.ensures.seen m) (rule m t.class.0 here.ensures.knows))).ticks)) c.elapse.ensures.elapsed
