use Rattle.std.proofs.Common.{◌≡◌, ◌+◌, ◌-◌, subst, refl, arith}
use Rattle.std.proofs.Math.Logic.{∥∥₁_map}
use Rattle.pz_bind.specs.pz_classes.CheckedView.{checked_model}
use Rattle.pz_rules.specs.pz_classes_rules.Soundness.{IsSound}
use Rattle.pz_tree.specs.Trees.{IsFresh}
use Rattle.pz_tree.proofs.Elapsed.{rested, seen_later}
use Rattle.pz_tree.proofs.tree.Tree.pass_by.Goals as goal

pub returns-clause-passes : goal.returns-clause-passes
returns-clause-passes g c = λ yes fresh.
    let t = c.args.self.now in
    let is : t.clock + (c.args.clock - t.clock) ≡ c.args.clock = let ahead = c.requires.later in omega (arith, ahead) in
    let sound : IsSound (checked_model c.args.checked.now) = subst IsSound c.model-model.ensures.is c.model-model.ensures.sound in
    (rested (checked_model c.args.checked.now) t fresh (c.args.clock - t.clock) c.args.clock is c.requires.room c.walks_list_what_is_active.ensures.troubles sound c.requires.no_trouble c.requires.due
    c.args.steps.now c.rest_under.new.steps (c.rest_under.ensures.rests c.if-not-rest_under.false)).passes

pub returns-clause-seen : goal.returns-clause-seen
returns-clause-seen g c = λ yes.
    let t = c.args.self.now in
    let is : t.clock + (c.args.clock - t.clock) ≡ c.args.clock = let ahead = c.requires.later in omega (arith, ahead) in
    seen_later (checked_model c.args.checked.now) t (c.args.clock - t.clock) c.args.clock is t.nodes t.state refl

pub returns-clause-fresh : goal.returns-clause-fresh
returns-clause-fresh g c = λ yes.
    let t = c.args.self.now in
    let is : t.clock + (c.args.clock - t.clock) ≡ c.args.clock = let ahead = c.requires.later in omega (arith, ahead) in
    let sound : IsSound (checked_model c.args.checked.now) = subst IsSound c.model-model.ensures.is c.model-model.ensures.sound in
    ∥∥₁_map c.requires.fresh (λ (fresh : IsFresh (checked_model c.args.checked.now) t).
    (rested (checked_model c.args.checked.now) t fresh (c.args.clock - t.clock) c.args.clock is c.requires.room c.walks_list_what_is_active.ensures.troubles sound c.requires.no_trouble c.requires.due
    c.args.steps.now c.rest_under.new.steps (c.rest_under.ensures.rests c.if-not-rest_under.false)).still)

pub returns-clause-summary : goal.returns-clause-summary
returns-clause-summary g c = λ yes fresh.
    let t = c.args.self.now in
    let is : t.clock + (c.args.clock - t.clock) ≡ c.args.clock = let ahead = c.requires.later in omega (arith, ahead) in
    let sound : IsSound (checked_model c.args.checked.now) = subst IsSound c.model-model.ensures.is c.model-model.ensures.sound in
    (rested (checked_model c.args.checked.now) t fresh (c.args.clock - t.clock) c.args.clock is c.requires.room c.walks_list_what_is_active.ensures.troubles sound c.requires.no_trouble c.requires.due
    c.args.steps.now c.rest_under.new.steps (c.rest_under.ensures.rests c.if-not-rest_under.false)).summary

pub returns-clause-done : goal.returns-clause-done
returns-clause-done g c = λ yes fresh.
    let t = c.args.self.now in
    let is : t.clock + (c.args.clock - t.clock) ≡ c.args.clock = let ahead = c.requires.later in omega (arith, ahead) in
    let sound : IsSound (checked_model c.args.checked.now) = subst IsSound c.model-model.ensures.is c.model-model.ensures.sound in
    (rested (checked_model c.args.checked.now) t fresh (c.args.clock - t.clock) c.args.clock is c.requires.room c.walks_list_what_is_active.ensures.troubles sound c.requires.no_trouble c.requires.due
    c.args.steps.now c.rest_under.new.steps (c.rest_under.ensures.rests c.if-not-rest_under.false)).settled
