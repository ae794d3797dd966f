use Rattle.std.proofs.Common.{ℕ, List, sym, ap, subst}
use Rattle.pz_rules.specs.pz_syntax.Classes.{ModelTree}
use Rattle.pz_bind.specs.pz_classes.CheckedView.{checked_model}
use Rattle.pz_rules.specs.pz_classes_rules.Soundness.{IsSound}
use Rattle.std.proofs.lemmas.Result.{IfOk-weaker}
use Rattle.pz_nodes.specs.Arena.{find}
use Rattle.pz_term_processes.specs.pz_part_queries.Standpoints.{Knows}
use Rattle.pz_rules.specs.Settings as rules
use Rattle.pz_rules.specs.pz_state.Marks.{Seen}
use Rattle.pz_tree_acting.specs.Acting.{MayBeDone, Answers, TrialRule, TrialSteps}
use Rattle.pz_tree.specs.declared.tree.Tree.{Tree}
use Rattle.pz_tree.specs.Trees.{plant_in, term_in, at_in}
use Rattle.pz_tree.proofs.Acted.{of_process_class, tries_for, steps_for, may_be_done, rooted, on_result}
use Rattle.pz_tree_acting.specs.Deeds.{deed}
use Rattle.pz_tree.proofs.tree.Tree.trial.Goals as goal

pub home-home-requires-clause-process : goal.home-home-requires-clause-process
home-home-requires-clause-process g c = of_process_class (checked_model c.args.checked.now) c.args.self.now c.processes_have_classes.ensures.law c.requires.fresh

pub trial-requires-clause-knows : goal.trial-requires-clause-knows
trial-requires-clause-knows g c = subst (λ (x : ModelTree). Knows x c.standpoint-here.result) (sym (ap (λ (h : rules.Home). h.model) c.home-home.ensures.home)) c.standpoint-here.ensures.knows

pub trial-requires-clause-can : goal.trial-requires-clause-can
trial-requires-clause-can g c =
    let m = checked_model c.args.checked.now in
    let t = c.args.self.now in
    let here = c.standpoint-here in
    let home = c.home-home in
    let sound : IsSound m = subst IsSound c.model-model.ensures.is c.model-model.ensures.sound in
    subst (λ (p : List ℕ). ∥ MayBeDone here.result home.result c.args.how (find t.nodes) t.root t.state.held p ∥₁) (sym c.as_slice.ensures)
    (may_be_done m t here.result home.result home.ensures.home here.ensures.limits here.ensures.process here.ensures.clock
    c.sound_bodies_fit.ensures.law sound c.processes_have_classes.ensures.law home.ensures.class c.args.how c.args.place.now here.ensures.knows c.requires.fresh c.requires.fits c.requires.can)

pub returns-clause-answers : goal.returns-clause-answers
returns-clause-answers g c = λ parcel fresh can.
    let m = checked_model c.args.checked.now in
    let t = c.args.self.now in
    let here = c.standpoint-here in
    let home = c.home-home in
    IfOk-weaker c.trial.result (λ left. TrialRule here.result home.result c.args.how (find t.nodes) t.root c.as_slice.result.now left t.state.held)
    (λ left. Answers (at_in m t) (deed c.args.how parcel) (term_in t) c.args.place.now left)
    (λ left rule. tries_for m t here.result home.result home.ensures.home here.ensures.limits here.ensures.process here.ensures.clock c.args.how (find t.nodes) t.root c.args.place.now left
    (subst (λ (p : List ℕ). TrialRule here.result home.result c.args.how (find t.nodes) t.root p left t.state.held) c.as_slice.ensures rule)
    (plant_in t) parcel (rooted m t fresh.there) can) c.trial.ensures.answers

pub returns-clause-unchanged : goal.returns-clause-unchanged
returns-clause-unchanged g c =
    let t = c.args.self.now in
    on_result c.trial.result (λ same. ap (λ (s : Seen). let u : Tree = record t { state = s } in u) same) c.trial.ensures.stays

pub returns-clause-ticks : goal.returns-clause-ticks
returns-clause-ticks g c = λ parcel fresh can.
    let m = checked_model c.args.checked.now in
    let t = c.args.self.now in
    let here = c.standpoint-here in
    let home = c.home-home in
    on_result c.trial.result (λ rule. steps_for m t here.result home.result home.ensures.home here.ensures.limits here.ensures.process here.ensures.clock c.args.how (find t.nodes) t.root c.args.place.now c.args.steps.now c.trial.new.steps
    (subst (λ (p : List ℕ). TrialSteps here.result home.result c.args.how (find t.nodes) t.root p t.state.held c.args.steps.now c.trial.new.steps) c.as_slice.ensures rule)
    (plant_in t) parcel (rooted m t fresh.there) can) c.trial.ensures.ticks
