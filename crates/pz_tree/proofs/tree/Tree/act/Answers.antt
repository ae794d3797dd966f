use Rattle.std.proofs.Common.{ℕ, List, sym, ap, subst}
use Rattle.std.proofs.Math.Logic.{∥∥₁_map}
use Rattle.pz_rules.specs.pz_syntax.Classes.{ModelTree}
use Rattle.pz_bind.specs.pz_classes.CheckedView.{checked_model}
use Rattle.pz_rules.specs.pz_classes_rules.Soundness.{IsSound}
use Rattle.pz_nodes.specs.Arena.{find}
use Rattle.pz_term_processes.specs.pz_part_queries.Standpoints.{Knows}
use Rattle.pz_rules.specs.Settings as rules
use Rattle.pz_tree_acting.specs.pz_tree_standing.Frames.{FramesStand}
use Rattle.pz_tree_acting.specs.Acting.{MayBeDone, ActRule}
use Rattle.pz_tree.specs.declared.tree.Tree.{Tree}
use Rattle.pz_tree.specs.Trees.{term_in, IsThere, IsFresh}
use Rattle.pz_tree.proofs.Acted.{of_process_class, act_for, may_be_done, acted, acted_merely, troubled, frames_merely, as_before}
use Rattle.pz_tree.proofs.tree.Tree.act.Goals as goal

pub home-home-requires-clause-process : goal.home-home-requires-clause-process
home-home-requires-clause-process g c = of_process_class (checked_model c.args.checked.now) c.args.self.now c.processes_have_classes.ensures.law c.requires.fresh

pub act-requires-clause-knows : goal.act-requires-clause-knows
act-requires-clause-knows g c = subst (λ (x : ModelTree). Knows x c.standpoint-here.result) (sym (ap (λ (h : rules.Home). h.model) c.home-home.ensures.home)) c.standpoint-here.ensures.knows

pub act-requires-clause-can : goal.act-requires-clause-can
act-requires-clause-can g c =
    let m = checked_model c.args.checked.now in
    let t = c.args.self.now in
    let here = c.standpoint-here in
    let home = c.home-home in
    let sound : IsSound m = subst IsSound c.model-model.ensures.is c.model-model.ensures.sound in
    subst (λ (p : List ℕ). ∥ MayBeDone here.result home.result c.args.how (find t.nodes) t.root t.state.held p ∥₁) (sym c.as_slice.ensures)
    (may_be_done m t here.result home.result home.ensures.home here.ensures.limits here.ensures.process here.ensures.clock
    c.sound_bodies_fit.ensures.law sound c.processes_have_classes.ensures.law home.ensures.class c.args.how c.args.place.now here.ensures.knows c.requires.fresh c.requires.fits c.requires.can)

pub returns-in-Ok-clause-acts : goal.returns-in-Ok-clause-acts
returns-in-Ok-clause-acts g c = λ parcel fresh can.
    let m = checked_model c.args.checked.now in
    let t = c.args.self.now in
    let here = c.standpoint-here in
    let home = c.home-home in
    let left = c.in_ok-left.left in
    let n = c.act.new.nodes in
    let s = c.act.new.state in
    let rule = act_for m t here.result home.result home.ensures.home here.ensures.limits here.ensures.process here.ensures.clock c.args.how (find t.nodes) (find n) t.root c.args.place.now left s c.args.steps.now c.act.new.steps
    (subst (λ (p : List ℕ). ActRule here.result home.result c.args.how (find t.nodes) (find n) t.root p left t.state s c.args.steps.now c.act.new.steps) c.as_slice.ensures c.in_ok-left.ensures.acts) in
    (acted m t c.args.steps.now c.act.new.steps fresh.there c.args.how parcel c.args.place.now n s left c.in-Ok.root c.in-Ok.is rule can c.requires.frames).soon.leaves

pub returns-in-Ok-clause-there : goal.returns-in-Ok-clause-there
returns-in-Ok-clause-there g c =
    let m = checked_model c.args.checked.now in
    let t = c.args.self.now in
    let here = c.standpoint-here in
    let home = c.home-home in
    let left = c.in_ok-left.left in
    let n = c.act.new.nodes in
    let s = c.act.new.state in
    let rule = act_for m t here.result home.result home.ensures.home here.ensures.limits here.ensures.process here.ensures.clock c.args.how (find t.nodes) (find n) t.root c.args.place.now left s c.args.steps.now c.act.new.steps
    (subst (λ (p : List ℕ). ActRule here.result home.result c.args.how (find t.nodes) (find n) t.root p left t.state s c.args.steps.now c.act.new.steps) c.as_slice.ensures c.in_ok-left.ensures.acts) in
    ∥∥₁_map (acted_merely m t c.args.steps.now c.act.new.steps c.args.how c.args.place.now n s left c.in-Ok.root c.in-Ok.is rule c.requires.frames c.requires.fresh c.requires.can) (λ x. x.0)

pub returns-in-Ok-clause-frames : goal.returns-in-Ok-clause-frames
returns-in-Ok-clause-frames g c =
    let m = checked_model c.args.checked.now in
    let t = c.args.self.now in
    let here = c.standpoint-here in
    let home = c.home-home in
    let left = c.in_ok-left.left in
    let n = c.act.new.nodes in
    let s = c.act.new.state in
    let rule = act_for m t here.result home.result home.ensures.home here.ensures.limits here.ensures.process here.ensures.clock c.args.how (find t.nodes) (find n) t.root c.args.place.now left s c.args.steps.now c.act.new.steps
    (subst (λ (p : List ℕ). ActRule here.result home.result c.args.how (find t.nodes) (find n) t.root p left t.state s c.args.steps.now c.act.new.steps) c.as_slice.ensures c.in_ok-left.ensures.acts) in
    let u : Tree = record t { nodes = n; state = s; root = c.in-Ok.root } in
    frames_merely (term_in u) s.held (∥∥₁_map (acted_merely m t c.args.steps.now c.act.new.steps c.args.how c.args.place.now n s left c.in-Ok.root c.in-Ok.is rule c.requires.frames c.requires.fresh c.requires.can) (λ x. x.1))

pub returns-in-Err-clause-acts : goal.returns-in-Err-clause-acts
returns-in-Err-clause-acts g c = λ parcel fresh can.
    let m = checked_model c.args.checked.now in
    let t = c.args.self.now in
    let here = c.standpoint-here in
    let home = c.home-home in
    let left = c.in_ok-left.left in
    let n = c.act.new.nodes in
    let s = c.act.new.state in
    let rule = act_for m t here.result home.result home.ensures.home here.ensures.limits here.ensures.process here.ensures.clock c.args.how (find t.nodes) (find n) t.root c.args.place.now left s c.args.steps.now c.act.new.steps
    (subst (λ (p : List ℕ). ActRule here.result home.result c.args.how (find t.nodes) (find n) t.root p left t.state s c.args.steps.now c.act.new.steps) c.as_slice.ensures c.in_ok-left.ensures.acts) in
    troubled m t c.args.steps.now c.act.new.steps fresh.there c.args.how parcel c.args.place.now n s left c.in-Err.trouble c.in-Err.is rule can c.requires.frames

pub returns-in-Err-clause-there : goal.returns-in-Err-clause-there
returns-in-Err-clause-there g c =
    let m = checked_model c.args.checked.now in
    let t = c.args.self.now in
    subst (λ (u : Tree). ∥ IsThere m u ∥₁) (sym (as_before m t c.act.new.nodes c.act.new.state c.in_ok-left.left c.in-Err.trouble c.in-Err.is c.in_ok-left.ensures.stays))
    (∥∥₁_map c.requires.fresh (λ (f : IsFresh m t). f.there))

pub returns-in-Err-clause-frames : goal.returns-in-Err-clause-frames
returns-in-Err-clause-frames g c =
    let m = checked_model c.args.checked.now in
    let t = c.args.self.now in
    subst (λ (u : Tree). FramesStand (term_in u) u.state.held) (sym (as_before m t c.act.new.nodes c.act.new.state c.in_ok-left.left c.in-Err.trouble c.in-Err.is c.in_ok-left.ensures.stays)) c.requires.frames

pub returns-in-Err-clause-unchanged : goal.returns-in-Err-clause-unchanged
returns-in-Err-clause-unchanged g c =
    as_before (checked_model c.args.checked.now) c.args.self.now c.act.new.nodes c.act.new.state c.in_ok-left.left c.in-Err.trouble c.in-Err.is c.in_ok-left.ensures.stays

pub returns-in-Ok-clause-ticks : goal.returns-in-Ok-clause-ticks
returns-in-Ok-clause-ticks g c = λ parcel fresh can.
    let m = checked_model c.args.checked.now in
    let t = c.args.self.now in
    let here = c.standpoint-here in
    let home = c.home-home in
    let left = c.in_ok-left.left in
    let n = c.act.new.nodes in
    let s = c.act.new.state in
    let rule = act_for m t here.result home.result home.ensures.home here.ensures.limits here.ensures.process here.ensures.clock c.args.how (find t.nodes) (find n) t.root c.args.place.now left s c.args.steps.now c.act.new.steps
    (subst (λ (p : List ℕ). ActRule here.result home.result c.args.how (find t.nodes) (find n) t.root p left t.state s c.args.steps.now c.act.new.steps) c.as_slice.ensures c.in_ok-left.ensures.acts) in
    (acted m t c.args.steps.now c.act.new.steps fresh.there c.args.how parcel c.args.place.now n s left c.in-Ok.root c.in-Ok.is rule can c.requires.frames).soon
