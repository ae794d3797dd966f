use Rattle.std.proofs.Common.{List, ◌∷◌, refl, sym, subst, ap}
use Rattle.pz_bind.specs.pz_classes.CheckedView.{checked_model}
use Rattle.pz_tree.specs.declared.tree.Tree.{Tree}
use Rattle.pz_sim.specs.devices.Borrowed.{told}
use Rattle.pz_sim.specs.devices.Questions.{Takes, verdict_in}
use Rattle.pz_sim.proofs.Told.{put_back}
use Rattle.pz_sim.proofs.Verdicts.{within, is_fresh, at_clock, receives, verdict_is}
use Rattle.pz_sim.proofs.judging.TreeJudgeJudge.judge.Goals as goal

pub bounds-self-receiver : goal.bounds-self-receiver
bounds-self-receiver g c = within (checked_model c.args.self.now.checked.now) c.args.self.now.clock c.args.self.now.trees.now c.args.receiver.now c.requires

pub verdict-requires-clause-fresh : goal.verdict-requires-clause-fresh
verdict-requires-clause-fresh g c = is_fresh (checked_model c.args.self.now.checked.now) c.args.self.now.clock c.args.self.now.trees.now c.args.receiver.now c.requires _

pub verdict-requires-clause-clock : goal.verdict-requires-clause-clock
verdict-requires-clause-clock g c = at_clock (checked_model c.args.self.now.checked.now) c.args.self.now.clock c.args.self.now.trees.now c.args.receiver.now c.requires _

pub verdict-requires-clause-receives : goal.verdict-requires-clause-receives
verdict-requires-clause-receives g c = receives (checked_model c.args.self.now.checked.now) c.args.self.now.clock c.args.self.now.trees.now c.args.receiver.now c.requires _

pub returns-clause-verdict : goal.returns-clause-verdict
returns-clause-verdict g c =
    let self = c.args.self.now in
    verdict_is (checked_model self.checked.now) self.clock self.trees.now c.args.receiver.now c.requires _ c.receives_say_one_thing.ensures.only c.args.parcel.now c.verdict.result c.verdict.ensures.judges

pub returns-clause-takes : goal.returns-clause-takes
returns-clause-takes g c s p r h =
    let self = c.args.self.now in
    subst (λ (us : List Tree). Takes (checked_model self.checked.now) self.clock us r) (sym (put_back self.trees.now _ c.args.receiver.now.process _ _ refl c.verdict.ensures.unchanged)) h

pub returns-clause-verdicts : goal.returns-clause-verdicts
returns-clause-verdicts g c s p r =
    let self = c.args.self.now in
    ap (λ (us : List Tree). verdict_in (checked_model self.checked.now) us r p) (put_back self.trees.now _ c.args.receiver.now.process _ _ refl c.verdict.ensures.unchanged)

pub returns-clause-lent : goal.returns-clause-lent
returns-clause-lent g c =
    let self = c.args.self.now in
    ap (λ (us : List Tree). self.trees.ghost_name ∷ (self.steps.ghost_name ∷ told us)) (put_back self.trees.now _ c.args.receiver.now.process _ _ refl c.verdict.ensures.unchanged)
