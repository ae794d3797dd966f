use Rattle.std.proofs.Common.{ℕ, ◌+◌, length, refl, sym, subst, inr, arith}
use Rattle.std.specs.Prelude.{All}
use Rattle.pz_state.specs.References.{RefersWithin}
use Rattle.pz_eval_operations.specs.devices.Within.{SiteWithin}
use Rattle.std.proofs.lemmas.Result.{IfOk-weaker}
use Rattle.pz_eval_operations.specs.devices.Sites.{place_of, locals_at, memory_at, memory_of}
use Rattle.pz_eval_operations.specs.devices.Views.{links_view}
use Rattle.pz_eval_machine.specs.devices.Tasks.{pending, meant}
use Rattle.pz_eval_machine.specs.devices.Weights.{links_weight, tasks_weight, load}
use Rattle.pz_eval_machine.proofs.Going.{goes_same}
use Rattle.pz_eval_machine.proofs.Onward.{operators_over, operators_more, operators_found}
use Rattle.pz_eval_machine.proofs.Weighing.{some_operators, counted_no_more}
use Rattle.pz_eval_machine.proofs.operators.go_on_operators.Goals as goal

pub returns-in_default-clause-goes : goal.returns-in_default-clause-goes
returns-in_default-clause-goes c model now =
    operators_over model now c.args.depth (place_of c.args.activation.now.site) (memory_of c.args.activation.now c.args.state.now.held) c.args.units.now (pending model now (place_of c.args.activation.now.site) c.args.activation.now.tasks.items) c.args.left c.args.links.now c.in_default.ensures.cases

pub returns-in_default-clause-weighs : goal.returns-in_default-clause-weighs
returns-in_default-clause-weighs c = inr (refl, omega arith)

pub operate-requires-clause-right : goal.operate-requires-clause-right
operate-requires-clause-right c = c.in-Some-at_once.ensures.within c.requires.within

pub returns-in-Some-at_once-clause-goes : goal.returns-in-Some-at_once-clause-goes
returns-in-Some-at_once-clause-goes c model now =
    goes_same (λ k. meant model now (place_of c.args.activation.now.site) c.operate.new.tasks.items k (memory_at c.args.activation.now.site c.operate.new.state.held c.args.activation.now.locals.items) c.operate.new.units) c.operate.result c.operate.new.units
    (operators_found model now c.args.depth (place_of c.args.activation.now.site) (memory_of c.args.activation.now c.args.state.now.held) c.args.units.now (pending model now (place_of c.args.activation.now.site) c.args.activation.now.tasks.items) c.args.left c.in-Some-at_once.right c.at_once.new.units c.in-Some.link.now c.in-Some.rest.now c.args.links.now c.in-Some.ensures.cases.0 (c.in-Some-at_once.ensures.finds.1 model now))
    (c.operate.ensures.goes model now (place_of c.args.activation.now.site) (locals_at c.args.activation.now.site c.args.activation.now.locals.items))

pub returns-in-Some-at_once-clause-within : goal.returns-in-Some-at_once-clause-within
returns-in-Some-at_once-clause-within c =
    IfOk-weaker c.operate.result _ _
    (λ k kept. let tasks = kept c.requires.within.tasks in (
      record {
        site = subst (λ (n : ℕ). SiteWithin n c.args.activation.now.site) (sym c.operate.ensures.count) c.requires.within.site;
        locals = subst (λ (n : ℕ). All (RefersWithin n) c.args.activation.now.locals.items) (sym c.operate.ensures.count) c.requires.within.locals;
        tasks = tasks.0;
      },
      tasks.1,
    )) c.operate.ensures.within

pub returns-in-Some-at_once-clause-weighs : goal.returns-in-Some-at_once-clause-weighs
returns-in-Some-at_once-clause-weighs c =
    counted_no_more c.operate.result c.args.units.now c.at_once.new.units c.operate.new.units (links_weight (links_view c.args.links.now) + tasks_weight c.args.activation.now.tasks.items) (λ k. load k c.operate.new.tasks.items) c.in-Some-at_once.ensures.finds.0 c.operate.ensures.counted

pub returns-in-None-clause-goes : goal.returns-in-None-clause-goes
returns-in-None-clause-goes c model now =
    goes_same (λ k. meant model now (place_of c.args.activation.now.site) c.descend.new.tasks.items k (memory_at c.args.activation.now.site c.args.state.now.held c.args.activation.now.locals.items) c.at_once.new.units) c.descend.result c.at_once.new.units
    (rw c.in-None.ensures.finds (operators_more model now c.args.depth (place_of c.args.activation.now.site) (memory_of c.args.activation.now c.args.state.now.held) c.args.units.now (pending model now (place_of c.args.activation.now.site) c.args.activation.now.tasks.items) c.args.left c.in-Some.link c.in-Some.rest c.args.links.now c.in-Some.ensures.cases.0))
    (c.descend.ensures.goes model now (place_of c.args.activation.now.site) (memory_of c.args.activation.now c.args.state.now.held) c.at_once.new.units)

pub returns-in-None-clause-within : goal.returns-in-None-clause-within
returns-in-None-clause-within c =
    IfOk-weaker c.descend.result _ _
    (λ k kept. let tasks = kept (length c.args.state.now.held.objects) c.requires.left c.requires.within.tasks in (record { site = c.requires.within.site; locals = c.requires.within.locals; tasks = tasks.0 }, tasks.1)) c.descend.ensures.within

pub returns-in-None-clause-weighs : goal.returns-in-None-clause-weighs
returns-in-None-clause-weighs c =
    IfOk-weaker c.descend.result _ _ (λ k e. inr (c.in-None.ensures.finds, omega (arith, e, some_operators c.in-Some.link.now c.in-Some.rest.now c.args.links.now c.in-Some.ensures.cases.0))) c.descend.ensures.weighs
