use Rattle.std.proofs.Common.{◌≡◌, ◌∷◌, ◌∙◌, ℕ, Some, ap, sym, subst, length, arith}
use Rattle.std.specs.Prelude.{slice_get}
use Rattle.std.specs.Vec.Iter.{into_iter_items}
use Rattle.std.proofs.lemmas.List.{nil_from_length}
use Rattle.pz_bind.specs.pz_classes.CheckedView.{checked_model}
use Rattle.pz_bind_levels.specs.Places.{Address}
use Rattle.pz_rules.specs.pz_bind_rules.Nest.{processes, class_at}
use Rattle.pz_bind.specs.NetView.{HasProcess}
use Rattle.pz_rules.specs.Starting.{StartsAs}
use Rattle.pz_tree.specs.pz_term_processes.Standing.{setting_of, process_view}
use Rattle.pz_tree.specs.Trees.{at_in}
use Rattle.pz_sim.proofs.Begun.{none_planted, has_process, begins, is_low, one_planted, all_planted, trees_planted}
use Rattle.pz_sim.proofs.starting.trees_of.Goals as goal

pub loop-process-init : goal.loop-process-init
loop-process-init c = record {
  counted = search (arith, c.into_iter-process-iterator.ensures);
  planted = none_planted (setting_of (checked_model c.args.checked.now) c.args.limits) c.args.processes.items _ _ c.new-trees.ensures.items c.into_iter-process-iterator.ensures.into_iter_gives.0;
}

pub start-requires-clause-there : goal.start-requires-clause-there
start-requires-clause-there c =
    let same : c.len-number.result ≡ length c.loop-process.trees.items = let said = c.len-number.ensures in let long = c.loop-process.trees.ok.0 in omega (arith, said, long) in
    subst (HasProcess c.args.net.now) (sym same)
    (has_process (setting_of (checked_model c.args.checked.now) c.args.limits) c.args.processes.items c.loop-process.trees.items (into_iter_items c.loop-process.process-iterator) (into_iter_items c.next.new.self) c.in-Some.process
    c.in-Some.ensures.steps.0 c.loop-process.invariant.planted c.requires.start c.args.net.now c.requires.of_model)

pub start-requires-clause-begins : goal.start-requires-clause-begins
start-requires-clause-begins c =
    let setting = setting_of (checked_model c.args.checked.now) c.args.limits in
    let same : c.len-number.result ≡ length c.loop-process.trees.items = let said = c.len-number.ensures in let long = c.loop-process.trees.ok.0 in omega (arith, said, long) in
    subst (λ (n : ℕ). (place : Address) → slice_get (processes (checked_model c.args.checked.now)) n ≡ Some place → StartsAs setting place (process_view c.in-Some.process)) (sym same)
    (begins setting c.args.processes.items c.loop-process.trees.items (into_iter_items c.loop-process.process-iterator) (into_iter_items c.next.new.self) c.in-Some.process
    c.in-Some.ensures.steps.0 c.loop-process.invariant.planted c.requires.start)

pub start-requires-clause-low : goal.start-requires-clause-low
start-requires-clause-low c =
    is_low (setting_of (checked_model c.args.checked.now) c.args.limits) c.args.processes.items c.loop-process.trees.items (into_iter_items c.loop-process.process-iterator) (into_iter_items c.next.new.self) c.in-Some.process
    c.in-Some.ensures.steps.0 c.loop-process.invariant.planted c.requires.are

pub loop-process-preserved : goal.loop-process-preserved
loop-process-preserved c =
    let setting = setting_of (checked_model c.args.checked.now) c.args.limits in
    let same : c.len-number.result ≡ length c.loop-process.trees.items = let said = c.len-number.ensures in let long = c.loop-process.trees.ok.0 in omega (arith, said, long) in
    let steps : into_iter_items c.loop-process.process-iterator ≡ c.in-Some.process ∷ into_iter_items c.next.new.self = c.in-Some.ensures.steps.0 in
    record {
      counted = let was = c.loop-process.invariant.counted in let gone = c.in-Some.ensures.steps.1 in let short = ap length steps in omega arith;
      planted = one_planted setting c.args.processes.items c.loop-process.trees.items (into_iter_items c.loop-process.process-iterator) (into_iter_items c.next.new.self) c.in-Some.process steps c.loop-process.invariant.planted
          c.push.new.self.items c.in_ok-start.field-0 c.in_ok-push.ensures.items c.in_ok-start.ensures.process
          (subst (λ (n : ℕ). (place : Address) → slice_get (processes setting.model) n ≡ Some place → at_in setting.model c.in_ok-start.field-0 ≡ record { setting = setting; process = n; class = class_at setting.model place; clock = 0; state = c.in-Some.process.state.held }) same c.in_ok-start.ensures.seen)
          c.in_ok-start.ensures.fresh;
    }

pub returns-clause-stand : goal.returns-clause-stand
returns-clause-stand c =
    let none = nil_from_length _ (sym c.loop-process.invariant.counted ∙ c.in-None.ensures.steps.0) in
    all_planted (setting_of (checked_model c.args.checked.now) c.args.limits) c.args.processes.items _ c.loop-process.trees.items none c.loop-process.invariant.planted

pub returns-clause-trees : goal.returns-clause-trees
returns-clause-trees c =
    let none = nil_from_length _ (sym c.loop-process.invariant.counted ∙ c.in-None.ensures.steps.0) in
    trees_planted c.frames_stand_at_start.ensures.law (setting_of (checked_model c.args.checked.now) c.args.limits) c.args.processes.items _ c.loop-process.trees.items none c.loop-process.invariant.planted c.requires.start c.requires.are
