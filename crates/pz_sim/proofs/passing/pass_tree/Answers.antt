use Rattle.std.proofs.Common.{◌≤◌, ◌+◌, ◌*◌, sym, subst, arith}
use Rattle.std.proofs.lemmas.Result.{on_ok_weaker}
use Rattle.std.proofs.lemmas.Option.{slice_get_within}
use Rattle.pz_bind.specs.pz_classes.CheckedView.{checked_model}
use Rattle.pz_tree.specs.declared.tree.Tree.{Tree}
use Rattle.pz_tree.specs.Trees.{woken_in}
use Rattle.pz_sim.specs.devices.Passing.{MayPass, HasPassed, own_total}
use Rattle.pz_sim.proofs.Read.{may_fresh, may_later, may_untroubled, may_due, has_passed, total_stays}
use Rattle.pz_sim.proofs.passing.pass_tree.Goals as goal

pub pass_by-requires-clause-fresh : goal.pass_by-requires-clause-fresh
pass_by-requires-clause-fresh g c = may_fresh (checked_model c.args.checked.now) c.args.clock c.args.tree.now c.requires.may

pub pass_by-requires-clause-later : goal.pass_by-requires-clause-later
pass_by-requires-clause-later g c = may_later (checked_model c.args.checked.now) c.args.clock c.args.tree.now c.requires.may

pub pass_by-requires-clause-no_trouble : goal.pass_by-requires-clause-no_trouble
pass_by-requires-clause-no_trouble g c = may_untroubled (checked_model c.args.checked.now) c.args.clock c.args.tree.now c.requires.may

pub pass_by-requires-clause-due : goal.pass_by-requires-clause-due
pass_by-requires-clause-due g c = may_due (checked_model c.args.checked.now) c.args.clock c.args.tree.now c.requires.may

pub returns-then-pass_by-clause-passed : goal.returns-then-pass_by-clause-passed
returns-then-pass_by-clause-passed g c =
    has_passed (checked_model c.args.checked.now) c.args.clock c.args.tree.now c.requires.may c.pass_by.new.self (c.pass_by.ensures.passes c.if-pass_by.true) (c.pass_by.ensures.seen c.if-pass_by.true) (c.pass_by.ensures.fresh c.if-pass_by.true)

pub returns-then-pass_by-clause-total : goal.returns-then-pass_by-clause-total
returns-then-pass_by-clause-total g c =
    total_stays (checked_model c.args.checked.now) c.args.clock c.args.tree.now c.pass_by.new.self c.requires.may c.args.totals.now c.args.number c.requires.own
    (c.pass_by.ensures.summary c.if-pass_by.true) (c.pass_by.ensures.done c.if-pass_by.true)

pub pass_woken-requires-clause-may : goal.pass_woken-requires-clause-may
pass_woken-requires-clause-may g c = subst (λ (t : Tree). ∥ MayPass (checked_model c.args.checked.now) c.args.clock t ∥₁) (sym (c.pass_by.ensures.unchanged c.if-pass_by.false)) c.requires.may

pub pass_woken-requires-clause-within : goal.pass_woken-requires-clause-within
pass_woken-requires-clause-within g c = slice_get_within c.args.totals.now c.args.number (own_total (checked_model c.args.checked.now) c.args.tree.now) c.requires.own

pub returns-clause-passed : goal.returns-clause-passed
returns-clause-passed g c =
    on_ok_weaker c.pass_woken.result
    (λ has. subst (λ (t : Tree). ∥ HasPassed (checked_model c.args.checked.now) c.args.clock t c.pass_woken.new.tree ∥₁) (c.pass_by.ensures.unchanged c.if-pass_by.false) has)
    c.pass_woken.ensures.passed

pub returns-then-pass_by-clause-ticks : goal.returns-then-pass_by-clause-ticks
returns-then-pass_by-clause-ticks g c = let few = c.pass_by.ensures.ticks in omega (arith, few)

pub returns-clause-ticks : goal.returns-clause-ticks
returns-clause-ticks g c =
    let t = c.args.tree.now in
    let u = c.pass_woken.new.tree in
    let few = c.pass_by.ensures.ticks in
    on_ok_weaker c.pass_woken.result
    (λ later. let more = subst (λ (x : Tree). c.pass_woken.new.steps ≤ c.pass_by.new.steps + 16 * woken_in x u) (c.pass_by.ensures.unchanged c.if-pass_by.false) later in omega (arith, few, more))
    c.pass_woken.ensures.ticks
