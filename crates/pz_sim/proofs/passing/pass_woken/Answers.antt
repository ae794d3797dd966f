use Rattle.std.proofs.Common.{◌∙◌, ap}
use Rattle.std.proofs.Math.Logic.{∥∥₁_map}
use Rattle.std.proofs.lemmas.Result.{on_ok_weaker}
use Rattle.pz_bind.specs.pz_classes.CheckedView.{checked_model}
use Rattle.pz_sim_totals.specs.declared.total.Total.{Total}
use Rattle.std.specs.Prelude.{slice_set}
use Rattle.pz_sim.proofs.Outcomes.{on_any}
use Rattle.pz_sim.proofs.Read.{may_fresh, may_later, may_untroubled, may_due, has_passed, total_told}
use Rattle.pz_sim.proofs.passing.pass_woken.Goals as goal

pub pass_to-requires-clause-fresh : goal.pass_to-requires-clause-fresh
pass_to-requires-clause-fresh g c = may_fresh (checked_model c.args.checked.now) c.args.clock c.args.tree.now c.requires.may

pub pass_to-requires-clause-later : goal.pass_to-requires-clause-later
pass_to-requires-clause-later g c = may_later (checked_model c.args.checked.now) c.args.clock c.args.tree.now c.requires.may

pub pass_to-requires-clause-no_trouble : goal.pass_to-requires-clause-no_trouble
pass_to-requires-clause-no_trouble g c = may_untroubled (checked_model c.args.checked.now) c.args.clock c.args.tree.now c.requires.may

pub pass_to-requires-clause-due : goal.pass_to-requires-clause-due
pass_to-requires-clause-due g c = may_due (checked_model c.args.checked.now) c.args.clock c.args.tree.now c.requires.may

pub total_in-total-requires : goal.total_in-total-requires
total_in-total-requires g c = record { fresh = ∥∥₁_map c.in_ok-pass_to.ensures.fresh (λ fresh. (checked_model c.args.checked.now, fresh)) }

pub returns-clause-passed : goal.returns-clause-passed
returns-clause-passed g c =
    on_ok_weaker c.set.result
    (λ is.
    has_passed (checked_model c.args.checked.now) c.args.clock c.args.tree.now c.requires.may c.pass_to.new.self (λ fresh. c.in_ok-pass_to.ensures.passes fresh) c.in_ok-pass_to.ensures.seen c.in_ok-pass_to.ensures.fresh)
    c.set.ensures.ok

pub returns-clause-total : goal.returns-clause-total
returns-clause-total g c =
    let m = checked_model c.args.checked.now in
    on_ok_weaker c.set.result
    (λ is. is ∙ ap (λ (x : Total). slice_set c.args.totals.now c.args.number x) (total_told m c.pass_to.new.self c.total_in-total.result c.in_ok-pass_to.ensures.fresh c.total_in-total.ensures.total))
    c.set.ensures.ok

pub returns-clause-ticks : goal.returns-clause-ticks
returns-clause-ticks g c = on_any c.set.result c.in_ok-pass_to.ensures.ticks
