use Rattle.std.proofs.Common.{Result, subst}
use Rattle.std.specs.Prelude.{⊤, OnOk}
use Rattle.std.proofs.Math.Logic.{∥∥₁_elim, ∥∥₁_map}
use Rattle.std.proofs.Math.Nat.{ℕ_set}
use Rattle.pz_bind.specs.pz_classes.CheckedView.{checked_model}
use Rattle.pz_rules.specs.pz_offer.declared.trouble.Trouble.{Trouble}
use Rattle.pz_tree.specs.Deeds.{deed, Leaves}
use Rattle.pz_tree.specs.Acting.{answered, LeavesSoon}
use Rattle.pz_tree.specs.Trees.{at_in, term_in, process_in}
use Rattle.pz_sim.proofs.Acted.{refreshed, left_so, after_clock}
use Rattle.pz_sim.proofs.Soon.{acted_soon}
use Rattle.pz_sim.proofs.acting.act_afresh.Goals as goal

pub act-requires-clause-fresh : goal.act-requires-clause-fresh
act-requires-clause-fresh g c = ∥∥₁_map c.requires.may (λ x. x.1.fresh)

pub act-requires-clause-clock : goal.act-requires-clause-clock
act-requires-clause-clock g c = ∥∥₁_elim c.requires.may (ℕ_set _ _) (λ x. x.1.same_clock)

pub act-requires-clause-fits : goal.act-requires-clause-fits
act-requires-clause-fits g c = ∥∥₁_map c.requires.may (λ x. x.1.fits)

pub act-requires-clause-frames : goal.act-requires-clause-frames
act-requires-clause-frames g c = λ n. ∥∥₁_elim c.requires.may (ℕ_set _ _) (λ x. x.1.frames n)

pub act-requires-clause-can : goal.act-requires-clause-can
act-requires-clause-can g c = ∥∥₁_map c.requires.may (λ x. (x.0, x.1.it_can))

pub refresh-requires-clause-clock : goal.refresh-requires-clause-clock
refresh-requires-clause-clock g c =
    after_clock (checked_model c.args.checked.now) c.args.clock c.args.tree.now c.act.new.self c.in_ok-left.ensures.seen (∥∥₁_elim c.requires.may (ℕ_set _ _) (λ x. x.1.same_clock))

pub returns-in_ok-refresh-in-Ok-clause-leaves : goal.returns-in_ok-refresh-in-Ok-clause-leaves
returns-in_ok-refresh-in-Ok-clause-leaves g c parcel may =
    let m = checked_model c.args.checked.now in
    let t = c.args.tree.now in
    left_so m t c.act.new.self c.refresh.new.self c.in_ok-left.ensures.seen c.in_ok-left.ensures.there c.in_ok-refresh-in-Ok.ensures.process c.in_ok-refresh-in-Ok.ensures.seen (deed c.args.how parcel) c.args.place.now
    (subst (λ (r : Result ⊤ Trouble). Leaves (at_in m t) (deed c.args.how parcel) (term_in t) c.args.place.now (answered r (process_in c.act.new.self))) c.in-Ok.is (c.in_ok-left.ensures.acts parcel may.fresh may.it_can))

pub returns-in_ok-refresh-in-Ok-clause-after : goal.returns-in_ok-refresh-in-Ok-clause-after
returns-in_ok-refresh-in-Ok-clause-after g c =
    refreshed (checked_model c.args.checked.now) c.args.tree.now c.act.new.self c.refresh.new.self c.in_ok-left.ensures.seen c.in_ok-left.ensures.there c.in_ok-refresh-in-Ok.ensures.process c.in_ok-refresh-in-Ok.ensures.seen
    c.in_ok-refresh-in-Ok.ensures.fresh c.in_ok-left.ensures.frames

pub returns-in-Err-clause-leaves : goal.returns-in-Err-clause-leaves
returns-in-Err-clause-leaves g c parcel may =
    let m = checked_model c.args.checked.now in
    let t = c.args.tree.now in
    ∣ subst (λ (r : Result ⊤ Trouble). Leaves (at_in m t) (deed c.args.how parcel) (term_in t) c.args.place.now (answered r (process_in c.act.new.self))) c.in-Err.is (c.in_ok-left.ensures.acts parcel may.fresh may.it_can) ∣₁

pub returns-in_ok-refresh-in-Ok-clause-ticks : goal.returns-in_ok-refresh-in-Ok-clause-ticks
returns-in_ok-refresh-in-Ok-clause-ticks g c parcel may =
    let m = checked_model c.args.checked.now in
    let t = c.args.tree.now in
    acted_soon m (deed c.args.how parcel) t c.refresh.new.self c.args.place.now c.act.new.self c.in_ok-left.ensures.there c.in_ok-refresh-in-Ok.ensures.process c.args.steps.now c.act.new.steps c.refresh.new.steps
    (subst (λ (r : Result ⊤ Trouble). OnOk r (LeavesSoon (at_in m t) (deed c.args.how parcel) (term_in t) c.args.place.now (process_in c.act.new.self) c.args.steps.now c.act.new.steps)) c.in-Ok.is (c.in_ok-left.ensures.ticks parcel may.fresh may.it_can))
    c.in_ok-refresh-in-Ok.ensures.ticks
