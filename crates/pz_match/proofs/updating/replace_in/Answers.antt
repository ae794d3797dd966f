-- The offers of the vector are those of its slice.
use Rattle.std.proofs.Common.{◌≡◌, ◌+◌, ◌∙◌, ap, sym, subst, List, length, arith}
use Rattle.std.specs.Vec.{with_items}
use Rattle.std.specs.Prelude.{map}
use Rattle.std.proofs.lemmas.List.{with_items_is}
use Rattle.pz_match.specs.declared.kept.Offers.{Offers}
use Rattle.pz_match.specs.devices.Kept.{kept}
use Rattle.pz_match.specs.devices.Asking.{all_written}
use Rattle.pz_match.specs.devices.Users.{HaveAskers, HaveUsers}
use Rattle.pz_match.specs.devices.Updating.{Replaced}
use Rattle.pz_match.proofs.updating.replace_in.Goals as goal

pub replace-requires-clause-users : goal.replace-requires-clause-users
replace-requires-clause-users g c = subst (λ (xs : List Offers). HaveUsers c.args.users.now (map kept xs)) (sym c.as_mut_slice-slice.ensures.value) c.requires.users

pub replace-requires-clause-askers : goal.replace-requires-clause-askers
replace-requires-clause-askers g c = subst (λ (xs : List Offers). HaveAskers c.args.users.now.askers (map kept xs)) (sym c.as_mut_slice-slice.ensures.value) c.requires.askers

pub returns-clause-replaced : goal.returns-clause-replaced
returns-clause-replaced g c =
    let stored = c.args.all.now in
    let same = c.as_mut_slice-slice.ensures.value in
    let long = ap length same in
    let new_is : (with_items stored c.replace.new.all).items ≡ c.replace.new.all
    = with_items_is stored c.replace.new.all (omega (arith, c.replace.auto.all, long, stored.ok.0)) in
    subst (λ (xs : List Offers). Replaced (g.J.Judge.verdict c.args.judge.now) c.args.process c.args.sends.items c.args.receives.items c.args.groups.now (map kept xs) c.replace.new.groups (map kept (with_items stored c.replace.new.all).items)) same
    (subst (λ (xs : List Offers). Replaced (g.J.Judge.verdict c.args.judge.now) c.args.process c.args.sends.items c.args.receives.items c.args.groups.now (map kept c.as_mut_slice-slice.result.now) c.replace.new.groups (map kept xs)) (sym new_is) c.in_ok-replace.ensures.replaced)

pub returns-clause-asked : goal.returns-clause-asked
returns-clause-asked g c =
    let stored = c.args.all.now in
    let long = ap length c.as_mut_slice-slice.ensures.value in
    let new_is : (with_items stored c.replace.new.all).items ≡ c.replace.new.all
    = with_items_is stored c.replace.new.all (omega (arith, c.replace.auto.all, long, stored.ok.0)) in
    c.in_ok-replace.ensures.asked ∙ ap (λ (xs : List Offers). g.J.Judge.asked c.args.judge.now + all_written c.args.process (map kept xs)) (sym new_is)
