-- A total with the neighbour before or behind it, or alone.
use Rattle.std.proofs.Common.{◌≡◌, ◌+◌, ◌-◌, ◌/◌, get_or, set, sym, ap, subst, ◌∙◌}
use Rattle.std.proofs.lemmas.List.{get_or_default}
use Rattle.pz_sim_totals.specs.declared.total.Total.{Total}
use Rattle.pz_sim_totals.specs.Sums.{none, both, AreNumbers}
use Rattle.pz_sim_totals.specs.devices.Levels.{pairs}
use Rattle.pz_sim_totals.proofs.Finding.{sum_before, sum_behind, sum_alone, numbers_before, numbers_behind, summed}
use Rattle.pz_sim_totals.proofs.levels.sum_with.Goals as goal

pub returns-then-place-eq1 : goal.returns-then-place-eq1
returns-then-place-eq1 c =
    let ts = c.args.here.now in let i = c.args.place in let t = c.args.total in
    summed c.both.result (both (get_or ts (i - 1) none) t) (get_or (pairs (set ts i t)) (i / 2) none) c.both.ensures
    (numbers_before ts i t c.requires c.if-place-eq1.true) (sum_before ts i t c.requires c.if-place-eq1.true)

pub returns-in-Some : goal.returns-in-Some
returns-in-Some c =
    let ts = c.args.here.now in let i = c.args.place in let t = c.args.total in
    let right = c.in-Some.right.now in
    let more = c.in-Some.ensures.lookup.3.0 in
    let is : right ≡ get_or ts (i + 1) none = c.in-Some.ensures.lookup.1 ∙ get_or_default ts (i + 1) right none more in
    summed c.both-in-Some.result (both t right) (get_or (pairs (set ts i t)) (i / 2) none) c.both-in-Some.ensures
    (λ are. subst (λ (r : Total). AreNumbers (both t r)) (sym is) (numbers_behind ts i t c.requires c.if-place-eq1.false more are))
    (ap (λ (r : Total). both t r) is ∙ sum_behind ts i t c.requires c.if-place-eq1.false more)

pub returns-in-None : goal.returns-in-None
returns-in-None c = sum_alone c.args.here.now c.args.place c.args.total c.requires c.if-place-eq1.false c.in-None.ensures.lookup.3
