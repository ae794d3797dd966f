-- Sums of nothing are nothing.
use Rattle.std.proofs.Common.{◌≡◌, ◌-◌, ◌/◌, ◌++◌, replicate, ap, ◌∙◌, arith}
use Rattle.std.proofs.lemmas.Grind.{common_steps}
use Rattle.std.proofs.lemmas.List.{append_assoc}
use Rattle.pz_sim_totals.specs.Sums.{none}
use Rattle.pz_sim_totals.specs.devices.Levels.{levels}
use Rattle.pz_sim_totals.proofs.Cells.{fresh}
use Rattle.pz_sim_totals.proofs.levels.+grow.Goals as goal

pub returns-in_ok-grow : goal.returns-in_ok-grow
returns-in_ok-grow t c =
    let yes = c.if-len-gt1.true in
    let old = c.args.cells.now.items in
    let n = c.args.len in
    let above = levels (n - n / 2) (replicate (n - n / 2) none) in
    let resized : c.resize.new.self.items ≡ old ++ replicate n none = grind (arith, common_steps) in
    c.in_ok-grow.ensures ∙ ap (λ us. us ++ above) resized ∙ append_assoc old (replicate n none) above ∙ ap (λ us. old ++ us) (fresh n (omega (arith, yes)))
