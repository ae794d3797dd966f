-- What is written through the slice stands in the `Vec`.
use Rattle.std.proofs.Common.{◌≡◌, length, take, sym, ap, subst, ◌∙◌, arith}
use Rattle.std.proofs.lemmas.List.{with_items_is}
use Rattle.pz_sim_totals.specs.devices.Levels.{AreLevels}
use Rattle.pz_sim_totals.proofs.Cells.{set_levels, set_seen}
use Rattle.pz_sim_totals.proofs.totals.Totals.set.Goals as goal

pub invariant_of-self : goal.invariant_of-self
invariant_of-self c =
    let cells = c.self.inside.cells in
    let n = c.self.inside.len in
    let new = c.set_in.new.cells in
    let same_len : length new ≡ cells.len = omega (arith, c.set_in.auto.cells, c.as_mut_slice.ensures.len) in
    let old = c.as_mut_slice.result.now in
    let are = subst (AreLevels n) (sym c.as_mut_slice.ensures.value) c.self.invariant in
    subst (AreLevels n) (sym (with_items_is cells new same_len)) (set_levels c.set_in.result n old new are c.args.process c.args.total c.set_in.ensures.ok c.set_in.ensures.err)

pub returns-clause-ok : goal.returns-clause-ok
returns-clause-ok c =
    let cells = c.self.inside.cells in
    let n = c.self.inside.len in
    let new = c.set_in.new.cells in
    let same_len : length new ≡ cells.len = omega (arith, c.set_in.auto.cells, c.as_mut_slice.ensures.len) in
    let old = c.as_mut_slice.result.now in
    let are = subst (AreLevels n) (sym c.as_mut_slice.ensures.value) c.self.invariant in
    set_seen c.set_in.result n old new are c.args.process c.args.total c.set_in.ensures.ok _ c.args.self.now (with_items_is cells new same_len) (ap (λ us. take n us) c.as_mut_slice.ensures.value ∙ c.self.view_is)
