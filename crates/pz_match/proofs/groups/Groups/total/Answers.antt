-- The sum of the counts, wire by wire.
use Rattle.std.proofs.Common.{◌≡◌, sym, ◌∙◌, ap, subst, length, arith}
use Rattle.std.specs.Prelude.{sum, sum_by}
use Rattle.std.proofs.lemmas.List.{take_all}
use Rattle.pz_match.specs.devices.Lists.{upto}
use Rattle.pz_match.specs.devices.Tallies.{GroupsView, on_wire}
use Rattle.pz_match.proofs.Grouped.{counts_sum}
use Rattle.pz_match.proofs.groups.Groups.total.Goals as goal

pub returns : goal.returns
returns c =
    let counts = c.self.inside.counts in
    subst (λ (v : GroupsView). c.total.result ≡ sum_by (on_wire v.groups) (upto v.wires)) c.self.view_is
    (c.total.ensures ∙ (ap sum (sym (take_all (length counts) counts (omega arith))) ∙ counts_sum c.self.inside.groups.items counts c.self.inside.troubles c.self.invariant.hold (length counts) (omega arith)))
