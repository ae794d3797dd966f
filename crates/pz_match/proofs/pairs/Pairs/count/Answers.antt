-- The sum of the counts of wires.
use Rattle.std.proofs.Common.{◌∙◌, ap, length}
use Rattle.std.specs.Prelude.{map}
use Rattle.pz_match.specs.Pairs.{taken}
use Rattle.pz_match.specs.Table.{Table}
use Rattle.pz_match.specs.devices.Kept.{kept}
use Rattle.pz_match.proofs.Sought.{total_is}
use Rattle.pz_match.proofs.pairs.Pairs.count.Goals as goal

pub returns : goal.returns
returns c =
    let there = ap (λ (t : Table). t.lost) c.self.view_is ∙ c.requires in
    c.total.ensures ∙ (total_is c.self.inside.groups (map kept c.self.inside.offers.items) (c.self.invariant there).stands.holds c.self.inside.groups.wires ∙ ap (λ (t : Table). length (taken t.pairs)) c.self.view_is)
