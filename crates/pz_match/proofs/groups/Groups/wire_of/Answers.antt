-- The wire at which the sum of the counts passes.
use Rattle.std.proofs.Common.{◌≡◌, ◌<◌, ◌≤◌, ◌+◌, subst}
use Rattle.std.specs.Prelude.{sum_by}
use Rattle.std.specs.Option.{MatchOption}
use Rattle.pz_match.specs.devices.Lists.{upto}
use Rattle.pz_match.specs.devices.Tallies.{GroupsView, on_wire}
use Rattle.pz_match.proofs.Grouped.{found_wire}
use Rattle.pz_match.proofs.groups.Groups.wire_of.Goals as goal

pub returns : goal.returns
returns c =
    subst (λ (v : GroupsView). MatchOption c.find.result (sum_by (on_wire v.groups) (upto v.wires) ≤ c.args.pair) (λ x. (x.0 < v.wires) × (sum_by (on_wire v.groups) (upto x.0) + x.1 ≡ c.args.pair) × (x.1 < on_wire v.groups x.0))) c.self.view_is
    (found_wire c.self.inside.groups.items c.self.inside.counts c.self.inside.troubles c.self.invariant.hold c.find.result c.args.pair c.find.ensures)
