-- The marks are distinct, by what the groups keep.
use Rattle.std.proofs.Common.{subst}
use Rattle.pz_match.specs.devices.Tallies.{GroupsView, Distinct}
use Rattle.pz_match.proofs.groups.Groups.are_distinct.Goals as goal

pub returns-clause-distinct : goal.returns-clause-distinct
returns-clause-distinct c = subst (λ (v : GroupsView). Distinct v.groups) c.self.view_is c.self.invariant.hold.distinct
