-- The group is there already, or it is added.
use Rattle.std.proofs.Common.{subst, ℕ}
use Rattle.pz_match.specs.devices.Tallies.{GroupsView, HasKey}
use Rattle.pz_match.proofs.Grouped.{follows_same, tallies_same, none_listed}
use Rattle.pz_match.proofs.groups.Groups.number.Goals as goal

pub returns-in-Some-clause-follows : goal.returns-in-Some-clause-follows
returns-in-Some-clause-follows c = follows_same c.args.self.now

pub returns-in-Some-clause-tallies : goal.returns-in-Some-clause-tallies
returns-in-Some-clause-tallies c = tallies_same c.args.self.now

pub add-requires : goal.add-requires
add-requires c =
    subst (λ (v : GroupsView). (g : ℕ) → HasKey v.groups g c.args.wire c.args.message.now c.args.count → ⊥) c.self.view_is
    (none_listed c.self.inside.groups.items c.self.inside.numbers c.args.wire c.args.count c.args.message.now c.self.invariant.listed (rw (c.as_slice.ensures.value, c.list-numbers.ensures.list) at c.in-None.ensures))
