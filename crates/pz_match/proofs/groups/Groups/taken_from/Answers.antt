-- The groups of the wire are listed.
use Rattle.std.proofs.Common.{sym, subst, List}
use Rattle.pz_match.specs.declared.groups.Group.{Group}
use Rattle.pz_match.specs.devices.Sharing.{AreListedOn}
use Rattle.pz_match.proofs.Passing.{listed_on}
use Rattle.pz_match.proofs.groups.Groups.taken_from.Goals as goal

pub taken_from-requires-clause-listed : goal.taken_from-requires-clause-listed
taken_from-requires-clause-listed c =
    subst (λ (gs : List Group). AreListedOn gs c.list-numbers.result.now c.args.wire) (sym c.as_slice.ensures.value)
    (listed_on c.self.inside.groups.items c.self.inside.numbers c.args.wire c.list-numbers.result.now c.self.invariant.listed c.list-numbers.ensures.list)
