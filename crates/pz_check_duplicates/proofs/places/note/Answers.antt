use Rattle.std.proofs.Common.{◌≡◌, Some, rules}
use Rattle.indexmap.specs.IndexMap.{get}
use Rattle.pz_check_duplicates.specs.devices.Earlier.{earlier}
use Rattle.pz_check_duplicates.proofs.Lookups.{noted}
use Rattle.pz_check_duplicates.proofs.places.note.Goals as goal

pub returns-clause-noted : goal.returns-clause-noted
returns-clause-noted g c = λ q.
    let made : earlier (get g.K.PartialEq.eq c.args.places.now c.args.thing.now.key) c.args.thing.now.place ≡ Some c.earlier_place-place.result = search rules in
    rw c.in_ok-insert.ensures.entries (noted g.K.PartialEq.eq g.met.K.Eq.laws c.args.places.now.entries c.args.thing.now.key c.earlier_place-place.result (λ found. earlier found c.args.thing.now.place) made q)
