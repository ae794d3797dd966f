use Rattle.std.proofs.Common.{◌≡◌, ◌-◌, length, Some, slice_get, rules}
use Rattle.pz_state.proofs.Noted.{latest_first}
use Rattle.pz_state.proofs.journal.Journal.prepare.Goals as goal

pub has_noted-requires : goal.has_noted-requires
has_noted-requires c = let last : slice_get c.args.self.now.places.items (length c.args.self.now.places.items - 1) ≡ Some c.in-Some.latest = search rules in
    let l = latest_first c.args.self.now.places.items c.in-Some.latest last in c.requires.latest c.in-Some.latest l.0 l.1
