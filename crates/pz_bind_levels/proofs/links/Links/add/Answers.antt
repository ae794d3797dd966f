use Rattle.std.proofs.Common.{◌≡◌, None, rules}
use Rattle.pz_bind_levels.specs.devices.Walking.{linked_in}
use Rattle.pz_bind_levels.proofs.Linking.{added}
use Rattle.pz_bind_levels.proofs.links.Links.add.Goals as goal

pub returns-in_ok-insert : goal.returns-in_ok-insert
returns-in_ok-insert c = λ i p.
    let none : linked_in c.args.self.now c.args.part c.args.port ≡ None = search rules in
    added (linked_in c.args.self.now) _ c.args.part c.args.port c.args.channel i p none (c.in_ok-insert.ensures.updates.0 (record { part = i; port = p }))
