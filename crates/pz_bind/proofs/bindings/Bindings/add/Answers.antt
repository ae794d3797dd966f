use Rattle.std.proofs.Common.{◌≡◌, None, rules}
use Rattle.std.specs.Map.{lookup}
use Rattle.std.specs.Str.{bytes_eq}
use Rattle.pz_bind.proofs.Bound.{added}
use Rattle.pz_bind.proofs.bindings.Bindings.add.Goals as goal

pub returns-in_ok-insert : goal.returns-in_ok-insert
returns-in_ok-insert c = λ q.
    let none : lookup (λ k. bytes_eq c.args.name.now k.now) c.args.self.now.map.entries ≡ None = search rules in
    rw c.in_ok-insert.ensures.entries (added c.args.self.now.map.entries c.args.name c.args.meaning q none)
