use Rattle.std.proofs.Common.{◌≡◌, ℕ, None, Vec, Global, rules}
use Rattle.std.specs.Map.{lookup}
use Rattle.pz_classes_code.proofs.Numberings.{lookup-insert_named, finds}
use Rattle.pz_classes_code.proofs.numbering.Numbering.add.Goals as goal

pub returns-in_ok-insert : goal.returns-in_ok-insert
returns-in_ok-insert c = λ q.
    let key : Vec ℕ Global = c.in_ok-to_vec.field-0 in
    let spelled : key.items ≡ c.args.name.now = search rules in
    let none : lookup (finds {K = Vec ℕ Global} (λ v. v.items) c.args.name.now) c.args.self.now.map.entries ≡ None = search rules in
    rw c.in_ok-insert.ensures.entries (lookup-insert_named (λ v. v.items) c.args.self.now.map.entries key c.args.number c.args.name.now q spelled none)
