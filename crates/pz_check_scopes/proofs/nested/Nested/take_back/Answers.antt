use Rattle.std.proofs.Common.{◌≡◌, ap, ◌∙◌, sym, IsSome, Some, cond, rules}
use Rattle.std.proofs.lemmas.List.{same_from_push}
use Rattle.indexmap.specs.IndexMap.{get}
use Rattle.pz_check_scopes.specs.Scopes.{latest}
use Rattle.pz_check_scopes.specs.devices.Holding.{changes_of}
use Rattle.pz_check_scopes.proofs.Keeping.{taken_back}
use Rattle.pz_check_scopes.proofs.nested.Nested.take_back.Goals as goal

pub returns-in-Some-get_mut-clause-back : goal.returns-in-Some-get_mut-clause-back
returns-in-Some-get_mut-clause-back g c = λ last notes kept.
    let eq = g.K.PartialEq.eq in
    let before = c.args.self.now.notes in
    let after = c.get_mut.follows.lender c.in-Some.change.before in
    let same = same_from_push (changes_of eq notes) c.pop.new.self.items (record { key = last.key; before = latest eq notes last.key }) c.in-Some.change (sym kept.changes ∙ c.in-Some.ensures.items) in
    let key : last.key ≡ c.in-Some.change.key = ap (λ change. change.key) same.1 in
    let told : latest eq notes last.key ≡ c.in-Some.change.before = ap (λ change. change.before) same.1 in
    let present : IsSome (get eq before c.in-Some.change.key) = search rules in
    let written : (q : g.row.K.Denot) → get eq after q ≡ cond (eq last.key q) (Some (latest eq notes last.key)) (get eq before q)
    = rw (told, key) ((c.get_mut.follows.holds c.in-Some.change.before).3 present).0 in
    record {
      values = taken_back eq g.met.K.Eq.laws (get eq before) (get eq after) last notes kept.values written;
      changes = sym same.0;
    }
