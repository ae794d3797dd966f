use Rattle.std.proofs.Common.{◌&&◌, nat_eq}
use Rattle.std.specs.Str.{bytes_eq}
use Rattle.pz_check_names.specs.declared.selectors.Selector.{Selector}
use Rattle.pz_check_names.proofs.Sets.{any_inserted, selectors_alike}
use Rattle.pz_check_names.proofs.selectors.Selectors.add.Goals as goal

pub returns : goal.returns
returns c = λ q n.
    let key = c.key_of.result in
    rw (c.in_ok-insert.ensures.keys, ← c.key_of.ensures.named, ← c.key_of.ensures.counted)
    (any_inserted (λ (a b : Selector). bytes_eq a.name.now b.name.now && nat_eq a.count b.count) (λ s. nat_eq n s.count && bytes_eq q s.name.now) key
    (λ x is. selectors_alike key.name.now x.name.now key.count x.count q n is) c.args.self.now.set.keys)
