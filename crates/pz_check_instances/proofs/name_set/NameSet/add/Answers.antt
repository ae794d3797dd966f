use Rattle.std.proofs.Common.{ap, ◌∙◌, not, ℕ, List, map, Bor}
use Rattle.std.specs.Str.{bytes_eq}
use Rattle.pz_check_instances.proofs.NameLists.{added_is, any_map}
use Rattle.pz_check_instances.proofs.name_set.NameSet.add.Goals as goal

pub returns-clause-added : goal.returns-clause-added
returns-clause-added c = ap (λ (ks : List (Bor (List ℕ))). map (λ k. k.now) ks) c.in_ok-insert.ensures.keys ∙ added_is c.args.self.now.set.keys c.args.name

pub returns-clause-fresh : goal.returns-clause-fresh
returns-clause-fresh c = c.in_ok-insert.ensures.added ∙ ap not (any_map (bytes_eq c.args.name.now) (λ (k : Bor (List ℕ)). k.now) c.args.self.now.set.keys)
