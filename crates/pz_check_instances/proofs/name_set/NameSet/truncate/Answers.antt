use Rattle.std.proofs.Common.{ap, sym, ◌∙◌, ℕ, List, map, Bor}
use Rattle.std.proofs.lemmas.List.{take-map}
use Rattle.pz_check_instances.proofs.name_set.NameSet.truncate.Goals as goal

pub returns : goal.returns
returns c = ap (λ (ks : List (Bor (List ℕ))). map (λ k. k.now) ks) c.truncate.ensures.keys ∙ sym (take-map (λ (k : Bor (List ℕ)). k.now) c.args.count c.args.self.now.set.keys)
