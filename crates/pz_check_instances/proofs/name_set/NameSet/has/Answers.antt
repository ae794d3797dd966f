use Rattle.std.proofs.Common.{◌∙◌, ℕ, List, Bor}
use Rattle.std.specs.Str.{bytes_eq}
use Rattle.pz_check_instances.proofs.NameLists.{any_map}
use Rattle.pz_check_instances.proofs.name_set.NameSet.has.Goals as goal

pub returns : goal.returns
returns c = c.contains.ensures ∙ any_map (bytes_eq c.args.name.now) (λ (k : Bor (List ℕ)). k.now) c.args.self.now.set.keys
