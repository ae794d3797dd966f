use Rattle.std.proofs.Common.{◌≡◌, drop}
use Rattle.std.specs.List.{list_any}
use Rattle.std.specs.Str.{bytes_eq}
use Rattle.pz_env_tree.specs.Names.{instance_name}
use Rattle.pz_env.proofs.refusing.has_its_name.Given as goal

abbrev pub invariant-loop-instance : goal.invariant-loop-instance
invariant-loop-instance l = list_any (λ x. bytes_eq x.name.name instance_name) (drop l.instance-index l.instances) ≡ list_any (λ x. bytes_eq x.name.name instance_name) l.instances
