use Rattle.std.proofs.Common.{◌≡◌, ℕ, List, drop}
use Rattle.std.specs.Option.{option_or}
use Rattle.std.specs.List.{flat_map}
use Rattle.pz_bind_rules.specs.pz_syntax.declared.clusters.Instance.{Instance}
use Rattle.pz_bind_rules.specs.pz_syntax.Classes.{ModelTree}
use Rattle.pz_bind_levels.specs.devices.Walking.{linked_in}
use Rattle.pz_bind_rules.specs.devices.Layouts.{linked_by, link_of}
use Rattle.pz_bind.specs.devices.Namings.{IsNaming}
use Rattle.pz_bind.proofs.naming.Naming.add_ends.Given as goal

abbrev pub invariant-loop-end : goal.invariant-loop-end
invariant-loop-end l = (m : ModelTree) (xs : List Instance) → IsNaming m xs l.self → (i p : ℕ)
    → option_or (linked_in l.links i p) (linked_by (flat_map (link_of m xs l.channel) (drop l.end-index l.ends)) i p) ≡ option_or (linked_in l.fn.links i p) (linked_by (flat_map (link_of m xs l.channel) l.ends) i p)
