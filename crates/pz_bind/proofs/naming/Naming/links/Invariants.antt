use Rattle.std.proofs.Common.{◌≡◌, ℕ, List, drop}
use Rattle.std.specs.Option.{option_or}
use Rattle.pz_bind_rules.specs.pz_syntax.declared.clusters.Instance.{Instance}
use Rattle.pz_bind_rules.specs.pz_syntax.Classes.{ModelTree}
use Rattle.pz_bind_levels.specs.devices.Walking.{linked_in}
use Rattle.pz_bind_rules.specs.devices.Layouts.{linked_by, links_from}
use Rattle.pz_bind.specs.devices.Namings.{IsNaming}
use Rattle.pz_bind.proofs.naming.Naming.links.Given as goal

abbrev pub invariant-loop-number : goal.invariant-loop-number
invariant-loop-number l = (m : ModelTree) (xs : List Instance) → IsNaming m xs l.self → (i p : ℕ)
    → option_or (linked_in l.links i p) (linked_by (links_from m xs l.number (drop l.number l.channels)) i p) ≡ linked_by (links_from m xs 0 l.channels) i p
