-- What a table of pairs is seen as, from what it keeps.
use Rattle.std.specs.Prelude.{ℕ, Bool, List, map, All}
use Rattle.pz_match.specs.Table.{Table}
use Rattle.pz_match.specs.devices.Kept.{Kept, all_pairs}
use Rattle.pz_match.specs.devices.Tallies.{GroupsView}
use Rattle.pz_match.specs.devices.Holding.{Holds}
use Rattle.pz_match.specs.devices.Ordering.{Ordered}

abbrev pub table_of : List Kept → ℕ → Bool → Table
table_of all wires lost =
    record {
      senders = map (λ e. map (λ s. s.sender) e.sends) all;
      receivers = map (λ e. map (λ r. r.receiver) e.receives) all;
      pairs = all_pairs all wires;
      lost = lost;
    }

-- what a table keeps
pub record Stands (groups : GroupsView) (all : List Kept) : Type 0 where
  pub holds : Holds groups all
  pub ordered : All Ordered all
