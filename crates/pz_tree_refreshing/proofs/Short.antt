-- What a node keeps is due soon by a clock that is ahead, too.
use Rattle.std.proofs.Common.{◌≡◌, ◌<◌, ◌+◌, ◌^◌, ℕ, Option, Some, None, arith}
use Rattle.std.specs.Prelude.{option_map, IfSome}
use Rattle.pz_tree_nodes.specs.pz_offer.Summaries.{MayShift}
use Rattle.pz_tree_nodes.specs.pz_tree_standing.Soon.{HasRoom, IsSoon}
use Rattle.pz_tree_nodes.specs.declared.kept.Kept.{Kept}
use Rattle.pz_tree_nodes.specs.Keeping.{kept_later}

-- what is due soon there can be shifted, and is due soon here
pub may_shift : (c inner by : ℕ) (k : Kept) → inner + by ≡ c → HasRoom c → IsSoon inner k.summary.due → MayShift by k.summary
may_shift c inner by k e room h = of k.summary.due h
  where
    of : (d : Option ℕ) → IsSoon inner d → IfSome d (λ x. x + by < 2 ^ 128)
    of None h = tt
    of (Some d) h = omega (arith, h, e, room)

pub soon_here : (c inner by : ℕ) (k : Kept) → inner + by ≡ c → IsSoon inner k.summary.due → IsSoon c (kept_later by k).summary.due
soon_here c inner by k e h = of k.summary.due h
  where
    of : (d : Option ℕ) → IsSoon inner d → IsSoon c (option_map (λ x. x + by) d)
    of None h = tt
    of (Some d) h = omega (arith, h, e)
