-- The cells of a list of totals: the totals, behind them the sums of neighbours, and so on up to one.
use Rattle.std.specs.Prelude.{◌≡◌, ◌≤◌, ℕ, zero, suc, List, [], ◌∷◌, ◌++◌, length, take}
use Rattle.pz_sim_totals.specs.declared.total.Total.{Total}
use Rattle.pz_sim_totals.specs.Sums.{both}

-- the last one stands alone where their number is odd
abbrev pub pairs : List Total → List Total
pairs [] = []
pairs (s ∷ []) = s ∷ []
pairs (s ∷ (t ∷ ts)) = both s t ∷ pairs ts

-- at most so many levels
abbrev pub levels : ℕ → List Total → List Total
levels zero ts = ts
levels (suc most) [] = []
levels (suc most) (t ∷ []) = t ∷ []
levels (suc most) (s ∷ (t ∷ ts)) = (s ∷ (t ∷ ts)) ++ levels most (both s t ∷ pairs ts)

-- cells of so many totals
pub record AreLevels (len : ℕ) (cells : List Total) : Type 0 where
  pub long : len ≤ length cells
  pub sums : cells ≡ levels len (take len cells)
