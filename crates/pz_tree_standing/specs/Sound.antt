-- What is so of the nodes of a process at all times.
use Rattle.std.specs.Prelude.{ℕ}
use Rattle.pz_tree_standing.specs.Heads.{Shape}
use Rattle.pz_tree_standing.specs.Standing.{Fits}
use Rattle.pz_tree_standing.specs.Resting.{Rests}
use Rattle.pz_tree_standing.specs.Whole.{Whole}

-- in frame f, where its clock shows c
pub record Sound (f c : ℕ) (s : Shape) : Type 0 where
  pub whole : Whole s
  pub fits : Fits c s
  pub rests : Rests f c s
