use Rattle.std.proofs.Common.{◌≡◌, length}
use Rattle.std.specs.Prelude.{All}
use Rattle.pz_rules.specs.pz_syntax.Classes.{ModelTree}
use Rattle.pz_tree.specs.Trees.{IsFresh}
use Rattle.pz_sim.proofs.Summed.{summed}
use Rattle.pz_sim.proofs.summing.totals_in.Given as goal

abbrev pub invariant-loop-number : goal.invariant-loop-number
invariant-loop-number l = record {
  count : length l.totals ≡ length l.trees;
  totals : (m : ModelTree) → All (IsFresh m) l.trees → l.totals ≡ summed m l.number l.trees;
}
