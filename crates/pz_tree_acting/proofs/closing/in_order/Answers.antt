use Rattle.std.proofs.Common.{ℕ, List, subst}
use Rattle.std.specs.Prelude.{IfOk}
use Rattle.std.specs.List.Sorted.{IsPermutation}
use Rattle.pz_tree_acting.proofs.closing.in_order.Goals as goal

pub returns-clause-frames : goal.returns-clause-frames
returns-clause-frames c = subst (λ (l : List ℕ). IfOk c.sorted.result (λ s. IsPermutation l s.items)) c.in_ok-listed.ensures c.sorted.ensures.same
