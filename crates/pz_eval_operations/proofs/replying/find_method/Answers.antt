use Rattle.std.proofs.Math.Logic.{∥∥₁_elim}
use Rattle.std.specs.Coded.{le_prop}
use Rattle.pz_eval_operations.proofs.replying.find_method.Goals as goal

pub body-requires : goal.body-requires
body-requires c = ∥∥₁_elim c.requires le_prop (λ k. c.in_ok-method.ensures.belongs k.0 k.1)
