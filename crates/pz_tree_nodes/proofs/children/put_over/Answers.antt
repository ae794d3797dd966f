use Rattle.std.proofs.Common.{subst}
use Rattle.std.specs.Prelude.{IfOk}
use Rattle.pz_nodes.specs.Arena.{find}
use Rattle.pz_tree_nodes.specs.devices.Parts.{Puts}
use Rattle.pz_tree_nodes.proofs.children.put_over.Goals as goal

pub returns : goal.returns
returns g c = subst (λ z. IfOk c.put.result (λ part. Puts (find c.args.nodes.now) (find c.put.new.nodes) c.args.head c.args.kids z c.args.steps.now c.put.new.steps part.key part.kept)) c.in_ok-kept.ensures c.put.ensures
