use Rattle.std.proofs.Common.{subst}
use Rattle.pz_classes_code.specs.CodeView.{Tree}
use Rattle.pz_eval_operations.specs.devices.Sites.{place_of, memory_of}
use Rattle.pz_eval_operations.specs.devices.AtOnce.{Attempt}
use Rattle.pz_eval_operations.proofs.Worth.{chain_is}
use Rattle.pz_eval_operations.proofs.attempts.at_once.Goals as goal

pub returns-in-Chain-clause-finds : goal.returns-in-Chain-clause-finds
returns-in-Chain-clause-finds c =
    subst (λ (t : Tree). Attempt c.args.depth (place_of c.args.activation.now.site) (memory_of c.args.activation.now c.args.state.now.held) t c.args.units.now c.numbers_at_once.new.units c.numbers_at_once.result)
    (chain_is c.args.code.now c.in-Chain.first c.get.result.now c.in-Chain.links c.as_slice.result.now c.in-Chain.is c.get.ensures c.as_slice.ensures)
    (c.numbers_at_once.ensures.finds c.args.code.now.pos)

pub returns-in-Chain-clause-within : goal.returns-in-Chain-clause-within
returns-in-Chain-clause-within c within = c.numbers_at_once.ensures.within _
