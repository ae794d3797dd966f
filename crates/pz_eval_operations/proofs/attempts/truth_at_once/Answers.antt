use Rattle.std.proofs.Common.{◌-◌, Some, subst, arith}
use Rattle.pz_classes_code.specs.pz_syntax.Expressions.{chain}
use Rattle.pz_classes_code.specs.pz_value.declared.value.Value.TheVariants.{Bool as Boolean, Int}
use Rattle.pz_classes_code.specs.CodeView.{Tree, view}
use Rattle.pz_eval_operations.specs.devices.AtOnce.{Attempt}
use Rattle.pz_eval_operations.specs.devices.Sites.{place_of, memory_of}
use Rattle.pz_eval_operations.specs.devices.Views.{links_view}
use Rattle.pz_eval_operations.proofs.Worth.{chain_is, three_found}
use Rattle.pz_eval_operations.proofs.attempts.truth_at_once.Goals as goal

pub returns : goal.returns
returns c =
    subst (λ (t : Tree). Attempt c.args.depth (place_of c.args.activation.now.site) (memory_of c.args.activation.now c.args.state.now.held) t c.args.units.now (c.args.units.now - 3) (Some (Boolean c.in_ok-truth.truth)))
    (chain_is c.args.code.now c.in-Chain.first c.get.result.now c.in-Chain.links c.as_slice.result.now c.in-Chain.is c.get.ensures c.as_slice.ensures)
    (three_found (place_of c.args.activation.now.site) (memory_of c.args.activation.now c.args.state.now.held) (chain c.args.code.now.pos (view c.get.result.now) (links_view c.as_slice.result.now)) (Boolean c.in_ok-truth.truth) c.args.depth c.args.units.now (c.args.units.now - 3)
    (omega (arith, c.if-depth-lt2.false)) (omega (arith, c.if-units-lt3.false)) (c.in_ok-truth.ensures c.args.code.now.pos))
