use Rattle.std.proofs.Common.{◌-◌, arith}
use Rattle.pz_classes_code.specs.pz_syntax.Expressions.{chain}
use Rattle.pz_classes_code.specs.CodeView.{view}
use Rattle.pz_eval_operations.specs.devices.Sites.{place_of, memory_of}
use Rattle.pz_eval_operations.specs.devices.Views.{links_view}
use Rattle.pz_eval_operations.proofs.Worth.{three_found}
use Rattle.pz_eval_operations.proofs.attempts.numbers_at_once.Goals as goal

pub returns-clause-finds : goal.returns-clause-finds
returns-clause-finds c at =
    three_found (place_of c.args.activation.now.site) (memory_of c.args.activation.now c.args.state.now.held) (chain at (view c.args.first.now) (links_view c.args.links.now)) c.in_ok-value.value c.args.depth c.args.units.now (c.args.units.now - 3)
    (omega (arith, c.if-depth-lt2.false)) (omega (arith, c.if-units-lt3.false)) (c.in_ok-value.ensures.worth at)
