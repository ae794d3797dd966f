use Rattle.std.proofs.Common.{◌≡◌, ◌∙◌, ap, sym, Some, arith}
use Rattle.std.proofs.lemmas.Int.{to_z-of_z}
use Rattle.pz_prims.specs.devices.Operators.{operator_row}
use Rattle.pz_prims.proofs.Operators.{by_operator}
use Rattle.pz_prims.proofs.integers.with_one.Goals as goal

pub returns-in-Some : goal.returns-in-Some
returns-in-Some c =
    let applied : c.apply.result ≡ operator_row c.args.a c.in-Some.operator c.args.argument.now = grind (arith, to_z-of_z) in
    ap Some applied ∙ sym (by_operator c.args.a c.args.selector.now c.args.argument.now _ c.in-Some.ensures)
