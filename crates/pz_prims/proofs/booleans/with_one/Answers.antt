use Rattle.std.proofs.Common.{◌∙◌, ap, sym, Some}
use Rattle.pz_prims.proofs.Operators.{by_connective}
use Rattle.pz_prims.proofs.booleans.with_one.Goals as goal

pub returns-in-Some : goal.returns-in-Some
returns-in-Some c = ap Some c.apply.ensures ∙ sym (by_connective c.args.a c.args.selector.now c.args.argument.now _ c.in-Some.ensures)
