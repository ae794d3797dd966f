use Rattle.std.proofs.Common.{◌∙◌, ap, sym, Some}
use Rattle.pz_prims.proofs.Operators.{by_comparison}
use Rattle.pz_prims.proofs.chars.with_one.Goals as goal

pub returns-in-Some : goal.returns-in-Some
returns-in-Some c = ap Some c.apply.ensures ∙ sym (by_comparison c.args.a c.args.selector.now c.args.argument.now _ c.in-Some.ensures)
