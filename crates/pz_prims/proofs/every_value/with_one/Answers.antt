use Rattle.std.proofs.Common.{◌∙◌, ap, sym, Some}
use Rattle.pz_prims.proofs.Operators.{by_equality}
use Rattle.pz_prims.proofs.every_value.with_one.Goals as goal

pub returns-in-Some : goal.returns-in-Some
returns-in-Some c = ap Some c.compare.ensures ∙ sym (by_equality c.args.v.now c.args.selector.now c.args.w.now _ c.in-Some.ensures)
