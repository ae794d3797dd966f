use Rattle.std.proofs.Common.{ap, ◌∙◌, arith}
use Rattle.pz_syntax.specs.ExpressionView.{list_of}
use Rattle.pz_env.specs.devices.Making.{constant_at}
use Rattle.pz_env.proofs.Lists.{made_all}
use Rattle.pz_env.proofs.Made.{constants_are}
use Rattle.pz_env.proofs.statements.constants.Goals as goal

pub returns : goal.returns
returns c =
    ap list_of (made_all (constant_at c.args.at) c.args.values.now c.loop-value.value-index _ _ (omega arith) c.loop-value.invariant)
    ∙ constants_are c.args.at c.args.values.now
