use Rattle.std.proofs.Common.{◌≡◌, ◌++◌, map, drop}
use Rattle.pz_syntax.specs.ExpressionView.{view}
use Rattle.pz_env.specs.devices.Making.{constant_at}
use Rattle.pz_env.proofs.statements.constants.Given as goal

abbrev pub invariant-loop-value : goal.invariant-loop-value
invariant-loop-value l = map view l.list ++ map (constant_at l.at) (drop l.value-index l.values) ≡ map (constant_at l.at) l.values
