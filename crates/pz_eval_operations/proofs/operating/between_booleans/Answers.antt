use Rattle.std.proofs.Common.{◌∙◌}
use Rattle.pz_eval_operations.proofs.Applied.{both_gives, either_gives}
use Rattle.pz_eval_operations.proofs.operating.between_booleans.Goals.{then-a, else-a, then-a-2, else-a-2}
use Rattle.pz_eval_operations.proofs.operating.between_booleans.Goals as goal

pub returns-after-a-clause-applied : goal.returns-after-a-clause-applied
returns-after-a-clause-applied c = both_gives c.args.op c.args.a c.args.b c.if-a.result c.in-Ampersand.is (elim c.if-a.branch [ then-a w ↦ rw w.if-a.true w.result-is | else-a w ↦ rw w.if-a.false (w.result-is ∙ w.if-a.false) ])

pub returns-after-a-2-clause-applied : goal.returns-after-a-2-clause-applied
returns-after-a-2-clause-applied c = either_gives c.args.op c.args.a c.args.b c.if-a-2.result c.in-Bar.is (elim c.if-a-2.branch [ then-a-2 w ↦ rw w.if-a-2.true (w.result-is ∙ w.if-a-2.true) | else-a-2 w ↦ rw w.if-a-2.false w.result-is ])
