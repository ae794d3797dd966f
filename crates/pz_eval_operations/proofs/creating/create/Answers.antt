use Rattle.std.proofs.Common.{arith}
use Rattle.pz_eval_operations.proofs.Absent.{created_as}
use Rattle.pz_eval_operations.proofs.creating.create.Goals as goal

pub returns-in-Ok-clause-tells : goal.returns-in-Ok-clause-tells
returns-in-Ok-clause-tells c m locals known =
    created_as m c.args.class c.args.at c.args.state.now c.make.new.self locals c.in-Ok.r c.count_fields-fields.result
    (omega (arith, c.objects.ensures.count, c.objects.ensures.limit, c.if-objects-eq-OBJECT_LIMIT.false)) c.in-Ok.ensures.number
    (c.count_fields-fields.ensures m known) c.in-Ok.ensures.ok
