use Rattle.std.proofs.Common.{arith}
use Rattle.pz_classes_rules.proofs.FewMarks.{one_more_group}
use Rattle.pz_classes.proofs.methods.count_names.Goals as goal

pub overflow_cast-count : goal.overflow_cast-count
overflow_cast-count c =
    let more = one_more_group c.args.groups.now c.loop-group.group-index c.group-item.result c.loop-group-test.true c.group-item.is in
    omega (arith, more, c.len.ensures, c.requires)

pub overflow_add-count : goal.overflow_add-count
overflow_add-count c =
    let more = one_more_group c.args.groups.now c.loop-group.group-index c.group-item.result c.loop-group-test.true c.group-item.is in
    omega (arith, more, c.loop-group.invariant, c.len.ensures, c.requires)
