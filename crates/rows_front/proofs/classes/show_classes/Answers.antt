use Rattle.std.proofs.Common.{arith}
use Rattle.rows_front.proofs.classes.show_classes.Goals as goal

pub show_class-requires : goal.show_class-requires
show_class-requires c = c.count.ensures.belongs (record { 0 = c.loop-number.number }) (omega (arith, c.if-number-count.false))
