use Rattle.std.specs.Prelude.{int_lt, int_le}
use Rattle.pz_eval_operations.proofs.Applied.{read_back, same_bits, equal_gives, unequal_gives, less_gives, less_equal_gives, greater_gives, greater_equal_gives}
use Rattle.pz_eval_operations.proofs.operating.truth_between.Goals as goal

pub returns-in-Equal : goal.returns-in-Equal
returns-in-Equal c = equal_gives c.args.op c.args.a c.args.b _ c.in-Equal.is (same_bits c.args.a c.args.b c.ranges.a c.ranges.b)

pub returns-in-Unequal : goal.returns-in-Unequal
returns-in-Unequal c = unequal_gives c.args.op c.args.a c.args.b _ c.in-Unequal.is (same_bits c.args.a c.args.b c.ranges.a c.ranges.b)

pub returns-in-Less : goal.returns-in-Less
returns-in-Less c = less_gives c.args.op c.args.a c.args.b _ c.in-Less.is (read_back c.args.a c.args.b c.ranges.a c.ranges.b int_lt)

pub returns-in-LessEqual : goal.returns-in-LessEqual
returns-in-LessEqual c = less_equal_gives c.args.op c.args.a c.args.b _ c.in-LessEqual.is (read_back c.args.a c.args.b c.ranges.a c.ranges.b int_le)

pub returns-in-Greater : goal.returns-in-Greater
returns-in-Greater c = greater_gives c.args.op c.args.a c.args.b _ c.in-Greater.is (read_back c.args.a c.args.b c.ranges.a c.ranges.b (λ x y. int_lt y x))

pub returns-in-GreaterEqual : goal.returns-in-GreaterEqual
returns-in-GreaterEqual c = greater_equal_gives c.args.op c.args.a c.args.b _ c.in-GreaterEqual.is (read_back c.args.a c.args.b c.ranges.a c.ranges.b (λ x y. int_le y x))
