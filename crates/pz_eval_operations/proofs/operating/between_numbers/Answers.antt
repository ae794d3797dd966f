use Rattle.std.proofs.Common.{◌+ℤ◌, ◌-ℤ◌, ◌*ℤ◌, w64}
use Rattle.std.specs.Prelude.{int_lt, int_le}
use Rattle.std.specs.Int.{cast_unsigned, cast_signed}
use Rattle.std.proofs.lemmas.Int.{to_z-of_z}
use Rattle.pz_classes_code.specs.pz_value.declared.value.Value.{Value}
use Rattle.pz_classes_code.specs.pz_value.declared.value.Value.TheVariants.{Int}
use Rattle.pz_eval_operations.proofs.Applied.{Gives, read_back, same_bits, by_number, sum_gives, difference_gives, product_gives, equal_gives, unequal_gives, less_gives, less_equal_gives, greater_gives, greater_equal_gives}
use Rattle.pz_eval_operations.proofs.operating.between_numbers.Goals as goal

pub returns-in-Plus-clause-applied : goal.returns-in-Plus-clause-applied
returns-in-Plus-clause-applied c =
    by_number c.number.result c.checked_add.result (cast_signed w64 (cast_unsigned w64 c.args.a) +ℤ cast_signed w64 (cast_unsigned w64 c.args.b)) (λ (y : Value). Gives c.args.op (Int c.args.a) (Int c.args.b) y) c.number.ensures c.checked_add.ensures
    (sum_gives c.args.op c.args.a c.args.b (cast_signed w64 (cast_unsigned w64 c.args.a)) (cast_signed w64 (cast_unsigned w64 c.args.b)) c.in-Plus.is (to_z-of_z w64 c.args.a c.ranges.a) (to_z-of_z w64 c.args.b c.ranges.b))

pub returns-in-Minus-clause-applied : goal.returns-in-Minus-clause-applied
returns-in-Minus-clause-applied c =
    by_number c.number-in-Minus.result c.checked_sub.result (cast_signed w64 (cast_unsigned w64 c.args.a) -ℤ cast_signed w64 (cast_unsigned w64 c.args.b)) (λ (y : Value). Gives c.args.op (Int c.args.a) (Int c.args.b) y) c.number-in-Minus.ensures c.checked_sub.ensures
    (difference_gives c.args.op c.args.a c.args.b (cast_signed w64 (cast_unsigned w64 c.args.a)) (cast_signed w64 (cast_unsigned w64 c.args.b)) c.in-Minus.is (to_z-of_z w64 c.args.a c.ranges.a) (to_z-of_z w64 c.args.b c.ranges.b))

pub returns-in-Star-clause-applied : goal.returns-in-Star-clause-applied
returns-in-Star-clause-applied c =
    by_number c.number-in-Star.result c.checked_mul.result (cast_signed w64 (cast_unsigned w64 c.args.a) *ℤ cast_signed w64 (cast_unsigned w64 c.args.b)) (λ (y : Value). Gives c.args.op (Int c.args.a) (Int c.args.b) y) c.number-in-Star.ensures c.checked_mul.ensures
    (product_gives c.args.op c.args.a c.args.b (cast_signed w64 (cast_unsigned w64 c.args.a)) (cast_signed w64 (cast_unsigned w64 c.args.b)) c.in-Star.is (to_z-of_z w64 c.args.a c.ranges.a) (to_z-of_z w64 c.args.b c.ranges.b))

pub returns-in-Equal-clause-applied : goal.returns-in-Equal-clause-applied
returns-in-Equal-clause-applied c = equal_gives c.args.op c.args.a c.args.b _ c.in-Equal.is (same_bits c.args.a c.args.b c.ranges.a c.ranges.b)

pub returns-in-Unequal-clause-applied : goal.returns-in-Unequal-clause-applied
returns-in-Unequal-clause-applied c = unequal_gives c.args.op c.args.a c.args.b _ c.in-Unequal.is (same_bits c.args.a c.args.b c.ranges.a c.ranges.b)

pub returns-in-Less-clause-applied : goal.returns-in-Less-clause-applied
returns-in-Less-clause-applied c = less_gives c.args.op c.args.a c.args.b _ c.in-Less.is (read_back c.args.a c.args.b c.ranges.a c.ranges.b int_lt)

pub returns-in-LessEqual-clause-applied : goal.returns-in-LessEqual-clause-applied
returns-in-LessEqual-clause-applied c = less_equal_gives c.args.op c.args.a c.args.b _ c.in-LessEqual.is (read_back c.args.a c.args.b c.ranges.a c.ranges.b int_le)

pub returns-in-Greater-clause-applied : goal.returns-in-Greater-clause-applied
returns-in-Greater-clause-applied c = greater_gives c.args.op c.args.a c.args.b _ c.in-Greater.is (read_back c.args.a c.args.b c.ranges.a c.ranges.b (λ x y. int_lt y x))

pub returns-in-GreaterEqual-clause-applied : goal.returns-in-GreaterEqual-clause-applied
returns-in-GreaterEqual-clause-applied c = greater_equal_gives c.args.op c.args.a c.args.b _ c.in-GreaterEqual.is (read_back c.args.a c.args.b c.ranges.a c.ranges.b (λ x y. int_le y x))
