use Rattle.std.proofs.Common.{ℤ, ◌+ℤ◌, ◌-ℤ◌, ◌*ℤ◌, w64}
use Rattle.std.specs.Int.{cast_unsigned, cast_signed}
use Rattle.std.proofs.lemmas.Int.{to_z-of_z}
use Rattle.pz_classes_code.specs.pz_value.declared.value.Value.TheVariants.{Int}
use Rattle.pz_eval_operations.proofs.Applied.{Gives, in_range, sum_gives, difference_gives, product_gives}
use Rattle.pz_eval_operations.proofs.operating.number_between.Goals as goal

pub returns-in-Plus : goal.returns-in-Plus
returns-in-Plus c =
    in_range c.checked_add.result (cast_signed w64 (cast_unsigned w64 c.args.a) +ℤ cast_signed w64 (cast_unsigned w64 c.args.b)) (λ (n : ℤ). Gives c.args.op (Int c.args.a) (Int c.args.b) (Int n)) c.checked_add.ensures
    (sum_gives c.args.op c.args.a c.args.b (cast_signed w64 (cast_unsigned w64 c.args.a)) (cast_signed w64 (cast_unsigned w64 c.args.b)) c.in-Plus.is (to_z-of_z w64 c.args.a c.ranges.a) (to_z-of_z w64 c.args.b c.ranges.b))

pub returns-in-Minus : goal.returns-in-Minus
returns-in-Minus c =
    in_range c.checked_sub.result (cast_signed w64 (cast_unsigned w64 c.args.a) -ℤ cast_signed w64 (cast_unsigned w64 c.args.b)) (λ (n : ℤ). Gives c.args.op (Int c.args.a) (Int c.args.b) (Int n)) c.checked_sub.ensures
    (difference_gives c.args.op c.args.a c.args.b (cast_signed w64 (cast_unsigned w64 c.args.a)) (cast_signed w64 (cast_unsigned w64 c.args.b)) c.in-Minus.is (to_z-of_z w64 c.args.a c.ranges.a) (to_z-of_z w64 c.args.b c.ranges.b))

pub returns-in-Star : goal.returns-in-Star
returns-in-Star c =
    in_range c.checked_mul.result (cast_signed w64 (cast_unsigned w64 c.args.a) *ℤ cast_signed w64 (cast_unsigned w64 c.args.b)) (λ (n : ℤ). Gives c.args.op (Int c.args.a) (Int c.args.b) (Int n)) c.checked_mul.ensures
    (product_gives c.args.op c.args.a c.args.b (cast_signed w64 (cast_unsigned w64 c.args.a)) (cast_signed w64 (cast_unsigned w64 c.args.b)) c.in-Star.is (to_z-of_z w64 c.args.a c.ranges.a) (to_z-of_z w64 c.args.b c.ranges.b))
