-- The values of constants.
use Rattle.std.specs.Prelude.{true, false}
use Rattle.pz_syntax.specs.declared.exprs.Literal.{Literal}
use Rattle.pz_syntax.specs.declared.exprs.Literal.TheVariants as literal
use Rattle.pz_value.specs.declared.value.Value.{Value}
use Rattle.pz_value.specs.declared.value.Value.TheVariants.{Nil, Bool, Int, Char, Str}

-- a float, which no sound model has, counts as nil
abbrev pub constant : Literal → Value
constant (literal.Int n) = Int n
constant literal.Float = Nil
constant (literal.Char c) = Char c
constant (literal.Str text) = Str text
constant literal.True = Bool true
constant literal.False = Bool false
constant literal.Nil = Nil
