-- The rules of expressions and their operators.
use Rattle.std.specs.Prelude.{ℕ, Option, Some, None}
use Rattle.pz_syntax.specs.declared.tokens.Symbol.{Symbol}
use Rattle.pz_syntax.specs.declared.tokens.Symbol.TheVariants as s
use Rattle.pz_parser_cursor.specs.declared.ahead.Next.{Next}
use Rattle.pz_parser_cursor.specs.declared.ahead.Next.TheVariants as n
use Rattle.pz_parser_expressions.specs.declared.rule.Rule.{Rule}
use Rattle.pz_parser_expressions.specs.declared.rule.Rule.TheVariants as rule

-- the least level of what the rule reads
abbrev pub rank : Rule → ℕ
rank rule.Expression = 0
rank rule.Value = 1
rank rule.Conjunction = 2
rank rule.Comparison = 3
rank rule.Sum = 4
rank rule.Product = 5
rank rule.Operand = 6

abbrev pub disjunction : Next → Option Symbol
disjunction n.Bar = Some s.Bar
disjunction _ = None

abbrev pub conjunction : Next → Option Symbol
conjunction n.Ampersand = Some s.Ampersand
conjunction _ = None

abbrev pub comparison : Next → Option Symbol
comparison n.Equal = Some s.Equal
comparison n.Same = Some s.Same
comparison n.Unequal = Some s.Unequal
comparison n.Distinct = Some s.Distinct
comparison n.Less = Some s.Less
comparison n.LessEqual = Some s.LessEqual
comparison n.Greater = Some s.Greater
comparison n.GreaterEqual = Some s.GreaterEqual
comparison _ = None

abbrev pub sum : Next → Option Symbol
sum n.Plus = Some s.Plus
sum n.Minus = Some s.Minus
sum _ = None

abbrev pub product : Next → Option Symbol
product n.Star = Some s.Star
product n.Slash = Some s.Slash
product _ = None

-- the operator of the rule that comes next
abbrev pub operator : Rule → Next → Option Symbol
operator rule.Expression x = None
operator rule.Value x = disjunction x
operator rule.Conjunction x = conjunction x
operator rule.Comparison x = comparison x
operator rule.Sum x = sum x
operator rule.Product x = product x
operator rule.Operand x = None
