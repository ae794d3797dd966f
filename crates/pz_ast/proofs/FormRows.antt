-- Trees that the grammar has, and trees that it has not.
use Rattle.std.proofs.Common.{refl, pos, Some, None, arith, lit≤, lit<}
use Rattle.pz_syntax.specs.declared.tokens.Symbol.TheVariants as s
use Rattle.pz_syntax.specs.Expressions.{group, chain, sends, unary, assign, none, left_out, no_links, link, no_sendings, sending}
use Rattle.pz_syntax.specs.ExpressionErasure.{origin}
use Rattle.pz_syntax.specs.ExpressionForm.{IsExpression, IsValue}
use Rattle.pz_syntax.specs.Statements.{value, parallel, receive, no_branches, branch, no_statements}
use Rattle.pz_syntax.specs.StatementForm.{IsStatement}
use Rattle.pz_ast.proofs.RowWords.{m, p, x, y, var, int, one}

-- x - y + 1
sum : IsExpression (chain origin (var x) (link s.Minus origin (var y) (link s.Plus origin (int (pos 1)) no_links)))
sum = (lit≤ tt, tt, lit< tt, (refl, tt, lit< tt, (refl, tt, lit< tt, tt)))

-- x + y * 1
products : IsExpression (chain origin (var x) (link s.Plus origin (chain origin (var y) (link s.Star origin (int (pos 1)) no_links)) no_links))
products = (lit≤ tt, tt, lit< tt, (refl, (lit≤ tt, tt, lit< tt, (refl, tt, lit< tt, tt)), lit< tt, tt))

-- a sum as the right operand of a sum stands in brackets
right_sum : IsExpression (chain origin (var x) (link s.Minus origin (chain origin (var y) (link s.Plus origin (int (pos 1)) no_links)) no_links)) → ⊥
right_sum h = absurd (omega (arith, h.3.2))

-- a sum as an operand of a product stands in brackets
loose_sum : IsExpression (chain origin (chain origin (var x) (link s.Plus origin (var y) no_links)) (link s.Star origin (int (pos 1)) no_links)) → ⊥
loose_sum h = absurd (omega (arith, h.2))

-- sums and products are no links of one chain
mixed : IsExpression (chain origin (var x) (link s.Plus origin (var y) (link s.Star origin (int (pos 1)) no_links))) → ⊥
mixed h = absurd (omega (arith, h.3.3.0))

-- x + y as a receiver stands in brackets
sum_sent : IsExpression (sends origin (chain origin (var x) (link s.Plus origin (var y) no_links)) (sending m left_out no_sendings)) → ⊥
sum_sent h = absurd (omega (arith, h.1))

-- - x m is the sign of x m
sign_sent : IsExpression (sends origin (unary origin s.Minus (var x)) (sending m left_out no_sendings)) → ⊥
sign_sent h = absurd (omega (arith, h.1))

sent_sign : IsExpression (unary origin s.Minus (sends origin (var x) (sending m left_out no_sendings)))
sent_sign = (tt, (tt, lit≤ tt, (tt, tt)), lit≤ tt)

-- an assignment is an expression and no value
assigned : IsExpression (assign origin x (var y))
assigned = (tt, lit≤ tt)

no_value : IsValue (assign origin x (var y)) → ⊥
no_value h = absurd (omega (arith, h.1))

-- ()
empty_brackets : IsExpression (group origin none) → ⊥
empty_brackets h = h

-- a statement does not begin as a bracketed expression does
bracketed_value : IsStatement (value origin (sends origin (group origin (one (var x))) (sending m left_out no_sendings))) → ⊥
bracketed_value h = h.1

named_value : IsStatement (value origin (sends origin (var x) (sending m left_out no_sendings)))
named_value = (((tt, lit≤ tt, (tt, tt)), lit≤ tt), tt)

-- par rap, and a branch without statements
no_par : IsStatement (parallel origin no_branches) → ⊥
no_par h = h

empty_branch : IsStatement (parallel origin (branch no_statements no_branches)) → ⊥
empty_branch h = h.0

-- a condition stands in brackets
loose_condition : IsStatement (receive origin p m None (Some (var x)) left_out) → ⊥
loose_condition h = h.0
